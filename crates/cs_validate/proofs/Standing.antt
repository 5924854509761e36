-- Schemas that are one after another in a list.
use Rattle.std.proofs.Common.{◌≡◌, ℕ, false, suc, ◌+◌, ◌<◌, List, [], ◌∷◌, ◌++◌, Option, Some, None, option_map, map, length, String, Global, string_bytes, refl, sym, ap, ap₂, ◌∙◌, subst, append_assoc, length-append, arith}
use Rattle.std.specs.List.{AllByRecursion as Each}
use Rattle.std.specs.Prelude.{option_to_list}
use Rattle.std.proofs.lemmas.List.{get_or_at, length-map}
use Rattle.cs_document.specs.Document.{Document, boolean, Entry, entries}
use Rattle.cs_document.specs.Inside.{map_entry}
use Rattle.cs_document.specs.View.{members_of}
use Rattle.cs_profile.specs.Numbered.{numbered as numbers_from, names_in}
use Rattle.cs_profile.specs.SchemaDocument.{present, slots_of, schema_view, schemas_view, definitions_view}
use Rattle.cs_profile.specs.declared.schema.Schema.{Schema}
use Rattle.cs_validate.specs.Numbering.{schema_at}
use Rattle.cs_validate.specs.Placing.{inside_members}
use Rattle.cs_validate.specs.Steps.{one_if, places_from, items_place, prefix_place, properties_place}
use Rattle.cs_validate.specs.declared.rules.Conjunction.{Conjunction}
use Rattle.cs_validate.proofs.Slots.{inside_members_are}

-- from the place p on stand these
abbrev pub Stand : List Document → ℕ → List Document → Type 0
Stand inside p [] = Unit {0}
Stand inside p (d ∷ ds) = (p < length inside) × (schema_at inside p ≡ d) × Stand inside (suc p) ds

pub stand_behind : (front ds : List Document) (p : ℕ) → p ≡ length front → Stand (front ++ ds) p ds
stand_behind front [] p at = tt
stand_behind front (d ∷ ds) p at = (
  omega (arith, length-append front (d ∷ ds)),
  get_or_at front d ds (boolean false) p (sym at),
  subst (λ l. Stand l (suc p) ds) (append_assoc front (d ∷ []) ds) (stand_behind (front ++ d ∷ []) ds (suc p) (omega (arith, length-append front (d ∷ [])))),
)

module _ (inside : List Document) where
  pub stand_first : (xs ys : List Document) (p : ℕ) → Stand inside p (xs ++ ys) → Stand inside p xs
  stand_first [] ys p h = tt
  stand_first (x ∷ xs) ys p h = (h.0, h.1, stand_first xs ys (suc p) h.2)

  pub stand_then : (xs ys : List Document) (p q : ℕ) → q ≡ p + length xs → Stand inside p (xs ++ ys) → Stand inside q ys
  stand_then [] ys p q e h = subst (λ n. Stand inside n ys) (omega arith) h
  stand_then (x ∷ xs) ys p q e h = stand_then xs ys (suc p) q (omega arith) h.2

  -- the schemas at their places
  pub schemas_there : (ss : List Schema) (p : ℕ) → Stand inside p (schemas_view ss) → map (schema_at inside) (places_from p ss) ≡ schemas_view ss
  schemas_there [] p h = refl
  schemas_there (s ∷ ss) p h = ap₂ ◌∷◌ h.1 (schemas_there ss (suc p) h.2)

  pub places_below : (ss : List Schema) (p : ℕ) → Stand inside p (schemas_view ss) → Each (λ q. q < length inside) (places_from p ss)
  places_below [] p h = tt
  places_below (s ∷ ss) p h = (h.0, places_below ss (suc p) h.2)

  -- those of a map, by their names
  pub named_there : (es : List (String Global × Schema)) (p : ℕ) → Stand inside p (map (λ e. schema_view e.1) es)
      → map (map_entry (schema_at inside)) (numbers_from p (names_in es)) ≡ entries (members_of (definitions_view es))
  named_there [] p h = refl
  named_there (e ∷ es) p h = ap₂ (λ d r. (string_bytes e.0, d) ∷ r) h.1 (named_there es (suc p) h.2)

  pub numbers_below : (es : List (String Global × Schema)) (p : ℕ) → Stand inside p (map (λ e. schema_view e.1) es) → Each (λ (e : Entry ℕ). e.1 < length inside) (numbers_from p (names_in es))
  numbers_below [] p h = tt
  numbers_below (e ∷ es) p h = (h.0, numbers_below es (suc p) h.2)

-- ---- what the keywords of an object ask of documents inside

one_there : (o : Option Schema) → one_if o ≡ length (option_to_list (option_map schema_view o))
one_there None = refl
one_there (Some s) = refl

pub record StandInside (inside : List Document) (c : Conjunction) : Type 0 where
  pub additional : Stand inside c.first (option_to_list (option_map schema_view c.keywords.now.additional))
  pub items : Stand inside (items_place c) (option_to_list (option_map schema_view c.keywords.now.rest))
  pub prefix : Stand inside (prefix_place c) (schemas_view c.keywords.now.prefix.items)
  pub properties : Stand inside (properties_place c) (map (λ e. schema_view e.1) c.keywords.now.properties.entries)

in_order : (inside additional items prefix properties : List Document) (c : Conjunction)
    → additional ≡ option_to_list (option_map schema_view c.keywords.now.additional) → items ≡ option_to_list (option_map schema_view c.keywords.now.rest)
    → prefix ≡ schemas_view c.keywords.now.prefix.items → properties ≡ map (λ e. schema_view e.1) c.keywords.now.properties.entries
    → Stand inside c.first (additional ++ (items ++ (prefix ++ properties))) → StandInside inside c
in_order inside a b p q c ea eb ep eq h =
    let behind_first = stand_then inside a (b ++ (p ++ q)) c.first (items_place c) (ap (λ n. c.first + n) (one_there c.keywords.now.additional ∙ ap length (sym ea))) h in
    let behind_items = stand_then inside b (p ++ q) (items_place c) (prefix_place c) (ap (λ n. items_place c + n) (one_there c.keywords.now.rest ∙ ap length (sym eb))) behind_first in
    let behind_prefix = stand_then inside p q (prefix_place c) (properties_place c) (ap (λ n. prefix_place c + n) (sym (length-map c.keywords.now.prefix.items schema_view) ∙ ap length (sym ep))) behind_items in
    record {
      additional = subst (Stand inside c.first) ea (stand_first inside a (b ++ (p ++ q)) c.first h);
      items = subst (Stand inside (items_place c)) eb (stand_first inside b (p ++ q) (items_place c) behind_first);
      prefix = subst (Stand inside (prefix_place c)) ep (stand_first inside p q (prefix_place c) behind_items);
      properties = subst (Stand inside (properties_place c)) eq behind_prefix;
    }

pub stand_inside : (before : List Document) (c : Conjunction) → c.first ≡ length before → StandInside (before ++ inside_members (present (slots_of c.keywords.now))) c
stand_inside before c at =
    in_order (before ++ inside_members (present (slots_of c.keywords.now))) _ _ _ _ c refl refl refl refl
    (subst (Stand (before ++ inside_members (present (slots_of c.keywords.now))) c.first) (inside_members_are c.keywords.now)
    (stand_behind before (inside_members (present (slots_of c.keywords.now))) c.first at))
