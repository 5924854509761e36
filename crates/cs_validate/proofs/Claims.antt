-- What the keywords of an object ask, each by itself, is what its rule asks.
use Rattle.std.proofs.Common.{rules, ◌≡◌, ℕ, ◌<◌, true, false, ℤ, pos, negsuc, List, [], ◌∷◌, ◌++◌, map, length, Option, Some, None, option_map, String, Vec, Global, string_bytes, codes, refl, sym, ap, ap₂, ◌∙◌, subst}
use Rattle.std.specs.Prelude.{option_to_list}
use Rattle.std.specs.List.{flat_map, AllByRecursion as Each}
use Rattle.std.specs.Option.{IfSome}
use Rattle.cs_document.specs.Document.{Document, integer, text, list, object, elements, entries, Entry}
use Rattle.cs_document.specs.View.{doc_view, list_view, documents_of}
use Rattle.cs_document.specs.declared.doc.Doc.{Doc}
use Rattle.cs_document.proofs.Each.{each_of, each_over}
use Rattle.cs_profile.specs.Keywords.{name_of, all_keywords, slot_keywords, listed_under, defined}
use Rattle.cs_profile.specs.Constraint.{Assertion, valid_by, has_kind, is_among, has_keys, at_keys, at_other_keys, in_front, behind, valid_by_all, valid_by_any, not_valid_by, conjunction, constraint_of, assertion_at, texts_in, places_taken}
use Rattle.cs_profile.specs.Numbered.{numbered as numbers_from, names_in}
use Rattle.cs_profile.specs.SchemaDocument.{reference_document, text_document, unless_no_map, unless_no_list, definitions_view, present, schema_view, schemas_view, slots_of, kind_name}
use Rattle.cs_profile.specs.declared.keyword.Keyword.{Keyword}
use Rattle.cs_profile.specs.declared.keyword.Keyword.TheVariants as keyword
use Rattle.cs_profile.specs.declared.schema.JsonKind.{JsonKind}
use Rattle.cs_profile.specs.declared.schema.JsonKind.TheVariants as kind
use Rattle.cs_profile.specs.declared.schema.Keywords.{Keywords}
use Rattle.cs_profile.specs.declared.schema.Schema.{Schema}
use Rattle.cs_validate.specs.Numbering.{ClaimBelow, PartsBelow, map_assertion, map_constraint, asserted, said, schema_at}
use Rattle.cs_validate.specs.Placing.{inside_members}
use Rattle.cs_validate.specs.Steps.{kind_of, items_place, prefix_place, properties_place, unless_empty, of_count, places_from, claim_of, claims_of, asked_of}
use Rattle.cs_validate.specs.declared.rules.Rule.TheVariants as rule
use Rattle.cs_validate.specs.declared.rules.Conjunction.{Conjunction}
use Rattle.cs_profile.proofs.Slots.{slot_of, slots_at, slots_are}
use Rattle.cs_validate.proofs.Slots.{slot_part, spoken, gathered, elements_back, names_beside, places_beside}
use Rattle.cs_validate.proofs.Standing.{Stand, StandInside, stand_inside, schemas_there, named_there, places_below, numbers_below}

texts_back : (ts : List (String Global)) → texts_in (elements (documents_of (map text_document ts))) ≡ map string_bytes ts
texts_back [] = refl
texts_back (t ∷ ts) = ap (λ r. string_bytes t ∷ r) (texts_back ts)

-- a conjunction has the texts and the documents of its keywords, and the numbers of their schemas
record HasParts (R : Document) (placed : List Document) (c : Conjunction) : Type 0 where
  required : c.required ≡ map string_bytes c.keywords.now.required.items
  one_of : c.one_of ≡ option_map (λ v. map doc_view v.items) c.keywords.now.one_of
  all_of : map (schema_at placed) c.all_of.items ≡ schemas_view c.keywords.now.all_of.items
  any_of : map (schema_at placed) c.any_of.items ≡ schemas_view c.keywords.now.any_of.items
  negated : option_map (schema_at placed) c.negated ≡ option_map schema_view c.keywords.now.negated
  reference : (s : String Global) → c.keywords.now.reference ≡ Some s → option_map (schema_at placed) c.reference ≡ defined R (string_bytes s)

module _ (R : Document) (placed inside : List Document) (beside : List (Entry Document)) where
  -- what a keyword asserts by its value
  abbrev claimed : List ℕ → Document → List (Assertion Document Document)
  claimed n v = asserted (assertion_at R beside (n, v))

  always_speaks : (n : List ℕ) (v : Document) → true ≡ false → claimed n v ≡ []
  always_speaks n v h = cc

  abbrev in_slot : List ℕ → Option Document → List (Assertion Document Document)
  in_slot = slot_part claimed (λ n. true) always_speaks

  -- what a rule asserts there
  abbrev told : Option (Assertion ℕ ℕ) → List (Assertion Document Document)
  told None = []
  told (Some a) = asserted (map_assertion (schema_at placed) (schema_at inside) a)

  abbrev all_told : List (Option (Assertion ℕ ℕ)) → List (Assertion Document Document)
  all_told [] = []
  all_told (o ∷ os) = told o ++ all_told os

  told_are : (os : List (Option (Assertion ℕ ℕ))) → flat_map asserted (map (map_assertion (schema_at placed) (schema_at inside)) (flat_map option_to_list os)) ≡ all_told os
  told_are [] = refl
  told_are (None ∷ os) = told_are os
  told_are (Some a ∷ os) = ap (λ r. asserted (map_assertion (schema_at placed) (schema_at inside) a) ++ r) (told_are os)

  -- ---- keyword by keyword

  some_claim : {X : Type 0} (n : List ℕ) (f : X → Document) (g : X → Assertion ℕ ℕ) → ((x : X) → claimed n (f x) ≡ told (Some (g x))) → (o : Option X)
      → in_slot n (option_map f o) ≡ told (option_map g o)
  some_claim n f g h None = refl
  some_claim n f g h (Some x) = h x

  reference_claim : (o : Option (String Global)) (r : Option ℕ) → ((s : String Global) → o ≡ Some s → option_map (schema_at placed) r ≡ defined R (string_bytes s))
      → in_slot (codes "$ref") (option_map reference_document o) ≡ told (option_map (λ n. valid_by r) o)
  reference_claim None r h = refl
  reference_claim (Some s) r h = ap (λ d. valid_by d ∷ []) (sym (h s refl))

  additional_claim : (o : Option Schema) (names : List (List ℕ)) (p : ℕ) → map (λ e. e.0) (listed_under (codes "properties") beside) ≡ names → Stand inside p (option_to_list (option_map schema_view o))
      → in_slot (codes "additionalProperties") (option_map schema_view o) ≡ told (option_map (λ s. at_other_keys names p) o)
  additional_claim None names p e h = refl
  additional_claim (Some s) names p e h = ap₂ (λ ns d. at_other_keys ns d ∷ []) e (sym h.1)

  all_claim : (rs : List ℕ) (ds : List Document) → map (schema_at placed) rs ≡ ds → in_slot (codes "allOf") (unless_no_list ds) ≡ told (unless_empty valid_by_all rs)
  all_claim [] [] e = refl
  all_claim [] (d ∷ ds) e = cc
  all_claim (r ∷ rs) [] e = cc
  all_claim (r ∷ rs) (d ∷ ds) e = ap (λ l. valid_by_all l ∷ []) (elements_back (d ∷ ds) ∙ sym e)

  any_claim : (rs : List ℕ) (ds : List Document) → map (schema_at placed) rs ≡ ds → in_slot (codes "anyOf") (unless_no_list ds) ≡ told (unless_empty valid_by_any rs)
  any_claim [] [] e = refl
  any_claim [] (d ∷ ds) e = cc
  any_claim (r ∷ rs) [] e = cc
  any_claim (r ∷ rs) (d ∷ ds) e = ap (λ l. valid_by_any l ∷ []) (elements_back (d ∷ ds) ∙ sym e)

  among_claim : (o : Option (Vec Doc Global)) (vs : Option (List Document)) → vs ≡ option_map (λ v. map doc_view v.items) o
      → in_slot (codes "enum") (option_map (λ v. list (list_view v.items)) o) ≡ told (option_map is_among vs)
  among_claim None None e = refl
  among_claim None (Some vs) e = cc
  among_claim (Some v) None e = cc
  among_claim (Some v) (Some vs) e =
      let same : vs ≡ map doc_view v.items = cc in
      ap (λ l. is_among l ∷ []) (elements_back (map doc_view v.items) ∙ sym same)

  items_claim : (o : Option Schema) (n p : ℕ) → places_taken beside ≡ n → Stand inside p (option_to_list (option_map schema_view o))
      → in_slot (codes "items") (option_map schema_view o) ≡ told (option_map (λ s. behind n p) o)
  items_claim None n p e h = refl
  items_claim (Some s) n p e h = ap₂ (λ m d. behind m d ∷ []) e (sym h.1)

  count_claim : (n : List ℕ) (f : ℕ → Assertion ℕ ℕ) → ((l : ℕ) → claimed n (integer (pos l)) ≡ told (Some (f l))) → ((l : ℕ) → claimed n (integer (negsuc l)) ≡ []) → (z : ℤ)
      → claimed n (integer z) ≡ told (Some (of_count f z))
  count_claim n f h none (pos l) = h l
  count_claim n f h none (negsuc l) = none l

  not_claim : (o : Option ℕ) (d : Option Document) → option_map (schema_at placed) o ≡ d → in_slot (codes "not") d ≡ told (option_map not_valid_by o)
  not_claim None None e = refl
  not_claim None (Some d) e = cc
  not_claim (Some r) None e = cc
  not_claim (Some r) (Some d) e =
      let same : schema_at placed r ≡ d = cc in
      ap (λ x. not_valid_by x ∷ []) (sym same)

  prefix_claim : (ss : List Schema) (p : ℕ) → Stand inside p (schemas_view ss) → in_slot (codes "prefixItems") (unless_no_list (schemas_view ss)) ≡ told (unless_empty in_front (places_from p ss))
  prefix_claim [] p h = refl
  prefix_claim (s ∷ ss) p h = ap (λ l. in_front l ∷ []) (elements_back (schemas_view (s ∷ ss)) ∙ sym (schemas_there inside (s ∷ ss) p h))

  properties_claim : (es : List (String Global × Schema)) (p : ℕ) → Stand inside p (map (λ e. schema_view e.1) es)
      → in_slot (codes "properties") (unless_no_map (definitions_view es)) ≡ told (unless_empty at_keys (numbers_from p (names_in es)))
  properties_claim [] p h = refl
  properties_claim (e ∷ es) p h = ap (λ l. at_keys l ∷ []) (sym (named_there inside (e ∷ es) p h))

  required_claim : (ts : List (String Global)) → in_slot (codes "required") (unless_no_list (map text_document ts)) ≡ told (unless_empty has_keys (map string_bytes ts))
  required_claim [] = refl
  required_claim (t ∷ ts) = ap (λ l. has_keys l ∷ []) (texts_back (t ∷ ts))

  kind_claim : (j : JsonKind) → claimed (codes "type") (text (kind_name j)) ≡ told (Some (has_kind (kind_of j)))
  kind_claim kind.Null = refl
  kind_claim kind.Boolean = refl
  kind_claim kind.Object = refl
  kind_claim kind.Array = refl
  kind_claim kind.Number = refl
  kind_claim kind.String = refl
  kind_claim kind.Integer = refl

  module _ (c : Conjunction) (h : HasParts R placed c) (i : StandInside inside c) (names : map (λ e. e.0) (listed_under (codes "properties") beside) ≡ names_in c.keywords.now.properties.entries)
      (taken : places_taken beside ≡ length c.keywords.now.prefix.items) where
    abbrev k : Keywords
    k = c.keywords.now

    ruleset by_value = (rules, some_claim, count_claim, kind_claim)

    claim_told : (w : Keyword) → in_slot (name_of w) (slot_of k w) ≡ told (claim_of c w)
    claim_told keyword.Ref = reference_claim k.reference c.reference h.reference
    claim_told keyword.AdditionalProperties = additional_claim k.additional (names_in k.properties.entries) c.first names i.additional
    claim_told keyword.AllOf = all_claim c.all_of.items (schemas_view k.all_of.items) h.all_of
    claim_told keyword.AnyOf = any_claim c.any_of.items (schemas_view k.any_of.items) h.any_of
    claim_told keyword.Enum = among_claim k.one_of c.one_of h.one_of
    claim_told keyword.Items = items_claim k.rest (length k.prefix.items) (items_place c) taken i.items
    claim_told keyword.Not = not_claim c.negated (option_map schema_view k.negated) h.negated
    claim_told keyword.PrefixItems = prefix_claim k.prefix.items (prefix_place c) i.prefix
    claim_told keyword.Properties = properties_claim k.properties.entries (properties_place c) i.properties
    claim_told keyword.Required = required_claim k.required.items ∙ ap (λ ts. told (unless_empty has_keys ts)) (sym h.required)
    claim_told _ = search by_value

    each_told : (ws : List Keyword) → spoken claimed (λ n. true) always_speaks (slots_at k ws) ≡ all_told (map (claim_of c) ws)
    each_told [] = refl
    each_told (w ∷ ws) = ap₂ (λ l m. l ++ m) (claim_told w) (each_told ws)

    slots_told : spoken claimed (λ n. true) always_speaks (slots_of k) ≡ all_told (claims_of c)
    slots_told = ap (spoken claimed (λ n. true) always_speaks) (slots_are k) ∙ each_told slot_keywords

  keywords_told : (c : Conjunction) → HasParts R placed c → StandInside inside c → beside ≡ entries (present (slots_of c.keywords.now))
      → conjunction (flat_map asserted (map (assertion_at R beside) (entries (present (slots_of c.keywords.now))))) ≡ said (map_constraint (schema_at placed) (schema_at inside) (asked_of (rule.Object c)))
  keywords_told c h i are =
      ap conjunction
      (gathered claimed (λ n. true) always_speaks (λ ms. flat_map asserted (map (assertion_at R beside) (entries ms))) refl (λ n v ms. refl) (slots_of c.keywords.now)
      ∙ slots_told c h i (ap (λ es. map (λ e. e.0) (listed_under (codes "properties") es)) are ∙ names_beside c.keywords.now) (ap places_taken are ∙ places_beside c.keywords.now)
      ∙ sym (told_are (claims_of c)))

pub claims_are : (R : Document) (placed before : List Document) (c : Conjunction)
    → c.required ≡ map string_bytes c.keywords.now.required.items
    → c.one_of ≡ option_map (λ v. map doc_view v.items) c.keywords.now.one_of
    → map (schema_at placed) c.all_of.items ≡ schemas_view c.keywords.now.all_of.items
    → map (schema_at placed) c.any_of.items ≡ schemas_view c.keywords.now.any_of.items
    → option_map (schema_at placed) c.negated ≡ option_map schema_view c.keywords.now.negated
    → ((s : String Global) → c.keywords.now.reference ≡ Some s → option_map (schema_at placed) c.reference ≡ defined R (string_bytes s))
    → c.first ≡ length before
    → said (constraint_of R (object (present (slots_of c.keywords.now))))
    ≡ said (map_constraint (schema_at placed) (schema_at (before ++ inside_members (present (slots_of c.keywords.now)))) (asked_of (rule.Object c)))
claims_are R placed before c required one_of all_of any_of negated reference first =
    keywords_told R placed (before ++ inside_members (present (slots_of c.keywords.now))) (entries (present (slots_of c.keywords.now))) c
    (record { required = required; one_of = one_of; all_of = all_of; any_of = any_of; negated = negated; reference = reference })
    (stand_inside before c first) refl

-- ---- the numbers and the places

module _ {X : Type 0} (P : X → Type 0) where
  each_some : (os : List (Option X)) → Each (λ o. IfSome o P) os → Each P (flat_map option_to_list os)
  each_some [] h = tt
  each_some (None ∷ os) h = each_some os h.1
  each_some (Some x ∷ os) h = (h.0, each_some os h.1)

  if_some : {Y : Type 0} (f : Y → X) (o : Option Y) → ((y : Y) → o ≡ Some y → P (f y)) → IfSome (option_map f o) P
  if_some f None h = tt
  if_some f (Some y) h = h y refl

  if_each : {Y : Type 0} (f : Y → X) → ((y : Y) → P (f y)) → (o : Option Y) → IfSome (option_map f o) P
  if_each f h None = tt
  if_each f h (Some y) = h y

  if_any : {Y : Type 0} (f : List Y → X) (ys : List Y) → P (f ys) → IfSome (unless_empty f ys) P
  if_any f [] h = tt
  if_any f (y ∷ ys) h = h

module _ (n : ℕ) (inside : List Document) (c : Conjunction) where
  one_below : (o : Option Schema) (p : ℕ) → Stand inside p (option_to_list (option_map schema_view o)) → (s : Schema) → o ≡ Some s → p < length inside
  one_below None p h s e = cc
  one_below (Some s) p h t e = h.0

  number_below : (o : Option ℕ) → Each (λ r. r < n) (option_to_list o) → (r : ℕ) → o ≡ Some r → r < n
  number_below None h r e = cc
  number_below (Some q) h r e =
      let same : q ≡ r = cc in subst (λ m. m < n) same h.0

  abbrev IsBelow : Assertion ℕ ℕ → Type 0
  IsBelow = ClaimBelow n (length inside)

  count_below : (f : ℕ → Assertion ℕ ℕ) → ((l : ℕ) → IsBelow (f l)) → (z : ℤ) → IsBelow (of_count f z)
  count_below f h (pos l) = h l
  count_below f h (negsuc l) = tt

  module _ (all_of : Each (λ r. r < n) c.all_of.items) (any_of : Each (λ r. r < n) c.any_of.items) (negated : Each (λ r. r < n) (option_to_list c.negated)) (reference : Each (λ r. r < n) (option_to_list c.reference))
      (i : StandInside inside c) where
    abbrev keys : Keywords
    keys = c.keywords.now

    ruleset below_each = (rules, if_each, count_below)

    claim_below : (w : Keyword) → IfSome (claim_of c w) IsBelow
    claim_below keyword.Ref = if_some IsBelow (λ s. valid_by c.reference) keys.reference (λ s e. reference)
    claim_below keyword.AdditionalProperties = if_some IsBelow (λ s. at_other_keys (names_in keys.properties.entries) c.first) keys.additional (one_below keys.additional c.first i.additional)
    claim_below keyword.AllOf = if_any IsBelow valid_by_all c.all_of.items all_of
    claim_below keyword.AnyOf = if_any IsBelow valid_by_any c.any_of.items any_of
    claim_below keyword.Items = if_some IsBelow (λ s. behind (length keys.prefix.items) (items_place c)) keys.rest (one_below keys.rest (items_place c) i.items)
    claim_below keyword.Not = if_some IsBelow not_valid_by c.negated (number_below c.negated negated)
    claim_below keyword.PrefixItems = if_any IsBelow in_front (places_from (prefix_place c) keys.prefix.items) (places_below inside keys.prefix.items (prefix_place c) i.prefix)
    claim_below keyword.Properties = if_any IsBelow at_keys (numbers_from (properties_place c) (names_in keys.properties.entries)) (numbers_below inside keys.properties.entries (properties_place c) i.properties)
    claim_below keyword.Required = if_any IsBelow has_keys c.required tt
    claim_below _ = search below_each

    claims_below : PartsBelow n (length inside) (asked_of (rule.Object c))
    claims_below = each_some IsBelow (claims_of c) (each_over (claim_of c) (λ o. IfSome o IsBelow) all_keywords (each_of (λ w. IfSome (claim_of c w) IsBelow) claim_below all_keywords))

pub parts_below : (n : ℕ) (before : List Document) (c : Conjunction) → Each (λ r. r < n) c.all_of.items → Each (λ r. r < n) c.any_of.items → Each (λ r. r < n) (option_to_list c.negated) → Each (λ r. r < n) (option_to_list c.reference)
    → c.first ≡ length before → PartsBelow n (length (before ++ inside_members (present (slots_of c.keywords.now)))) (asked_of (rule.Object c))
parts_below n before c all_of any_of negated reference first =
    claims_below n (before ++ inside_members (present (slots_of c.keywords.now))) c all_of any_of negated reference (stand_inside before c first)
