-- The names that the keywords of an object refer to directly, and their numbers pushed one after another.
use Rattle.std.proofs.Common.{◌≡◌, ℕ, Bool, true, false, List, [], ◌∷◌, ◌++◌, Option, Some, None, option_map, String, Global, string_bytes, codes, refl, sym, ap, ap₂, ◌∙◌, nat_cmp, bytes_eq, cond, append_assoc, append-nil, if◌then◌else◌}
use Rattle.std.specs.Prelude.{option_to_list}
use Rattle.std.specs.BTreeMap.{is_at}
use Rattle.std.specs.Cmp.Lexicographic.{slice_cmp}
use Rattle.std.specs.Map.{lookup}
use Rattle.std.proofs.lemmas.Map.Text.{is_eq-slice_cmp}
use Rattle.std.proofs.lemmas.Grind.{flat_map-append}
use Rattle.cs_document.specs.Document.{Document, object, Entry, under}
use Rattle.cs_document.specs.View.{documents_of}
use Rattle.cs_profile.specs.Keywords.{keywords}
use Rattle.cs_profile.specs.Loops.{ByReach, by_keyword, direct_names, keyword_names, each_names}
use Rattle.cs_profile.specs.ValueNames.{value_names}
use Rattle.cs_profile.specs.Numbered.{by_text, numbers_of, reference_names, names_of_each}
use Rattle.cs_profile.specs.SchemaDocument.{Slot, reference_document, present, schema_view, schemas_view, slots_of, unless_no_list}
use Rattle.cs_profile.specs.declared.keyword.Keyword.{Keyword}
use Rattle.cs_profile.specs.declared.keyword.Keyword.TheVariants as keyword
use Rattle.cs_profile.specs.declared.schema.Keywords.{Keywords}
use Rattle.cs_profile.specs.declared.schema.Schema.{Schema}
use Rattle.cs_profile.proofs.Slots.{slots_are}

-- ---- the keywords that ask schemas of the same document

abbrev speaks : Option Keyword → Bool
speaks (Some keyword.Ref) = true
speaks (Some keyword.Not) = true
speaks (Some keyword.AllOf) = true
speaks (Some keyword.AnyOf) = true
speaks _ = false

silent : (w : Option Keyword) (names : ByReach) → speaks w ≡ false → by_keyword w names ≡ []
silent (Some keyword.Ref) names h = cc
silent (Some keyword.Not) names h = cc
silent (Some keyword.AllOf) names h = cc
silent (Some keyword.AnyOf) names h = cc
silent _ names h = refl

-- the names in a slot, and in those that may have some
abbrev slot_names : List ℕ → Option Document → List (List ℕ)
slot_names k None = []
slot_names k (Some v) = by_keyword (under k keywords) (value_names v)

abbrev spoken : List Slot → List (List ℕ)
spoken [] = []
spoken (s ∷ ss) = if speaks (under s.0 keywords) then slot_names s.0 s.1 ++ spoken ss else spoken ss

one_slot : (s : Slot) (ss : List Slot) → keyword_names (present (s ∷ ss)) ≡ slot_names s.0 s.1 ++ keyword_names (present ss)
one_slot (k, None) ss = refl
one_slot (k, Some v) ss = refl

silent_slot : (k : List ℕ) (o : Option Document) → speaks (under k keywords) ≡ false → slot_names k o ≡ []
silent_slot k None h = refl
silent_slot k (Some v) h = silent (under k keywords) (value_names v) h

spoken_are : (ss : List Slot) → keyword_names (present ss) ≡ spoken ss
spoken_are [] = refl
spoken_are (s ∷ ss) = one_slot s ss ∙ by (speaks (under s.0 keywords)) refl (spoken_are ss)
  where
    by : (b : Bool) → speaks (under s.0 keywords) ≡ b → keyword_names (present ss) ≡ spoken ss → (slot_names s.0 s.1 ++ keyword_names (present ss)) ≡ (if b then slot_names s.0 s.1 ++ spoken ss else spoken ss)
    by true q h = ap (λ ns. slot_names s.0 s.1 ++ ns) h
    by false q h = ap₂ (λ xs ys. xs ++ ys) (silent_slot s.0 s.1 q) h

each_are : (ss : List Schema) → each_names (documents_of (schemas_view ss)) ≡ names_of_each ss
each_are [] = refl
each_are (s ∷ ss) = ap (λ ns. direct_names (schema_view s) ++ ns) (each_are ss)

reference_part : (o : Option (String Global)) → slot_names (codes "$ref") (option_map reference_document o) ≡ reference_names o
reference_part None = refl
reference_part (Some s) = refl

all_part : (ss : List Schema) → slot_names (codes "allOf") (unless_no_list (schemas_view ss)) ≡ names_of_each ss
all_part [] = refl
all_part (s ∷ ss) = each_are (s ∷ ss)

any_part : (ss : List Schema) → slot_names (codes "anyOf") (unless_no_list (schemas_view ss)) ≡ names_of_each ss
any_part [] = refl
any_part (s ∷ ss) = each_are (s ∷ ss)

abbrev pub negated_names : Option Schema → List (List ℕ)
negated_names None = []
negated_names (Some s) = direct_names (schema_view s)

not_part : (o : Option Schema) → slot_names (codes "not") (option_map schema_view o) ≡ negated_names o
not_part None = refl
not_part (Some s) = refl

names_of_keywords : (k : Keywords)
    → direct_names (object (present (slots_of k))) ≡ reference_names k.reference ++ (names_of_each k.all_of.items ++ (names_of_each k.any_of.items ++ (negated_names k.negated ++ [])))
names_of_keywords k =
    spoken_are (slots_of k) ∙ ap spoken (slots_are k)
    ∙ ap₂ (λ xs ys. xs ++ ys) (reference_part k.reference) (ap₂ (λ xs ys. xs ++ ys) (all_part k.all_of.items) (ap₂ (λ xs ys. xs ++ ys) (any_part k.any_of.items) (ap (λ xs. xs ++ []) (not_part k.negated))))

-- ---- numbers pushed

module _ (es : List (Entry ℕ)) where
  -- behind the old numbers stand those of the names
  abbrev pub Pushed : List ℕ → List ℕ → List (List ℕ) → Type 0
  Pushed old new names = new ≡ old ++ numbers_of es names

  pub pushed_more : (a b c : List ℕ) (ms ns : List (List ℕ)) → Pushed a b ms → Pushed b c ns → Pushed a c (ms ++ ns)
  pushed_more a b c ms ns p q =
      q ∙ ap (λ l. l ++ numbers_of es ns) p ∙ append_assoc a (numbers_of es ms) (numbers_of es ns)
      ∙ ap (λ l. a ++ l) (sym (flat_map-append _ ms ns))

  pub pushed_keywords : (k : Keywords) (a b c d e : List ℕ) → Pushed a b (reference_names k.reference) → Pushed b c (names_of_each k.all_of.items) → Pushed c d (names_of_each k.any_of.items) → Pushed d e (negated_names k.negated)
      → Pushed a e (direct_names (object (present (slots_of k))))
  pushed_keywords k a b c d e p q r s =
      let rest = negated_names k.negated in
      let one = pushed_more d e e rest [] s (sym (append-nil e)) in
      pushed_more a b e (reference_names k.reference) _ p (pushed_more b c e (names_of_each k.all_of.items) _ q (pushed_more c d e (names_of_each k.any_of.items) (rest ++ []) r one))
      ∙ ap (λ ns. a ++ numbers_of es ns) (sym (names_of_keywords k))

-- a look-up in the map is one by the text
pub looked_up : {X : Type 0} (n : List ℕ) (es : List (String Global × X)) → lookup (is_at (λ k. slice_cmp nat_cmp n (string_bytes k))) es ≡ under n (by_text es)
looked_up n [] = refl
looked_up n (e ∷ es) = rw (is_eq-slice_cmp n (string_bytes e.0)) (at_test (bytes_eq n (string_bytes e.0)) (looked_up n es))
  where
    at_test : (t : Bool) → lookup (is_at (λ k. slice_cmp nat_cmp n (string_bytes k))) es ≡ under n (by_text es)
        → cond t (Some e.1) (lookup (is_at (λ k. slice_cmp nat_cmp n (string_bytes k))) es) ≡ (if t then Some e.1 else under n (by_text es))
    at_test true h = refl
    at_test false h = h

-- the number of a `$ref`
pub pushed_named : (es : List (String Global × ℕ)) (old new : List ℕ) (o : Option (String Global)) (s : String Global) (n : List ℕ) (found : Option ℕ) → o ≡ Some s → n ≡ string_bytes s
    → found ≡ lookup (is_at (λ k. slice_cmp nat_cmp n (string_bytes k))) es → new ≡ old ++ option_to_list found → Pushed (by_text es) old new (reference_names o)
pushed_named es old new o s n found is name at grown =
    let there : found ≡ under (string_bytes s) (by_text es) = at ∙ looked_up n es ∙ ap (λ m. under m (by_text es)) name in
    grown ∙ ap (λ r. old ++ r) (ap option_to_list there ∙ sym (append-nil (option_to_list (under (string_bytes s) (by_text es)))) ∙ ap (λ r. numbers_of (by_text es) (reference_names r)) (sym is))
