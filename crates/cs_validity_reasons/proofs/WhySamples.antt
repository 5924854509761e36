-- Why documents aren't valid, on small samples.
use Rattle.std.proofs.Common.{◌≡◌, ℕ, ◌+◌, Bool, true, false, List, [], ◌∷◌, Some, None, map, flat_map, codes, refl, sym, ap, ◌∙◌, subst, arith}
use Rattle.std.specs.Prelude.{slice_get}
use Rattle.std.proofs.lemmas.Option.{none-some}
use Rattle.cs_document.specs.Document.{Document, null, boolean, text, under}
use Rattle.cs_document.specs.Opened.{Opened, a_null, a_list, an_object, opened}
use Rattle.cs_document.specs.Sizes.{Characters, Elements, Keys}
use Rattle.cs_document.proofs.SampleDocuments.{number, array, map_of}
use Rattle.cs_rules.specs.Pointers.{key, place, At}
use Rattle.cs_profile.specs.Keywords.{String, Integer}
use Rattle.cs_profile.specs.Constraint.{Assertion, nothing, valid_by, has_kind, has_keys, at_keys, at_other_keys, in_front, behind, at_least_long, at_most_long, valid_by_all, valid_by_any, conjunction, constraint_of}
use Rattle.cs_profile.specs.Validity.{IsValidity}
use Rattle.cs_profile.specs.declared.keyword.Keyword.TheVariants as keyword
use Rattle.cs_validity_reasons.specs.Causes.{Cause, reference, part, alternative, property, additional, prefix, items, never_valid, no_alternative, missing, by_keyword, keyword_of, IsDenied, of_keyword, of_reference, of_part, of_alternative, of_missing, of_additional, of_items, IsCause, of_never, of_claim}
use Rattle.cs_validity_reasons.specs.declared.cause.KeyedCause.TheVariants as coded
use Rattle.cs_validity_reasons.specs.WhyTold.{cause_of}
use Rattle.cs_validity_reasons.specs.Why.{Way, way_of, led, map_cause, step_of, is_by_alternative, IsTold, none, by_reference, by_part, by_alternative, by_property, by_additional, by_prefix, by_items, steps_of, IsWhyNot, IsRefused, whole, next, IsWhy}
use Rattle.cs_validity_reasons.proofs.Contained.{at_place}
use Rattle.cs_validity_reasons.proofs.Refused.{not_valid, refused_first}

abbrev a : List ℕ
a = codes "a"

abbrev b : List ℕ
b = codes "b"

abbrev of_type : List ℕ → Document
of_type t = map_of ((codes "type", text t) ∷ [])

-- ---- ways, and what causes lead to

-- a cause of each form, with the schema 1 and the value 2
abbrev causes : List (Cause ℕ ℕ ℕ)
causes =
    reference 1 ∷ part 5 1 ∷ alternative 5 1 ∷ property a 2 1 ∷ additional a 2 1 ∷ prefix 5 2 1 ∷ items 5 2 1
    ∷ never_valid ∷ no_alternative ∷ missing a ∷ by_keyword keyword.Type ∷ []

abbrev ways : List Way
ways = by_reference ∷ by_part 5 ∷ by_alternative 5 ∷ by_property a ∷ by_additional a ∷ by_prefix 5 ∷ by_items 5 ∷ []

ways_of_causes : flat_map way_of causes ≡ ways
ways_of_causes = refl

-- of the value 9: causes by schemas that are asked of the value itself lead to it again
led_to : map (led 9) causes
    ≡ Some (9, 1) ∷ Some (9, 1) ∷ Some (9, 1) ∷ Some (2, 1) ∷ Some (2, 1) ∷ Some (2, 1) ∷ Some (2, 1) ∷ None ∷ None ∷ None ∷ None ∷ []
led_to = refl

renamed : map (map_cause (λ (y : ℕ). y + 10) (λ (s : ℕ). s + 20)) causes
    ≡ reference 21 ∷ part 5 21 ∷ alternative 5 21 ∷ property a 12 21 ∷ additional a 12 21 ∷ prefix 5 12 21 ∷ items 5 12 21
    ∷ never_valid ∷ no_alternative ∷ missing a ∷ by_keyword keyword.Type ∷ []
renamed = refl

steps_are : map step_of ways ≡ [] ∷ [] ∷ [] ∷ (key a ∷ []) ∷ (key a ∷ []) ∷ (place 5 ∷ []) ∷ (place 5 ∷ []) ∷ []
steps_are = refl

alternatives : map is_by_alternative ways ≡ false ∷ false ∷ true ∷ false ∷ false ∷ false ∷ false ∷ []
alternatives = refl

steps_in_order : steps_of (by_reference ∷ by_property a ∷ by_alternative 1 ∷ by_items 2 ∷ []) ≡ key a ∷ place 2 ∷ []
steps_in_order = refl

numbered : map cause_of (coded.Reference 2 1 ∷ coded.Part 2 1 5 ∷ coded.Alternative 2 1 5 ∷ coded.Prefix 5 2 1 ∷ coded.Items 5 2 1 ∷ coded.Never ∷ coded.Keyword keyword.Type ∷ coded.NoAlternative ∷ [])
    ≡ reference 1 ∷ part 5 1 ∷ alternative 5 1 ∷ prefix 5 2 1 ∷ items 5 2 1 ∷ never_valid ∷ by_keyword keyword.Type ∷ no_alternative ∷ []
numbered = refl

-- ---- what isn't a cause

module _ (here : ℕ → Bool) (inside : ℕ → ℕ → Bool) (d : Document) where
  abbrev DeniedBy : Opened ℕ → Assertion ℕ ℕ → Cause ℕ ℕ ℕ → Type 0
  DeniedBy x e c = IsDenied here inside d x e c

  key_is_there : DeniedBy (an_object ((a, 5) ∷ [])) (has_keys (a ∷ b ∷ [])) (missing a) → ⊥
  key_is_there (of_missing {ms = ms} o m e) =
      let same : (a, 5) ∷ [] ≡ ms = cc in
      let found : under a ms ≡ Some 5 = ap (under a) (sym same) in
      none-some 5 (sym e ∙ found)

  key_is_declared : DeniedBy (an_object ((a, 5) ∷ [])) (at_other_keys (b ∷ a ∷ []) 7) (additional a 5 7) → ⊥
  key_is_declared (of_additional o m e f) = cc

  element_is_in_front : DeniedBy (a_list (5 ∷ 6 ∷ [])) (behind 1 7) (items 0 5 7) → ⊥
  element_is_in_front (of_items o l e f) = omega (arith, l)

  no_such_part : DeniedBy a_null (valid_by_all (1 ∷ 2 ∷ [])) (part 2 1) → ⊥
  no_such_part (of_part e f) = cc

  -- `anyOf` isn't told of by itself, unless it has no schema
  has_alternatives : DeniedBy a_null (valid_by_any (1 ∷ [])) no_alternative → ⊥
  has_alternatives h = elim h [ ]

module _ (R : Document) (V : Document → Document → Bool) (h : IsValidity R V) where
  -- of these claims of a schema, the one at a place is denied
  claim : (s x : Document) (c : Cause Document Document Document) (claims : List (Assertion Document Document)) (k : ℕ) (e : Assertion Document Document)
      → constraint_of R s ≡ conjunction claims → slice_get claims k ≡ Some e → IsDenied (λ p. V p x) (λ y p. V p y) x (opened x) e c → IsWhyNot R V s x c
  claim s x c claims k e asks there denied = subst (λ q. IsCause (λ p. V p x) (λ y p. V p y) x (opened x) q c) (sym asks) (of_claim (at_place claims e k there) denied)

  -- the whole, by its own cause
  whole_by : (s x : Document) (c : Cause Document Document Document) → IsWhyNot R V s x c → IsRefused R V s x [] s x
  whole_by s x c why = whole (not_valid R V h s x c why)

-- ---- a missing key

abbrev requires_both : Document
requires_both = map_of ((codes "required", array (text a ∷ text b ∷ [])) ∷ [])

abbrev only_a_there : Document
only_a_there = map_of ((a, null) ∷ [])

missing_key : (V : Document → Document → Bool) → IsValidity requires_both V → IsWhy requires_both V requires_both only_a_there [] requires_both only_a_there (missing b)
missing_key V h =
    let why = claim requires_both V h requires_both only_a_there (missing b) (has_keys (a ∷ b ∷ []) ∷ []) 0 (has_keys (a ∷ b ∷ [])) refl refl (of_missing refl (at_place (a ∷ b ∷ []) b 1 refl) refl) in
    record { refused = whole_by requires_both V h requires_both only_a_there (missing b) why; cause = why; leaf = refl }

-- ---- a key that is none of the properties

abbrev only_a : Document
only_a = map_of ((codes "additionalProperties", boolean false) ∷ (codes "properties", map_of ((a, boolean true) ∷ [])) ∷ [])

abbrev both_keys : Document
both_keys = map_of ((a, number 1) ∷ (b, number 2) ∷ [])

forbidden_key : (V : Document → Document → Bool) → IsValidity only_a V → IsWhy only_a V only_a both_keys (by_additional b ∷ []) (boolean false) (number 2) never_valid
forbidden_key V h =
    let no : V (boolean false) (number 2) ≡ false = h (boolean false) (number 2) in
    let c : Cause Document Document Document = additional b (number 2) (boolean false) in
    let why = claim only_a V h only_a both_keys c (at_other_keys (a ∷ []) (boolean false) ∷ at_keys ((a, boolean true) ∷ []) ∷ []) 0 (at_other_keys (a ∷ []) (boolean false)) refl refl
    (of_additional refl (at_place ((a, number 1) ∷ (b, number 2) ∷ []) (b, number 2) 1 refl) refl no) in
    record { refused = next (whole_by only_a V h only_a both_keys c why) why refl; cause = of_never; leaf = refl }

-- ---- an element behind those of `prefixItems`

abbrev first_any : Document
first_any = map_of ((codes "items", of_type (codes "integer")) ∷ (codes "prefixItems", array (boolean true ∷ [])) ∷ [])

abbrev two_texts : Document
two_texts = array (text a ∷ text b ∷ [])

second_element : (V : Document → Document → Bool) → IsValidity first_any V → IsWhy first_any V first_any two_texts (by_items 1 ∷ []) (of_type (codes "integer")) (text b) (by_keyword keyword.Type)
second_element V h =
    let of_text : IsWhyNot first_any V (of_type (codes "integer")) (text b) (by_keyword keyword.Type) =
    claim first_any V h (of_type (codes "integer")) (text b) (by_keyword keyword.Type) (has_kind Integer ∷ []) 0 (has_kind Integer) refl refl (of_keyword refl refl) in
    let no = not_valid first_any V h (of_type (codes "integer")) (text b) (by_keyword keyword.Type) of_text in
    let c : Cause Document Document Document = items 1 (text b) (of_type (codes "integer")) in
    let why = claim first_any V h first_any two_texts c (behind 1 (of_type (codes "integer")) ∷ in_front (boolean true ∷ []) ∷ []) 0 (behind 1 (of_type (codes "integer"))) refl refl
    (of_items refl (omega arith) refl no) in
    record { refused = next (whole_by first_any V h first_any two_texts c why) why refl; cause = of_text; leaf = refl }

second_step : At (steps_of (by_items 1 ∷ [])) two_texts (text b)
second_step = (text b, refl, refl)

-- ---- limits of lengths

-- the keyword of each, by what is counted
abbrev limits : List (Assertion ℕ ℕ)
limits = at_most_long Characters 1 ∷ at_most_long Elements 1 ∷ at_most_long Keys 1 ∷ at_least_long Characters 1 ∷ at_least_long Elements 1 ∷ at_least_long Keys 1 ∷ []

keywords_of_limits : map keyword_of limits
    ≡ Some keyword.MaxLength ∷ Some keyword.MaxItems ∷ Some keyword.MaxProperties ∷ Some keyword.MinLength ∷ Some keyword.MinItems ∷ Some keyword.MinProperties ∷ []
keywords_of_limits = refl

abbrev two_characters : Document
two_characters = map_of ((codes "minLength", number 2) ∷ [])

-- é, which has two bytes
abbrev one_character : Document
one_character = text (195 ∷ 169 ∷ [])

short_text : (V : Document → Document → Bool) → IsValidity two_characters V → IsWhy two_characters V two_characters one_character [] two_characters one_character (by_keyword keyword.MinLength)
short_text V h =
    let why = claim two_characters V h two_characters one_character (by_keyword keyword.MinLength) (at_least_long Characters 2 ∷ []) 0 (at_least_long Characters 2) refl refl (of_keyword refl refl) in
    record { refused = whole_by two_characters V h two_characters one_character (by_keyword keyword.MinLength) why; cause = why; leaf = refl }

-- ---- each schema of `anyOf`, and a definition

abbrev word : Document
word = map_of ((codes "$ref", text (codes "#/$defs/Word")) ∷ [])

abbrev integer_or_word : Document
integer_or_word = map_of ((codes "$defs", map_of ((codes "Word", of_type (codes "string")) ∷ [])) ∷ (codes "anyOf", array (of_type (codes "integer") ∷ word ∷ [])) ∷ [])

module _ (V : Document → Document → Bool) (h : IsValidity integer_or_word V) where
  abbrev Not : Document → Cause Document Document Document → Type 0
  Not s c = IsWhyNot integer_or_word V s null c

  no_integer : Not (of_type (codes "integer")) (by_keyword keyword.Type)
  no_integer = claim integer_or_word V h (of_type (codes "integer")) null (by_keyword keyword.Type) (has_kind Integer ∷ []) 0 (has_kind Integer) refl refl (of_keyword refl refl)

  no_string : Not (of_type (codes "string")) (by_keyword keyword.Type)
  no_string = claim integer_or_word V h (of_type (codes "string")) null (by_keyword keyword.Type) (has_kind String ∷ []) 0 (has_kind String) refl refl (of_keyword refl refl)

  no_word : Not word (reference (of_type (codes "string")))
  no_word =
      claim integer_or_word V h word null (reference (of_type (codes "string"))) (valid_by (Some (of_type (codes "string"))) ∷ []) 0 (valid_by (Some (of_type (codes "string")))) refl refl
      (of_reference (not_valid integer_or_word V h (of_type (codes "string")) null (by_keyword keyword.Type) no_string))

  -- it leads to both
  none_holds : (k : ℕ) (s : Document) → slice_get (of_type (codes "integer") ∷ word ∷ []) k ≡ Some s → Not integer_or_word (alternative k s)
  none_holds k s e =
      let i = not_valid integer_or_word V h (of_type (codes "integer")) null (by_keyword keyword.Type) no_integer in
      let w = not_valid integer_or_word V h word null (reference (of_type (codes "string"))) no_word in
      let alternatives : List Document = of_type (codes "integer") ∷ word ∷ [] in
      claim integer_or_word V h integer_or_word null (alternative k s) (nothing ∷ valid_by_any alternatives ∷ []) 1 (valid_by_any alternatives) refl refl (of_alternative (rw (i, w)) e)

  first_alternative : IsWhy integer_or_word V integer_or_word null (by_alternative 0 ∷ []) (of_type (codes "integer")) null (by_keyword keyword.Type)
  first_alternative =
      let why = none_holds 0 (of_type (codes "integer")) refl in
      record { refused = next (whole_by integer_or_word V h integer_or_word null (alternative 0 (of_type (codes "integer"))) why) why refl; cause = no_integer; leaf = refl }

  second_alternative : IsWhy integer_or_word V integer_or_word null (by_alternative 1 ∷ by_reference ∷ []) (of_type (codes "string")) null (by_keyword keyword.Type)
  second_alternative =
      let why = none_holds 1 word refl in
      record { refused = next (next (whole_by integer_or_word V h integer_or_word null (alternative 1 word) why) why refl) no_word refl; cause = no_string; leaf = refl }

  -- what is valid has no reason
  valid_has_none : (x : Document) → V integer_or_word x ≡ true → (ways : List Way) (s y : Document) (c : Cause Document Document Document) → IsWhy integer_or_word V integer_or_word x ways s y c → ⊥
  valid_has_none x valid ways s y c why = let e = refused_first integer_or_word V h integer_or_word x why.refused in cc

  -- where the schemas of `anyOf` aren't told of one by one
  none_told : IsTold integer_or_word V integer_or_word null false [] integer_or_word null no_alternative
  none_told = let why = none_holds 1 word refl in none refl (whole_by integer_or_word V h integer_or_word null (alternative 1 word) why) why
