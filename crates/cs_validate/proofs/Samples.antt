-- What each keyword asks, over small lists of numbers, worked by the definitions. A wrong expectation stops the check here.
use Rattle.std.proofs.Common.{◌≡◌, ◌+◌, ◌*◌, ℕ, ℤ, pos, negsuc, Bool, true, false, List, [], ◌∷◌, Some, None, map, length, codes, nat_eq, nat_lt, refl, arith}
use Rattle.std.specs.Prelude.{String}
use Rattle.std.specs.declared.alloc.Global.{Global}
use Rattle.cs_document.specs.Document.{Document, null, boolean, text}
use Rattle.cs_document.specs.Opened.{Opened, a_null, a_boolean, an_integer, a_text, a_list, an_object}
use Rattle.cs_document.specs.Sizes.{Counted, Characters, Elements, Keys}
use Rattle.cs_document.specs.View.{doc_view}
use Rattle.cs_document.specs.declared.doc.Doc.{Doc}
use Rattle.cs_document.proofs.SampleDocuments.{number, array, map_of}
use Rattle.cs_flat.specs.Nodes.{nodes}
use Rattle.cs_profile.specs.Keywords as keyword
use Rattle.cs_profile.specs.Constraint.{texts_in, Assertion, nothing, valid_by, has_kind, equals, is_among, at_least, at_most, above, below, has_keys, at_keys, at_other_keys, in_front, behind, at_least_long, at_most_long, valid_by_all, valid_by_any, not_valid_by, always, never, conjunction}
use Rattle.cs_profile.specs.Validity.{holds}
use Rattle.cs_profile.specs.Numbered.{numbered as numbers_from}
use Rattle.cs_profile.specs.declared.keyword.Keyword.TheVariants as word
use Rattle.cs_profile.specs.declared.schema.Keywords.{Keywords}
use Rattle.cs_profile.specs.declared.schema.Schema.{Schema}
use Rattle.cs_profile.specs.declared.schema.JsonKind.TheVariants as kind
use Rattle.cs_validate.specs.declared.rules.Conjunction.{Conjunction}
use Rattle.cs_validate.specs.Numbering.{map_constraint, said, PartsBelow}
use Rattle.cs_validate.specs.Rules.{rules_of, HasManyPairs}
use Rattle.cs_validate.specs.Steps.{kind_of, unless_empty, of_count, places_from, items_place, prefix_place, properties_place, claim_of}
use Rattle.cs_validate.specs.Asked.{is_at_most_long, is_at_least_long, asks_text, asks_list, asks_map}
use Rattle.cs_validate.specs.Kinds.{equals_by_kind, among_by_kind, any_by_kind, reference_by_kind, negation_by_kind}
use Rattle.cs_validate.specs.Marked.{integers_in, count_in, lengths_of, texts_of, integers_of}
use Rattle.cs_rules.specs.Steps.{Step}
use Rattle.cs_rules.specs.Alike.{Compared, AreAlike, IsToldBy}
use Rattle.cs_rules.specs.declared.by_kind.ByKind.{ByKind}

-- ---- short forms

abbrev A : List ℕ
A = codes "a"

abbrev B : List ℕ
B = codes "b"

-- rules 0 and 1 validate the value, and a value inside is valid by the place of its own number
abbrev here : ℕ → Bool
here r = nat_lt r 2

abbrev each_holds : Document → Opened ℕ → List (Assertion ℕ ℕ) → List Bool
each_holds d x claims = map (λ a. holds here nat_eq a d x) claims

-- [.., .., ..] with the numbers 5, 6 and 7, and {"a": .., "b": ..} with 1 and 2
abbrev listed : Opened ℕ
listed = a_list (5 ∷ 6 ∷ 7 ∷ [])

abbrev mapped : Opened ℕ
mapped = an_object ((A, 1) ∷ (B, 2) ∷ [])

-- ---- schemas that are asked of the value itself (Core, sections 8.2.3.1 and 10.2.1)

references : each_holds null a_null (valid_by (Some 1) ∷ valid_by (Some 2) ∷ valid_by None ∷ []) ≡ true ∷ false ∷ false ∷ []
references = refl

all_of : each_holds null a_null (valid_by_all [] ∷ valid_by_all (0 ∷ 1 ∷ []) ∷ valid_by_all (0 ∷ 2 ∷ []) ∷ valid_by_all (2 ∷ 0 ∷ []) ∷ []) ≡ true ∷ true ∷ false ∷ false ∷ []
all_of = refl

any_of : each_holds null a_null (valid_by_any [] ∷ valid_by_any (2 ∷ 1 ∷ []) ∷ valid_by_any (0 ∷ 2 ∷ []) ∷ valid_by_any (2 ∷ 3 ∷ []) ∷ []) ≡ false ∷ true ∷ true ∷ false ∷ []
any_of = refl

negated : each_holds null a_null (not_valid_by 1 ∷ not_valid_by 2 ∷ []) ≡ false ∷ true ∷ []
negated = refl

-- ---- values of any kind (Validation, section 6.1)

kinds_are : map kind_of (kind.Null ∷ kind.Boolean ∷ kind.Object ∷ kind.Array ∷ kind.Number ∷ kind.String ∷ kind.Integer ∷ [])
    ≡ keyword.Null ∷ keyword.Boolean ∷ keyword.Object ∷ keyword.Array ∷ keyword.Number ∷ keyword.String ∷ keyword.Integer ∷ []
kinds_are = refl

abbrev kinds : List (Assertion ℕ ℕ)
kinds = has_kind keyword.Null ∷ has_kind keyword.Boolean ∷ has_kind keyword.Object ∷ has_kind keyword.Array ∷ has_kind keyword.Number ∷ has_kind keyword.String ∷ has_kind keyword.Integer ∷ []

-- an integer is a number too
by_kind : map (λ x. each_holds null x kinds) (a_null ∷ a_boolean false ∷ mapped ∷ listed ∷ an_integer (pos 0) ∷ a_text A ∷ [])
    ≡ (true ∷ false ∷ false ∷ false ∷ false ∷ false ∷ false ∷ [])
    ∷ (false ∷ true ∷ false ∷ false ∷ false ∷ false ∷ false ∷ [])
    ∷ (false ∷ false ∷ true ∷ false ∷ false ∷ false ∷ false ∷ [])
    ∷ (false ∷ false ∷ false ∷ true ∷ false ∷ false ∷ false ∷ [])
    ∷ (false ∷ false ∷ false ∷ false ∷ true ∷ false ∷ true ∷ [])
    ∷ (false ∷ false ∷ false ∷ false ∷ false ∷ true ∷ false ∷ [])
    ∷ []
by_kind = refl

abbrev one_key : Document
one_key = map_of ((A, number 1) ∷ [])

-- keys count
constants : each_holds one_key a_null (equals one_key ∷ equals (map_of ((B, number 1) ∷ [])) ∷ equals (map_of ((A, number 2) ∷ [])) ∷ equals (map_of []) ∷ equals (array (number 1 ∷ [])) ∷ []) ≡ true ∷ false ∷ false ∷ false ∷ false ∷ []
constants = refl

enumerations : each_holds one_key a_null (is_among [] ∷ is_among (null ∷ one_key ∷ []) ∷ is_among (null ∷ number 1 ∷ []) ∷ []) ≡ false ∷ true ∷ false ∷ []
enumerations = refl

-- ---- integers (Validation, section 6.2)

abbrev limits : List (Assertion ℕ ℕ)
limits = at_least (pos 3) ∷ at_most (pos 3) ∷ above (pos 3) ∷ below (pos 3) ∷ []

around_three : map (λ z. each_holds null (an_integer z) limits) (negsuc 3 ∷ pos 2 ∷ pos 3 ∷ pos 4 ∷ [])
    ≡ (false ∷ true ∷ false ∷ true ∷ []) ∷ (false ∷ true ∷ false ∷ true ∷ []) ∷ (true ∷ true ∷ false ∷ false ∷ []) ∷ (true ∷ false ∷ true ∷ false ∷ []) ∷ []
around_three = refl

-- ---- lengths (Validation, sections 6.3 to 6.5)

-- U+1F600 is one character of four bytes, and an "e" with a combining accent are two of three
abbrev face : List ℕ
face = 240 ∷ 159 ∷ 152 ∷ 128 ∷ []

abbrev accented : List ℕ
accented = 101 ∷ 204 ∷ 129 ∷ []

abbrev up_to_three : (ℕ → Assertion ℕ ℕ) → List (Assertion ℕ ℕ)
up_to_three f = map f (0 ∷ 1 ∷ 2 ∷ 3 ∷ [])

long_texts : map (λ s. each_holds null (a_text s) (up_to_three (at_least_long Characters))) ([] ∷ face ∷ accented ∷ [])
    ≡ (true ∷ false ∷ false ∷ false ∷ []) ∷ (true ∷ true ∷ false ∷ false ∷ []) ∷ (true ∷ true ∷ true ∷ false ∷ []) ∷ []
long_texts = refl

short_texts : map (λ s. each_holds null (a_text s) (up_to_three (at_most_long Characters))) ([] ∷ face ∷ accented ∷ codes "abc" ∷ [])
    ≡ (true ∷ true ∷ true ∷ true ∷ []) ∷ (false ∷ true ∷ true ∷ true ∷ []) ∷ (false ∷ false ∷ true ∷ true ∷ []) ∷ (false ∷ false ∷ false ∷ true ∷ []) ∷ []
short_texts = refl

long_lists : map (λ ys. each_holds null (a_list ys) (up_to_three (at_least_long Elements))) ([] ∷ (5 ∷ 5 ∷ []) ∷ []) ≡ (true ∷ false ∷ false ∷ false ∷ []) ∷ (true ∷ true ∷ true ∷ false ∷ []) ∷ []
long_lists = refl

short_lists : map (λ ys. each_holds null (a_list ys) (up_to_three (at_most_long Elements))) ([] ∷ (5 ∷ 5 ∷ []) ∷ []) ≡ (true ∷ true ∷ true ∷ true ∷ []) ∷ (false ∷ false ∷ true ∷ true ∷ []) ∷ []
short_lists = refl

long_maps : map (λ x. each_holds null x (up_to_three (at_least_long Keys))) (an_object [] ∷ mapped ∷ []) ≡ (true ∷ false ∷ false ∷ false ∷ []) ∷ (true ∷ true ∷ true ∷ false ∷ []) ∷ []
long_maps = refl

short_maps : map (λ x. each_holds null x (up_to_three (at_most_long Keys))) (an_object [] ∷ mapped ∷ []) ≡ (true ∷ true ∷ true ∷ true ∷ []) ∷ (false ∷ false ∷ true ∷ true ∷ []) ∷ []
short_maps = refl

-- what isn't of the kind is valid: "a", [.., .., ..] and {"a": .., "b": ..} are too short for these, and too long for those
abbrev of_each_count : (Counted → Assertion ℕ ℕ) → List (Assertion ℕ ℕ)
of_each_count f = map f (Characters ∷ Elements ∷ Keys ∷ [])

other_lengths : (map (λ x. each_holds null x (of_each_count (λ c. at_least_long c 9))) (a_null ∷ a_boolean true ∷ an_integer (pos 0) ∷ a_text A ∷ listed ∷ mapped ∷ [])
    ≡ (true ∷ true ∷ true ∷ []) ∷ (true ∷ true ∷ true ∷ []) ∷ (true ∷ true ∷ true ∷ []) ∷ (false ∷ true ∷ true ∷ []) ∷ (true ∷ false ∷ true ∷ []) ∷ (true ∷ true ∷ false ∷ []) ∷ [])
    × (map (λ x. each_holds null x (of_each_count (λ c. at_most_long c 0))) (a_null ∷ a_boolean true ∷ an_integer (pos 9) ∷ a_text A ∷ listed ∷ mapped ∷ [])
    ≡ (true ∷ true ∷ true ∷ []) ∷ (true ∷ true ∷ true ∷ []) ∷ (true ∷ true ∷ true ∷ []) ∷ (false ∷ true ∷ true ∷ []) ∷ (true ∷ false ∷ true ∷ []) ∷ (true ∷ true ∷ false ∷ []) ∷ [])
other_lengths = (refl, refl)

-- a limit below zero, which no schema document has, asks nothing, and so does none
limits_of_lengths : (map (λ o. is_at_least_long o 3) (None ∷ Some (negsuc 4) ∷ Some (pos 0) ∷ Some (pos 3) ∷ Some (pos 4) ∷ []) ≡ true ∷ true ∷ true ∷ true ∷ false ∷ [])
    × (map (λ o. is_at_most_long o 3) (None ∷ Some (negsuc 4) ∷ Some (pos 2) ∷ Some (pos 3) ∷ Some (pos 4) ∷ []) ≡ true ∷ true ∷ false ∷ true ∷ true ∷ [])
limits_of_lengths = (refl, refl)

counts_alone : map (of_count {H = ℕ} {I = ℕ} (at_least_long Elements)) (pos 3 ∷ negsuc 0 ∷ []) ≡ at_least_long Elements 3 ∷ nothing ∷ []
counts_alone = refl

module _ (c : Conjunction) where
  length_claims : c.keywords.now.max_items ≡ Some (pos 1) → c.keywords.now.max_length ≡ Some (pos 2) → c.keywords.now.max_properties ≡ Some (pos 3)
      → c.keywords.now.min_items ≡ Some (pos 4) → c.keywords.now.min_length ≡ Some (pos 5) → c.keywords.now.min_properties ≡ Some (pos 6)
      → map (claim_of c) (word.MaxItems ∷ word.MaxLength ∷ word.MaxProperties ∷ word.MinItems ∷ word.MinLength ∷ word.MinProperties ∷ [])
      ≡ Some (at_most_long Elements 1) ∷ Some (at_most_long Characters 2) ∷ Some (at_most_long Keys 3) ∷ Some (at_least_long Elements 4) ∷ Some (at_least_long Characters 5) ∷ Some (at_least_long Keys 6) ∷ []
  length_claims e f g h i j = rw (e, f, g, h, i, j) refl

  lists_asked : c.keywords.now.max_items ≡ Some (pos 2) → c.keywords.now.min_items ≡ Some (pos 1) → c.keywords.now.prefix.items ≡ [] → c.keywords.now.rest ≡ None
      → map (asks_list nat_eq c) ([] ∷ (5 ∷ []) ∷ (5 ∷ 6 ∷ []) ∷ (5 ∷ 6 ∷ 7 ∷ []) ∷ []) ≡ false ∷ true ∷ true ∷ false ∷ []
  lists_asked e f g h = rw (e, f, g, h) refl

  maps_asked : c.keywords.now.max_properties ≡ Some (pos 1) → c.keywords.now.min_properties ≡ Some (pos 1) → c.required ≡ [] → c.keywords.now.properties.entries ≡ [] → c.keywords.now.additional ≡ None
      → map (asks_map nat_eq c) ([] ∷ ((A, 1) ∷ []) ∷ ((A, 1) ∷ (B, 2) ∷ []) ∷ []) ≡ false ∷ true ∷ false ∷ []
  maps_asked e f g h i = rw (e, f, g, h, i) refl

module _ (k : Keywords) where
  texts_asked : k.max_length ≡ Some (pos 2) → k.min_length ≡ Some (pos 1) → map (asks_text k) ([] ∷ face ∷ accented ∷ (101 ∷ 204 ∷ 129 ∷ 97 ∷ []) ∷ []) ≡ false ∷ true ∷ true ∷ false ∷ []
  texts_asked e f = rw (e, f) refl

-- ---- lists (Validation, section 6.4; Core, section 10.3.1)

-- an element that isn't there is asked for by nothing
fronts : each_holds null listed (in_front [] ∷ in_front (5 ∷ 6 ∷ []) ∷ in_front (5 ∷ 7 ∷ []) ∷ in_front (5 ∷ 6 ∷ 7 ∷ 9 ∷ []) ∷ []) ≡ true ∷ true ∷ false ∷ true ∷ []
fronts = refl

rests : each_holds null listed (behind 2 7 ∷ behind 1 7 ∷ behind 0 5 ∷ behind 3 9 ∷ behind 4 9 ∷ []) ≡ true ∷ false ∷ false ∷ true ∷ true ∷ []
rests = refl

-- ---- maps (Validation, section 6.5; Core, section 10.3.2)

required : each_holds null mapped (has_keys [] ∷ has_keys (A ∷ B ∷ []) ∷ has_keys (A ∷ codes "c" ∷ []) ∷ has_keys (codes "c" ∷ A ∷ []) ∷ []) ≡ true ∷ true ∷ false ∷ false ∷ []
required = refl

-- a name that is no key is asked for by nothing
properties : each_holds null mapped (at_keys ((A, 1) ∷ (B, 2) ∷ []) ∷ at_keys ((A, 1) ∷ (B, 1) ∷ []) ∷ at_keys ((codes "c", 9) ∷ []) ∷ []) ≡ true ∷ false ∷ true ∷ []
properties = refl

additional : each_holds null mapped (at_other_keys (A ∷ []) 2 ∷ at_other_keys (B ∷ []) 2 ∷ at_other_keys (A ∷ B ∷ []) 9 ∷ at_other_keys [] 1 ∷ []) ≡ true ∷ false ∷ true ∷ false ∷ []
additional = refl

-- ---- values of other kinds

abbrev of_lists_and_maps : List (Assertion ℕ ℕ)
of_lists_and_maps = at_least_long Elements 9 ∷ in_front (9 ∷ []) ∷ behind 0 9 ∷ has_keys (A ∷ []) ∷ at_keys ((A, 9) ∷ []) ∷ at_other_keys [] 9 ∷ []

other_kinds : map (λ x. each_holds null x of_lists_and_maps) (a_null ∷ a_boolean true ∷ an_integer (pos 0) ∷ a_text A ∷ a_list [] ∷ an_object [] ∷ [])
    ≡ (true ∷ true ∷ true ∷ true ∷ true ∷ true ∷ [])
    ∷ (true ∷ true ∷ true ∷ true ∷ true ∷ true ∷ [])
    ∷ (true ∷ true ∷ true ∷ true ∷ true ∷ true ∷ [])
    ∷ (true ∷ true ∷ true ∷ true ∷ true ∷ true ∷ [])
    ∷ (false ∷ true ∷ true ∷ true ∷ true ∷ true ∷ [])
    ∷ (true ∷ true ∷ true ∷ false ∷ true ∷ true ∷ [])
    ∷ []
other_kinds = refl

no_number : map (λ x. each_holds null x limits) (a_null ∷ a_text A ∷ listed ∷ mapped ∷ []) ≡ (true ∷ true ∷ true ∷ true ∷ []) ∷ (true ∷ true ∷ true ∷ true ∷ []) ∷ (true ∷ true ∷ true ∷ true ∷ []) ∷ (true ∷ true ∷ true ∷ true ∷ []) ∷ []
no_number = refl

-- ---- what a kind alone decides

abbrev of_each_kind : List (Opened ℕ)
of_each_kind = a_null ∷ a_boolean true ∷ an_integer (pos 0) ∷ a_text A ∷ listed ∷ mapped ∷ []

-- a constant refuses the other kinds, and null is alone of its kind
constants_by_kind : map (λ v. map (equals_by_kind v) of_each_kind) (null ∷ boolean true ∷ number 0 ∷ text A ∷ array [] ∷ map_of [] ∷ [])
    ≡ (Some true ∷ Some false ∷ Some false ∷ Some false ∷ Some false ∷ Some false ∷ [])
    ∷ (Some false ∷ None ∷ Some false ∷ Some false ∷ Some false ∷ Some false ∷ [])
    ∷ (Some false ∷ Some false ∷ None ∷ Some false ∷ Some false ∷ Some false ∷ [])
    ∷ (Some false ∷ Some false ∷ Some false ∷ None ∷ Some false ∷ Some false ∷ [])
    ∷ (Some false ∷ Some false ∷ Some false ∷ Some false ∷ None ∷ Some false ∷ [])
    ∷ (Some false ∷ Some false ∷ Some false ∷ Some false ∷ Some false ∷ None ∷ [])
    ∷ []
constants_by_kind = refl

enumerations_by_kind : map (λ vs. map (among_by_kind vs) of_each_kind) ([] ∷ (number 1 ∷ null ∷ number 2 ∷ []) ∷ [])
    ≡ (Some false ∷ Some false ∷ Some false ∷ Some false ∷ Some false ∷ Some false ∷ [])
    ∷ (Some true ∷ Some false ∷ None ∷ Some false ∷ Some false ∷ Some false ∷ [])
    ∷ []
enumerations_by_kind = refl

-- rule 0 admits texts, has to look at integers and refuses the others
abbrev decided : List ByKind
decided = record { null = Some false; boolean = Some false; integer = None; text = Some true; list = Some false; object = Some false } ∷ []

-- without a schema all are admitted, and what isn't numbered is looked at
negations_by_kind : map (λ o. map (negation_by_kind decided o) of_each_kind) (None ∷ Some 0 ∷ Some 1 ∷ [])
    ≡ (Some true ∷ Some true ∷ Some true ∷ Some true ∷ Some true ∷ Some true ∷ [])
    ∷ (Some true ∷ Some true ∷ None ∷ Some false ∷ Some true ∷ Some true ∷ [])
    ∷ (None ∷ None ∷ None ∷ None ∷ None ∷ None ∷ [])
    ∷ []
negations_by_kind = refl

module _ (c : Conjunction) (name : String Global) where
  no_reference_by_kind : c.keywords.now.reference ≡ None → map (reference_by_kind decided c) of_each_kind ≡ Some true ∷ Some true ∷ Some true ∷ Some true ∷ Some true ∷ Some true ∷ []
  no_reference_by_kind e = rw e refl

  undefined_by_kind : c.keywords.now.reference ≡ Some name → c.reference ≡ None → map (reference_by_kind decided c) of_each_kind ≡ Some false ∷ Some false ∷ Some false ∷ Some false ∷ Some false ∷ Some false ∷ []
  undefined_by_kind e f = rw (e, f) refl

  reference_decided : c.keywords.now.reference ≡ Some name → c.reference ≡ Some 0 → map (reference_by_kind decided c) of_each_kind ≡ Some false ∷ Some false ∷ None ∷ Some true ∷ Some false ∷ Some false ∷ []
  reference_decided e f = rw (e, f) refl

  -- a kind that `type` refuses needs no look at `const`
  all_by_kind : c.keywords.now.kind ≡ Some kind.Integer → c.keywords.now.equal ≡ None → c.one_of ≡ Some (number 1 ∷ null ∷ [])
      → map (any_by_kind c) of_each_kind ≡ Some false ∷ Some false ∷ None ∷ Some false ∷ Some false ∷ Some false ∷ []
  all_by_kind e f g = rw (e, f, g) refl

-- ---- what is marked

abbrev several : List Document
several = null ∷ number 3 ∷ text A ∷ array (number 4 ∷ text B ∷ []) ∷ map_of ((B, number 5) ∷ []) ∷ boolean true ∷ text B ∷ number 3 ∷ []

marked_texts : texts_in several ≡ A ∷ B ∷ []
marked_texts = refl

marked_integers : integers_in several ≡ pos 3 ∷ pos 3 ∷ []
marked_integers = refl

module _ (c : Conjunction) (v : Doc) where
  all_marked : c.keywords.now.equal ≡ Some v → doc_view v ≡ number 7 → c.one_of ≡ Some (text A ∷ number 1 ∷ [])
      → c.keywords.now.maximum ≡ Some (pos 9) → c.keywords.now.minimum ≡ Some (pos 2) → c.keywords.now.below ≡ None → c.keywords.now.above ≡ Some (negsuc 0)
      → c.keywords.now.max_length ≡ Some (pos 5) → c.keywords.now.min_length ≡ Some (pos 4)
      → (texts_of c ≡ A ∷ []) × (integers_of c ≡ pos 7 ∷ pos 1 ∷ pos 9 ∷ pos 2 ∷ negsuc 0 ∷ []) × (lengths_of c.keywords.now ≡ 6 ∷ 4 ∷ [])
  all_marked e is f g h i j l m = rw (e, is, f, g, h, i, j, l, m) (refl, refl, refl)

  none_marked : c.keywords.now.equal ≡ None → c.one_of ≡ None
      → c.keywords.now.maximum ≡ None → c.keywords.now.minimum ≡ None → c.keywords.now.below ≡ None → c.keywords.now.above ≡ None
      → c.keywords.now.max_length ≡ None → c.keywords.now.min_length ≡ None
      → (texts_of c ≡ []) × (integers_of c ≡ []) × (lengths_of c.keywords.now ≡ [])
  none_marked e f g h i j l m = rw (e, f, g, h, i, j, l, m) (refl, refl, refl)

-- an integer below zero is no count
counts_marked : map count_in (None ∷ Some (negsuc 0) ∷ Some (pos 0) ∷ Some (pos 7) ∷ []) ≡ [] ∷ [] ∷ (0 ∷ []) ∷ (7 ∷ []) ∷ []
counts_marked = refl

-- integers between marks are all alike, and what isn't marked is told apart all the same
abbrev claimed : Assertion ℕ ℕ → Step
claimed a here inside d x = holds here inside a d x

abbrev marks : List (List ℕ) → List ℤ → List ℕ → Compared
marks ts zs ls = record { texts = ts; integers = zs; lengths = ls }

integers_between : AreAlike (marks [] (pos 3 ∷ pos 8 ∷ []) []) (an_integer (pos 4)) (an_integer (pos 7))
integers_between = ((refl, refl), ((refl, refl), tt))

lengths_between : AreAlike (marks [] [] (1 ∷ 3 ∷ [])) (a_text face) (a_text accented)
lengths_between = (tt, (refl, (refl, tt)))

limit_unmarked : IsToldBy (claimed (at_most (pos 3))) (marks [] (pos 2 ∷ []) []) → ⊥
limit_unmarked told = let e : true ≡ false = told here nat_eq nat_eq (number 3) (number 4) (an_integer (pos 3)) (an_integer (pos 4)) ((λ i. null), refl) ((λ i. null), refl) ((refl, refl), tt) in cc

text_unmarked : IsToldBy (claimed (equals (text A))) (marks (B ∷ []) [] []) → ⊥
text_unmarked told = let e : true ≡ false = told here nat_eq nat_eq (text A) (text (codes "c")) (a_text A) (a_text (codes "c")) ((λ i. null), refl) ((λ i. null), refl) ((refl, tt), tt) in cc

-- a text of two characters is too long from there on, and not from one on
length_unmarked : IsToldBy (claimed (at_most_long Characters 1)) (marks [] [] (1 ∷ [])) → ⊥
length_unmarked told = let e : true ≡ false = told here nat_eq nat_eq (text face) (text accented) (a_text face) (a_text accented) ((λ i. null), refl) ((λ i. null), refl) (tt, (refl, tt)) in cc

-- ---- constraints over numbers

without_nothing : map (said {H = ℕ} {I = ℕ}) (always ∷ never ∷ conjunction (nothing ∷ at_most (pos 1) ∷ nothing ∷ not_valid_by 0 ∷ []) ∷ []) ≡ always ∷ never ∷ conjunction (at_most (pos 1) ∷ not_valid_by 0 ∷ []) ∷ []
without_nothing = refl

-- the first map is of schemas asked of the same document, and the second of those asked of documents inside
renamed : map_constraint (λ r. r + 10) (λ p. p + 20) (conjunction (valid_by (Some 1) ∷ at_keys ((A, 1) ∷ []) ∷ at_other_keys (A ∷ []) 2 ∷ in_front (3 ∷ []) ∷ behind 1 4 ∷ valid_by_all (5 ∷ []) ∷ valid_by_any (6 ∷ []) ∷ not_valid_by 7 ∷ at_least_long Keys 8 ∷ at_most_long Elements 9 ∷ []))
    ≡ conjunction (valid_by (Some 11) ∷ at_keys ((A, 21) ∷ []) ∷ at_other_keys (A ∷ []) 22 ∷ in_front (23 ∷ []) ∷ behind 1 24 ∷ valid_by_all (15 ∷ []) ∷ valid_by_any (16 ∷ []) ∷ not_valid_by 17 ∷ at_least_long Keys 8 ∷ at_most_long Elements 9 ∷ [])
renamed = refl

below_both : PartsBelow 2 1 (conjunction (valid_by_all (0 ∷ 1 ∷ []) ∷ behind 5 0 ∷ []))
below_both = ((omega arith, (omega arith, tt)), (omega arith, tt))

rule_not_below : PartsBelow 1 9 (conjunction (not_valid_by 1 ∷ [])) → ⊥
rule_not_below h = let l = h.0 in omega (arith, l)

place_not_below : PartsBelow 9 1 (conjunction (at_other_keys [] 1 ∷ [])) → ⊥
place_not_below h = let l = h.0 in omega (arith, l)

-- ---- places of what waits: `additionalProperties`, `items`, `prefixItems`, `properties`

one_after_another : places_from 4 (A ∷ B ∷ A ∷ []) ≡ 4 ∷ 5 ∷ 6 ∷ []
one_after_another = refl

names_numbered : numbers_from 4 (A ∷ B ∷ []) ≡ (A, 4) ∷ (B, 5) ∷ []
names_numbered = refl

module _ (c : Conjunction) (s t : Schema) where
  all_stand : c.first ≡ 5 → c.keywords.now.additional ≡ Some s → c.keywords.now.rest ≡ Some t → c.keywords.now.prefix.items ≡ s ∷ t ∷ [] → items_place c ∷ prefix_place c ∷ properties_place c ∷ [] ≡ 6 ∷ 7 ∷ 9 ∷ []
  all_stand e f g h = rw (e, f, g, h) refl

  none_stands : c.first ≡ 5 → c.keywords.now.additional ≡ None → c.keywords.now.rest ≡ None → c.keywords.now.prefix.items ≡ [] → items_place c ∷ prefix_place c ∷ properties_place c ∷ [] ≡ 5 ∷ 5 ∷ 5 ∷ []
  none_stands e f g h = rw (e, f, g, h) refl

left_out : map (unless_empty (λ (ns : List ℕ). length ns)) ([] ∷ (7 ∷ 8 ∷ []) ∷ []) ≡ None ∷ Some 2 ∷ []
left_out = refl

-- ---- rules and pairs

rules_of_truths : map rules_of (boolean true ∷ boolean false ∷ map_of [] ∷ []) ≡ (boolean true ∷ []) ∷ (boolean false ∷ []) ∷ (map_of [] ∷ []) ∷ []
rules_of_truths = refl

-- 67,108,864 pairs are not too many, and one more is
module _ (R d : Document) where
  at_the_bound : length (nodes d) * length (rules_of R) ≡ 67108864 → HasManyPairs R d → ⊥
  at_the_bound e h = omega (arith, e, h)

  past_the_bound : length (nodes d) * length (rules_of R) ≡ 67108865 → HasManyPairs R d
  past_the_bound e = omega (arith, e)
