-- What is numbered and what waits are, together, a schema and those inside it.
use Rattle.std.proofs.Common.{◌≡◌, false, List, [], ◌∷◌, ◌++◌, Option, Some, map, refl, sym, ap, ap₂, ◌∙◌, append-nil}
use Rattle.std.specs.Option.{option_and_then}
use Rattle.std.specs.List.{flat_map}
use Rattle.std.proofs.lemmas.Grind.{flat_map-append}
use Rattle.std.proofs.lemmas.List.Sorted.{IsPermutation-refl, IsPermutation-append, IsPermutation-append_right}
use Rattle.cs_document.specs.Document.{Document, null, boolean, integer, text, list, object, Documents, no_documents, document, Members, no_members, member, elements, entries, under}
use Rattle.cs_rules.proofs.Permutations.{Same, equal, joined, exchange, to_front, parted}
use Rattle.cs_profile.specs.Keywords.{keywords, elements_of, entries_of}
use Rattle.cs_profile.specs.Shapes.{form_in}
use Rattle.cs_profile.specs.declared.keyword.Keyword.{Keyword}
use Rattle.cs_profile.specs.declared.keyword.Keyword.TheVariants as keyword
use Rattle.cs_validate.specs.Rules.{in_value, subschemas, member_schemas, list_schemas, element_schemas, map_schemas, named_schemas}
use Rattle.cs_validate.specs.Placing.{if_direct, inside_of, placed_by, placed_by_members, placed_by_list, placed_by_each, inside_members, left_by, left_by_members, left_by_list, left_by_each}

-- ---- below the root

-- schemas and those inside them
abbrev pub inside : List Document → List Document
inside ss = flat_map (subschemas false) ss

pub inside_append : (xs ys : List Document) → inside (xs ++ ys) ≡ inside xs ++ inside ys
inside_append xs ys = flat_map-append (subschemas false) xs ys

elements_inside : (ds : Documents) → inside (elements ds) ≡ element_schemas ds
elements_inside no_documents = refl
elements_inside (document d ds) = ap (λ xs. subschemas false d ++ xs) (elements_inside ds)

list_inside : (v : Document) → inside (elements_of v) ≡ list_schemas v
list_inside null = refl
list_inside (boolean b) = refl
list_inside (integer z) = refl
list_inside (text s) = refl
list_inside (list ds) = elements_inside ds
list_inside (object ms) = refl

named_inside : (ms : Members) → inside (map (λ e. e.1) (entries ms)) ≡ named_schemas ms
named_inside no_members = refl
named_inside (member k v ms) = ap (λ xs. subschemas false v ++ xs) (named_inside ms)

map_inside : (v : Document) → inside (map (λ e. e.1) (entries_of v)) ≡ map_schemas v
map_inside null = refl
map_inside (boolean b) = refl
map_inside (integer z) = refl
map_inside (text s) = refl
map_inside (list ds) = refl
map_inside (object ms) = named_inside ms

-- the schemas in a value, by its keyword
abbrev held : Option Keyword → Document → List Document
held o v = in_value (option_and_then (form_in false) o) (record { none = []; itself = subschemas false v; elements = list_schemas v; members = map_schemas v })

-- what waits, of a keyword's value
abbrev left_of : Option Keyword → Document → List Document
left_of o v = if_direct o (left_by v) (left_by_list v) ++ inside_of o v

without_more : (P xs ys : List Document) → Same (P ++ inside xs) ys → Same (P ++ inside (xs ++ [])) ys
without_more P xs ys h = joined (equal _ _ (ap (λ zs. P ++ inside zs) (append-nil xs))) h

value_whole : (o : Option Keyword) (v : Document) → Same (placed_by v ++ inside (left_by v)) (subschemas false v) → Same (placed_by_list v ++ inside (left_by_list v)) (list_schemas v)
    → Same (if_direct o (placed_by v) (placed_by_list v) ++ inside (left_of o v)) (held o v)
value_whole (Some keyword.Not) v itself elements = without_more (placed_by v) (left_by v) (subschemas false v) itself
value_whole (Some keyword.AllOf) v itself elements = without_more (placed_by_list v) (left_by_list v) (list_schemas v) elements
value_whole (Some keyword.AnyOf) v itself elements = without_more (placed_by_list v) (left_by_list v) (list_schemas v) elements
value_whole (Some keyword.AdditionalProperties) v itself elements = equal _ _ (append-nil (subschemas false v))
value_whole (Some keyword.Items) v itself elements = equal _ _ (append-nil (subschemas false v))
value_whole (Some keyword.PrefixItems) v itself elements = equal _ _ (list_inside v)
value_whole (Some keyword.Properties) v itself elements = equal _ _ (map_inside v)
value_whole _ v itself elements = IsPermutation-refl []

-- two parts make a whole
parts_whole : (P Q xs ys A B : List Document) → Same (P ++ inside xs) A → Same (Q ++ inside ys) B → Same ((P ++ Q) ++ inside (xs ++ ys)) (A ++ B)
parts_whole P Q xs ys A B h k =
    joined (equal _ _ (ap (λ zs. (P ++ Q) ++ zs) (inside_append xs ys)))
    (joined (exchange P Q (inside xs) (inside ys)) (IsPermutation-append (P ++ inside xs) A (Q ++ inside ys) B h k))

-- what waits of a member is in two places
left_apart : (a b c d : List Document) (Q X : List Document) → Same (Q ++ inside ((a ++ c) ++ (b ++ d))) X → Same (Q ++ inside ((a ++ b) ++ (c ++ d))) X
left_apart a b c d Q X h =
    let turned = exchange (inside a) (inside b) (inside c) (inside d) in
    let left : inside ((a ++ b) ++ (c ++ d)) ≡ (inside a ++ inside b) ++ (inside c ++ inside d) = inside_append (a ++ b) (c ++ d) ∙ ap₂ ◌++◌ (inside_append a b) (inside_append c d) in
    let right : inside ((a ++ c) ++ (b ++ d)) ≡ (inside a ++ inside c) ++ (inside b ++ inside d) = inside_append (a ++ c) (b ++ d) ∙ ap₂ ◌++◌ (inside_append a c) (inside_append b d) in
    joined (IsPermutation-append_right Q (inside ((a ++ b) ++ (c ++ d))) (inside ((a ++ c) ++ (b ++ d))) (joined (equal _ _ left) (joined turned (equal _ _ (sym right))))) h

mutual
  pub whole : (s : Document) → Same (placed_by s ++ inside (left_by s)) (subschemas false s)
  whole null = IsPermutation-refl _
  whole (boolean b) = IsPermutation-refl _
  whole (integer z) = IsPermutation-refl _
  whole (text s) = IsPermutation-refl _
  whole (list ds) = IsPermutation-refl _
  whole (object ms) = to_front (object ms) (placed_by_members ms) (inside (left_by (object ms))) (member_schemas false ms) (whole_members ms)

  pub whole_members : (ms : Members) → Same (placed_by_members ms ++ inside (left_by_members ms ++ inside_members ms)) (member_schemas false ms)
  whole_members no_members = IsPermutation-refl _
  whole_members (member k v ms) =
      let o = under k keywords in
      let here = value_whole o v (whole v) (whole_list v) in
      let D = if_direct o (left_by v) (left_by_list v) in
      let P = if_direct o (placed_by v) (placed_by_list v) in
      left_apart D (left_by_members ms) (inside_of o v) (inside_members ms) (P ++ placed_by_members ms) (held o v ++ member_schemas false ms)
      (parts_whole P (placed_by_members ms) (D ++ inside_of o v) (left_by_members ms ++ inside_members ms) (held o v) (member_schemas false ms) here (whole_members ms))

  whole_list : (v : Document) → Same (placed_by_list v ++ inside (left_by_list v)) (list_schemas v)
  whole_list null = IsPermutation-refl _
  whole_list (boolean b) = IsPermutation-refl _
  whole_list (integer z) = IsPermutation-refl _
  whole_list (text s) = IsPermutation-refl _
  whole_list (list ds) = whole_each ds
  whole_list (object ms) = IsPermutation-refl _

  whole_each : (ds : Documents) → Same (placed_by_each ds ++ inside (left_by_each ds)) (element_schemas ds)
  whole_each no_documents = IsPermutation-refl _
  whole_each (document d ds) = parts_whole (placed_by d) (placed_by_each ds) (left_by d) (left_by_each ds) (subschemas false d) (element_schemas ds) (whole d) (whole_each ds)

pub whole_of : (ss : List Document) → Same (flat_map placed_by ss ++ inside (flat_map left_by ss)) (inside ss)
whole_of [] = IsPermutation-refl _
whole_of (s ∷ ss) = parts_whole (placed_by s) (flat_map placed_by ss) (left_by s) (flat_map left_by ss) (subschemas false s) (inside ss) (whole s) (whole_of ss)

-- a schema that waited gets its number
pub whole_step : (placed : List Document) (s : Document) (rest : List Document) → Same (placed ++ inside (s ∷ rest)) ((placed ++ placed_by s) ++ inside (rest ++ left_by s))
whole_step placed s rest =
    joined (parted placed (subschemas false s) (placed_by s) (inside (left_by s)) (inside rest) (whole s)) (equal _ _ (ap (λ xs. (placed ++ placed_by s) ++ xs) (sym (inside_append rest (left_by s)))))
