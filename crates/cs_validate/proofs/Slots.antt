-- What the members of an object contribute, keyword by keyword.
use Rattle.std.proofs.Common.{◌≡◌, ℕ, max, length, bytes_eq, arith, Bool, true, false, List, [], ◌∷◌, ◌++◌, map, Option, Some, None, option_map, String, Global, string_bytes, codes, refl, ap, ap₂, ◌∙◌, append-nil, if◌then◌else◌}
use Rattle.std.proofs.lemmas.List.{length-map}
use Rattle.std.specs.Prelude.{option_to_list}
use Rattle.std.specs.List.{flat_map}
use Rattle.cs_document.specs.Document.{Document, list, elements, entries, Members, no_members, member, Entry, under}
use Rattle.cs_document.specs.View.{documents_of, members_of}
use Rattle.cs_profile.specs.Keywords.{keywords, listed_under, entries_of, elements_of}
use Rattle.cs_profile.specs.Constraint.{places_taken}
use Rattle.cs_profile.specs.Loops.{ByReach, by_keyword, direct_names, keyword_names, each_names}
use Rattle.cs_profile.specs.ValueNames.{value_names}
use Rattle.cs_profile.specs.Numbered.{reference_names, names_of_each, names_in}
use Rattle.cs_profile.specs.SchemaDocument.{Slot, reference_document, unless_no_map, unless_no_list, definitions_view, present, schema_view, schemas_view, slots_of}
use Rattle.cs_profile.specs.declared.keyword.Keyword.{Keyword}
use Rattle.cs_profile.specs.declared.keyword.Keyword.TheVariants as keyword
use Rattle.cs_profile.specs.declared.schema.Keywords.{Keywords}
use Rattle.cs_profile.specs.declared.schema.Schema.{Schema}
use Rattle.cs_profile.proofs.Slots.{slots_are}
use Rattle.cs_validate.specs.Placing.{if_direct, inside_of, placed_by, placed_by_members, placed_by_list, placed_by_each, inside_members, left_by, left_by_members, left_by_list, left_by_each}

-- what each keyword's value contributes, where some keywords contribute nothing
module _ {X : Type 0} (part : List ℕ → Document → List X) (speaks : List ℕ → Bool) (silent : (n : List ℕ) (v : Document) → speaks n ≡ false → part n v ≡ []) where
  abbrev pub slot_part : List ℕ → Option Document → List X
  slot_part n None = []
  slot_part n (Some v) = part n v

  abbrev pub spoken : List Slot → List X
  spoken [] = []
  spoken (s ∷ ss) = if speaks s.0 then slot_part s.0 s.1 ++ spoken ss else spoken ss

  silent_slot : (n : List ℕ) (o : Option Document) → speaks n ≡ false → slot_part n o ≡ []
  silent_slot n None h = refl
  silent_slot n (Some v) h = silent n v h

  -- by a function that gathers what the members contribute
  module _ (gather : Members → List X) (none : gather no_members ≡ []) (more : (n : List ℕ) (v : Document) (ms : Members) → gather (member n v ms) ≡ part n v ++ gather ms) where
    one_slot : (n : List ℕ) (o : Option Document) (ss : List Slot) → gather (present ((n, o) ∷ ss)) ≡ slot_part n o ++ gather (present ss)
    one_slot n None ss = refl
    one_slot n (Some v) ss = more n v (present ss)

    at_test : (s : Slot) (ss : List Slot) (t : Bool) → speaks s.0 ≡ t → gather (present ss) ≡ spoken ss
        → (slot_part s.0 s.1 ++ gather (present ss)) ≡ (if t then slot_part s.0 s.1 ++ spoken ss else spoken ss)
    at_test s ss true q h = ap (λ xs. slot_part s.0 s.1 ++ xs) h
    at_test s ss false q h = ap₂ (λ xs ys. xs ++ ys) (silent_slot s.0 s.1 q) h

    pub gathered : (ss : List Slot) → gather (present ss) ≡ spoken ss
    gathered [] = none
    gathered (s ∷ ss) = one_slot s.0 s.1 ss ∙ at_test s ss (speaks s.0) refl (gathered ss)

-- ---- what the keywords ask of the same document

abbrev is_direct : Option Keyword → Bool
is_direct (Some keyword.Not) = true
is_direct (Some keyword.AllOf) = true
is_direct (Some keyword.AnyOf) = true
is_direct _ = false

not_direct : {A : Type 0} (w : Option Keyword) (itself elements : List A) → is_direct w ≡ false → if_direct w itself elements ≡ []
not_direct (Some keyword.Not) itself elements h = cc
not_direct (Some keyword.AllOf) itself elements h = cc
not_direct (Some keyword.AnyOf) itself elements h = cc
not_direct _ itself elements h = refl

placed_each : (ds : List Document) → placed_by_each (documents_of ds) ≡ flat_map placed_by ds
placed_each [] = refl
placed_each (d ∷ ds) = ap (λ xs. placed_by d ++ xs) (placed_each ds)

left_each : (ds : List Document) → left_by_each (documents_of ds) ≡ flat_map left_by ds
left_each [] = refl
left_each (d ∷ ds) = ap (λ xs. left_by d ++ xs) (left_each ds)

-- what the schemas asked of the same document contribute, each by itself
module _ {X : Type 0} (of : Document → List X) (of_list : Document → List X) (lists : (ds : List Document) → of_list (list (documents_of ds)) ≡ flat_map of ds) where
  abbrev direct_part : List ℕ → Document → List X
  direct_part n v = if_direct (under n keywords) (of v) (of_list v)

  abbrev speaks_directly : List ℕ → Bool
  speaks_directly n = is_direct (under n keywords)

  direct_silent : (n : List ℕ) (v : Document) → speaks_directly n ≡ false → direct_part n v ≡ []
  direct_silent n v h = not_direct (under n keywords) (of v) (of_list v) h

  abbrev in_slot : List ℕ → Option Document → List X
  in_slot = slot_part direct_part speaks_directly direct_silent

  all_part : (ds : List Document) → in_slot (codes "allOf") (unless_no_list ds) ≡ flat_map of ds
  all_part [] = refl
  all_part (d ∷ ds) = lists (d ∷ ds)

  any_part : (ds : List Document) → in_slot (codes "anyOf") (unless_no_list ds) ≡ flat_map of ds
  any_part [] = refl
  any_part (d ∷ ds) = lists (d ∷ ds)

  not_part : (o : Option Document) → in_slot (codes "not") o ++ [] ≡ flat_map of (option_to_list o)
  not_part None = refl
  not_part (Some d) = refl

  direct_parts : (gather : Members → List X) → gather no_members ≡ [] → ((n : List ℕ) (v : Document) (ms : Members) → gather (member n v ms) ≡ direct_part n v ++ gather ms)
      → (k : Keywords) → gather (present (slots_of k)) ≡ flat_map of (schemas_view k.all_of.items) ++ (flat_map of (schemas_view k.any_of.items) ++ flat_map of (option_to_list (option_map schema_view k.negated)))
  direct_parts gather none more k =
      gathered direct_part speaks_directly direct_silent gather none more (slots_of k)
      ∙ ap (spoken direct_part speaks_directly direct_silent) (slots_are k)
      ∙ ap₂ (λ xs ys. xs ++ ys) (all_part (schemas_view k.all_of.items))
      (ap₂ (λ xs ys. xs ++ ys) (any_part (schemas_view k.any_of.items)) (not_part (option_map schema_view k.negated)))

pub placed_members_are : (k : Keywords) → placed_by_members (present (slots_of k)) ≡ flat_map placed_by (schemas_view k.all_of.items) ++ (flat_map placed_by (schemas_view k.any_of.items) ++ flat_map placed_by (option_to_list (option_map schema_view k.negated)))
placed_members_are k = direct_parts placed_by placed_by_list placed_each placed_by_members refl (λ n v ms. refl) k

pub left_members_are : (k : Keywords) → left_by_members (present (slots_of k)) ≡ flat_map left_by (schemas_view k.all_of.items) ++ (flat_map left_by (schemas_view k.any_of.items) ++ flat_map left_by (option_to_list (option_map schema_view k.negated)))
left_members_are k = direct_parts left_by left_by_list left_each left_by_members refl (λ n v ms. refl) k

-- ---- the names that the keywords refer to directly

abbrev refers : Option Keyword → Bool
refers (Some keyword.Ref) = true
refers (Some keyword.Not) = true
refers (Some keyword.AllOf) = true
refers (Some keyword.AnyOf) = true
refers _ = false

not_referring : (w : Option Keyword) (names : ByReach) → refers w ≡ false → by_keyword w names ≡ []
not_referring (Some keyword.Ref) names h = cc
not_referring (Some keyword.Not) names h = cc
not_referring (Some keyword.AllOf) names h = cc
not_referring (Some keyword.AnyOf) names h = cc
not_referring _ names h = refl

abbrev name_part : List ℕ → Document → List (List ℕ)
name_part n v = by_keyword (under n keywords) (value_names v)

abbrev names_some : List ℕ → Bool
names_some n = refers (under n keywords)

name_silent : (n : List ℕ) (v : Document) → names_some n ≡ false → name_part n v ≡ []
name_silent n v h = not_referring (under n keywords) (value_names v) h

abbrev names_in_slot : List ℕ → Option Document → List (List ℕ)
names_in_slot = slot_part name_part names_some name_silent

reference_part : (o : Option (String Global)) → names_in_slot (codes "$ref") (option_map reference_document o) ≡ reference_names o
reference_part None = refl
reference_part (Some s) = refl

names_each : (ss : List Schema) → each_names (documents_of (schemas_view ss)) ≡ names_of_each ss
names_each [] = refl
names_each (s ∷ ss) = ap (λ ns. direct_names (schema_view s) ++ ns) (names_each ss)

all_names : (ss : List Schema) → names_in_slot (codes "allOf") (unless_no_list (schemas_view ss)) ≡ names_of_each ss
all_names [] = refl
all_names (s ∷ ss) = names_each (s ∷ ss)

any_names : (ss : List Schema) → names_in_slot (codes "anyOf") (unless_no_list (schemas_view ss)) ≡ names_of_each ss
any_names [] = refl
any_names (s ∷ ss) = names_each (s ∷ ss)

not_names : (o : Option Document) → names_in_slot (codes "not") o ++ [] ≡ flat_map direct_names (option_to_list o)
not_names None = refl
not_names (Some d) = refl

pub names_are : (k : Keywords) → keyword_names (present (slots_of k)) ≡ reference_names k.reference ++ (names_of_each k.all_of.items ++ (names_of_each k.any_of.items ++ flat_map direct_names (option_to_list (option_map schema_view k.negated))))
names_are k =
    gathered name_part names_some name_silent keyword_names refl (λ n v ms. refl) (slots_of k)
    ∙ ap (spoken name_part names_some name_silent) (slots_are k)
    ∙ ap₂ (λ xs ys. xs ++ ys) (reference_part k.reference)
    (ap₂ (λ xs ys. xs ++ ys) (all_names k.all_of.items) (ap₂ (λ xs ys. xs ++ ys) (any_names k.any_of.items) (not_names (option_map schema_view k.negated))))

-- ---- what the keywords ask of documents inside

abbrev goes_inside : Option Keyword → Bool
goes_inside (Some keyword.AdditionalProperties) = true
goes_inside (Some keyword.Items) = true
goes_inside (Some keyword.PrefixItems) = true
goes_inside (Some keyword.Properties) = true
goes_inside _ = false

stays_outside : (w : Option Keyword) (v : Document) → goes_inside w ≡ false → inside_of w v ≡ []
stays_outside (Some keyword.AdditionalProperties) v h = cc
stays_outside (Some keyword.Items) v h = cc
stays_outside (Some keyword.PrefixItems) v h = cc
stays_outside (Some keyword.Properties) v h = cc
stays_outside _ v h = refl

abbrev inner_part : List ℕ → Document → List Document
inner_part n v = inside_of (under n keywords) v

abbrev asks_inside : List ℕ → Bool
asks_inside n = goes_inside (under n keywords)

inner_silent : (n : List ℕ) (v : Document) → asks_inside n ≡ false → inner_part n v ≡ []
inner_silent n v h = stays_outside (under n keywords) v h

abbrev inside_slot : List ℕ → Option Document → List Document
inside_slot = slot_part inner_part asks_inside inner_silent

pub elements_back : (ds : List Document) → elements (documents_of ds) ≡ ds
elements_back [] = refl
elements_back (d ∷ ds) = ap (λ r. d ∷ r) (elements_back ds)

additional_part : (o : Option Document) → inside_slot (codes "additionalProperties") o ≡ option_to_list o
additional_part None = refl
additional_part (Some d) = refl

items_part : (o : Option Document) → inside_slot (codes "items") o ≡ option_to_list o
items_part None = refl
items_part (Some d) = refl

prefix_part : (ds : List Document) → inside_slot (codes "prefixItems") (unless_no_list ds) ≡ ds
prefix_part [] = refl
prefix_part (d ∷ ds) = elements_back (d ∷ ds)

values_back : (es : List (String Global × Schema)) → map (λ e. e.1) (entries (members_of (definitions_view es))) ≡ map (λ e. schema_view e.1) es
values_back [] = refl
values_back (e ∷ es) = ap (λ r. schema_view e.1 ∷ r) (values_back es)

properties_part : (es : List (String Global × Schema)) → inside_slot (codes "properties") (unless_no_map (definitions_view es)) ++ [] ≡ map (λ e. schema_view e.1) es
properties_part [] = refl
properties_part (e ∷ es) = append-nil (map (λ e. e.1) (entries (members_of (definitions_view (e ∷ es))))) ∙ values_back (e ∷ es)

pub inside_members_are : (k : Keywords) → inside_members (present (slots_of k)) ≡ option_to_list (option_map schema_view k.additional) ++ (option_to_list (option_map schema_view k.rest) ++ (schemas_view k.prefix.items ++ map (λ e. schema_view e.1) k.properties.entries))
inside_members_are k =
    gathered inner_part asks_inside inner_silent inside_members refl (λ n v ms. refl) (slots_of k)
    ∙ ap (spoken inner_part asks_inside inner_silent) (slots_are k)
    ∙ ap₂ (λ xs ys. xs ++ ys) (additional_part (option_map schema_view k.additional))
    (ap₂ (λ xs ys. xs ++ ys) (items_part (option_map schema_view k.rest))
    (ap₂ (λ xs ys. xs ++ ys) (prefix_part (schemas_view k.prefix.items)) (properties_part k.properties.entries)))

-- ---- what a keyword sees of those beside it

abbrev property_part : List ℕ → Document → List (Entry Document)
property_part n v = if bytes_eq (codes "properties") n then entries_of v else []

property_silent : (n : List ℕ) (v : Document) → bytes_eq (codes "properties") n ≡ false → property_part n v ≡ []
property_silent n v h = rw h refl

names_back : (es : List (String Global × Schema)) → map (λ e. e.0) (entries (members_of (definitions_view es))) ≡ names_in es
names_back [] = refl
names_back (e ∷ es) = ap (λ r. string_bytes e.0 ∷ r) (names_back es)

property_names : (es : List (String Global × Schema)) → map (λ e. e.0) (slot_part property_part (bytes_eq (codes "properties")) property_silent (codes "properties") (unless_no_map (definitions_view es)) ++ []) ≡ names_in es
property_names [] = refl
property_names (e ∷ es) = ap (map (λ e. e.0)) (append-nil (entries (members_of (definitions_view (e ∷ es))))) ∙ names_back (e ∷ es)

pub names_beside : (k : Keywords) → map (λ e. e.0) (listed_under (codes "properties") (entries (present (slots_of k)))) ≡ names_in k.properties.entries
names_beside k =
    ap (map (λ e. e.0)) (gathered property_part (bytes_eq (codes "properties")) property_silent (λ ms. listed_under (codes "properties") (entries ms)) refl (λ n v ms. refl) (slots_of k)
    ∙ ap (spoken property_part (bytes_eq (codes "properties")) property_silent) (slots_are k))
    ∙ property_names k.properties.entries

abbrev taken_in : Option Document → ℕ → ℕ
taken_in None n = n
taken_in (Some v) n = max (length (elements_of v)) n

abbrev taken : List Slot → ℕ
taken [] = 0
taken (s ∷ ss) = if bytes_eq (codes "prefixItems") s.0 then taken_in s.1 (taken ss) else taken ss

either_way : (t : Bool) (n m : ℕ) → n ≡ m → n ≡ (if t then m else m)
either_way true n m h = h
either_way false n m h = h

taken_are : (ss : List Slot) → places_taken (entries (present ss)) ≡ taken ss
taken_are [] = refl
taken_are ((n, None) ∷ ss) = either_way (bytes_eq (codes "prefixItems") n) _ _ (taken_are ss)
taken_are ((n, Some v) ∷ ss) = ap (λ t. if bytes_eq (codes "prefixItems") n then max (length (elements_of v)) t else t) (taken_are ss)

taken_by : (ds : List Document) → taken_in (unless_no_list ds) 0 ≡ length ds
taken_by [] = refl
taken_by (d ∷ ds) = ap (λ r. max (length r) 0) (elements_back (d ∷ ds)) ∙ omega arith

pub places_beside : (k : Keywords) → places_taken (entries (present (slots_of k))) ≡ length k.prefix.items
places_beside k = taken_are (slots_of k) ∙ ap taken (slots_are k) ∙ taken_by (schemas_view k.prefix.items) ∙ length-map k.prefix.items schema_view
