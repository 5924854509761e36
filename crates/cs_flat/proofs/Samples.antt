-- Values of documents and their items, worked by the definitions. A wrong expectation stops the check here.
use Rattle.std.proofs.Common.{◌≡◌, ℕ, pos, true, if◌then◌else◌, List, [], ◌∷◌, map, Bor, codes, refl, arith, rules}
use Rattle.std.specs.List.{AllByRecursion as Each}
use Rattle.std.proofs.lemmas.List.Sorted.{sum_by-IsPermutation}
use Rattle.cs_document.specs.Document.{Document, null, boolean, integer, text, document_eq}
use Rattle.cs_document.specs.Opened.{Opened, a_null, a_boolean, an_integer, a_text, a_list, an_object}
use Rattle.cs_document.proofs.SampleDocuments.{number, array, named_map}
use Rattle.cs_flat.specs.Nodes.{nodes, node_at}
use Rattle.cs_flat.specs.Items.{inside, items, items_behind, AreItems}
use Rattle.cs_flat.specs.Listed.{values, document_in, AreBuilt, IsListed}
use Rattle.cs_flat.specs.Packed.{unpacked, IsWithin}
use Rattle.cs_flat.specs.declared.packed.PackedItem.TheVariants as Packed
use Rattle.cs_flat.proofs.Listed.{AreBuilt-none, AreBuilt-push}

-- ---- short forms

-- `[2]` and `{"k":"v"}`
abbrev two : Document
two = array (number 2 ∷ [])

abbrev map_k : Document
map_k = named_map (("k", text (codes "v")) ∷ [])

-- `[1,[2],{"k":"v"}]`
abbrev nested : Document
nested = array (number 1 ∷ two ∷ map_k ∷ [])

-- `[[1],[1]]`
abbrev one : Document
one = array (number 1 ∷ [])

abbrev twins : Document
twins = array (one ∷ one ∷ [])

-- `{"a":{"c":null},"b":[]}`
abbrev map_c : Document
map_c = named_map (("c", null) ∷ [])

abbrev maps : Document
maps = named_map (("a", map_c) ∷ ("b", array []) ∷ [])

-- ---- the values of a document, the document last

of_each_form : map nodes (null ∷ boolean true ∷ number 5 ∷ text (codes "a") ∷ array [] ∷ named_map [] ∷ [])
    ≡ (null ∷ []) ∷ (boolean true ∷ []) ∷ (number 5 ∷ []) ∷ (text (codes "a") ∷ []) ∷ (array [] ∷ []) ∷ (named_map [] ∷ []) ∷ []
of_each_form = refl

nested_nodes : nodes nested ≡ number 1 ∷ number 2 ∷ two ∷ text (codes "v") ∷ map_k ∷ nested ∷ []
nested_nodes = refl

twins_nodes : nodes twins ≡ number 1 ∷ one ∷ number 1 ∷ one ∷ twins ∷ []
twins_nodes = refl

maps_nodes : nodes maps ≡ null ∷ map_c ∷ array [] ∷ maps ∷ []
maps_nodes = refl

at_places : map (node_at (nodes one)) (0 ∷ 1 ∷ []) ≡ number 1 ∷ one ∷ []
at_places = refl

-- ---- how many are inside

counts : map inside (null ∷ boolean true ∷ number 5 ∷ text (codes "a") ∷ array [] ∷ named_map [] ∷ one ∷ map_k ∷ twins ∷ maps ∷ nested ∷ [])
    ≡ 0 ∷ 0 ∷ 0 ∷ 0 ∷ 0 ∷ 0 ∷ 1 ∷ 1 ∷ 4 ∷ 3 ∷ 5 ∷ []
counts = refl

-- ---- each value opened once, with the numbers of those inside

items_of_each_form : map items (null ∷ boolean true ∷ number 5 ∷ text (codes "a") ∷ array [] ∷ named_map [] ∷ [])
    ≡ (a_null ∷ []) ∷ (a_boolean true ∷ []) ∷ (an_integer (pos 5) ∷ []) ∷ (a_text (codes "a") ∷ []) ∷ (a_list [] ∷ []) ∷ (an_object [] ∷ []) ∷ []
items_of_each_form = refl

nested_items : items nested
    ≡ an_integer (pos 1) ∷ an_integer (pos 2) ∷ a_list (1 ∷ []) ∷ a_text (codes "v") ∷ an_object ((codes "k", 3) ∷ []) ∷ a_list (0 ∷ 2 ∷ 4 ∷ []) ∷ []
nested_items = refl

-- two equal elements: each is named by a number of its own
twins_items : items twins ≡ an_integer (pos 1) ∷ a_list (0 ∷ []) ∷ an_integer (pos 1) ∷ a_list (2 ∷ []) ∷ a_list (1 ∷ 3 ∷ []) ∷ []
twins_items = refl

maps_items : items maps ≡ a_null ∷ an_object ((codes "c", 0) ∷ []) ∷ a_list [] ∷ an_object ((codes "a", 1) ∷ (codes "b", 2) ∷ []) ∷ []
maps_items = refl

-- the same behind seven other values
behind_seven : items_behind 7 twins ≡ an_integer (pos 1) ∷ a_list (7 ∷ []) ∷ an_integer (pos 1) ∷ a_list (9 ∷ []) ∷ a_list (8 ∷ 10 ∷ []) ∷ []
behind_seven = refl

-- ---- which lists are the items of some nodes

-- the item of a list that is left out
left_out : AreItems (number 1 ∷ one ∷ []) (an_integer (pos 1) ∷ []) → ⊥
left_out h = let e = h.count in omega (arith, e)

-- another node at the number
other_number : AreItems (number 2 ∷ number 1 ∷ one ∷ []) (an_integer (pos 2) ∷ an_integer (pos 1) ∷ a_list (0 ∷ []) ∷ []) → ⊥
other_number h = let e = h.node 2 (a_list (0 ∷ [])) refl in cc

-- the number of the item itself
own_number : AreItems (array [] ∷ []) (a_list (0 ∷ []) ∷ []) → ⊥
own_number h = let l = (h.lower 0 (a_list (0 ∷ [])) refl).0 in omega (arith, l)

-- ---- the values of items

-- `{"b":1,"a":2}`, its members in the order of the text
abbrev b_before_a : List (Opened ℕ)
b_before_a = an_integer (pos 1) ∷ an_integer (pos 2) ∷ an_object ((codes "a", 1) ∷ (codes "b", 0) ∷ []) ∷ []

abbrev a_and_b : Document
a_and_b = named_map (("a", number 2) ∷ ("b", number 1) ∷ [])

-- `[1,1]`, with one integer named twice
abbrev ones : Document
ones = array (number 1 ∷ number 1 ∷ [])

abbrev named_twice : List (Opened ℕ)
named_twice = an_integer (pos 1) ∷ a_list (0 ∷ 0 ∷ []) ∷ an_integer (pos 1) ∷ []

no_values : values [] ≡ []
no_values = refl

value_of_each_form : map values ((a_null ∷ []) ∷ (a_boolean true ∷ []) ∷ (an_integer (pos 5) ∷ []) ∷ (a_text (codes "a") ∷ []) ∷ (a_list [] ∷ []) ∷ (an_object [] ∷ []) ∷ [])
    ≡ (null ∷ []) ∷ (boolean true ∷ []) ∷ (number 5 ∷ []) ∷ (text (codes "a") ∷ []) ∷ (array [] ∷ []) ∷ (named_map [] ∷ []) ∷ []
value_of_each_form = refl

nested_values : values (items nested) ≡ number 1 ∷ number 2 ∷ two ∷ text (codes "v") ∷ map_k ∷ nested ∷ []
nested_values = refl

maps_values : values (items maps) ≡ null ∷ map_c ∷ array [] ∷ maps ∷ []
maps_values = refl

members_in_another_order : values b_before_a ≡ number 1 ∷ number 2 ∷ a_and_b ∷ []
members_in_another_order = refl

twice : values named_twice ≡ number 1 ∷ ones ∷ number 1 ∷ []
twice = refl

-- the document is the last value; the document of no items is null
documents : map document_in ([] ∷ (a_boolean true ∷ []) ∷ items nested ∷ b_before_a ∷ named_twice ∷ []) ≡ null ∷ boolean true ∷ nested ∷ a_and_b ∷ number 1 ∷ []
documents = refl

-- ---- which lists are built

-- the number of the item itself
built_of_itself : AreBuilt (a_list (0 ∷ []) ∷ []) → ⊥
built_of_itself h = let l = (h.lower 0 (a_list (0 ∷ [])) refl).0 in omega (arith, l)

member_of_itself : AreBuilt (an_object ((codes "a", 0) ∷ []) ∷ []) → ⊥
member_of_itself h = let l = (h.lower 0 (an_object ((codes "a", 0) ∷ [])) refl).0 in omega (arith, l)

-- keys in another order, and a key twice
turned_keys : AreBuilt (a_null ∷ an_object ((codes "b", 0) ∷ (codes "a", 0) ∷ []) ∷ []) → ⊥
turned_keys h = let e = (h.ascend 1 (an_object ((codes "b", 0) ∷ (codes "a", 0) ∷ [])) refl).0.0 in cc

key_twice : AreBuilt (a_null ∷ an_object ((codes "a", 0) ∷ (codes "a", 0) ∷ []) ∷ []) → ⊥
key_twice h = let e = (h.ascend 1 (an_object ((codes "a", 0) ∷ (codes "a", 0) ∷ [])) refl).0.0 in cc

twice_built : AreBuilt named_twice
twice_built =
    AreBuilt-push (an_integer (pos 1) ∷ a_list (0 ∷ 0 ∷ []) ∷ []) (an_integer (pos 1))
    (AreBuilt-push (an_integer (pos 1) ∷ []) (a_list (0 ∷ 0 ∷ [])) (AreBuilt-push [] (an_integer (pos 1)) AreBuilt-none tt tt) (omega arith, (omega arith, tt)) tt) tt tt

-- ---- which lists are those of a document

members_listed : IsListed a_and_b b_before_a
members_listed = record {
  built = AreBuilt-push (an_integer (pos 1) ∷ an_integer (pos 2) ∷ []) (an_object ((codes "a", 1) ∷ (codes "b", 0) ∷ []))
      (AreBuilt-push (an_integer (pos 1) ∷ []) (an_integer (pos 2)) (AreBuilt-push [] (an_integer (pos 1)) AreBuilt-none tt tt) tt tt)
      (omega arith, (omega arith, tt)) ((refl, tt), (tt, tt));
  document = search rules;
  count = refl;
  last = refl;
  each = record { moves = (0, 1) ∷ []; below = search rules; is = refl };
  once = record { moves = (0, 1) ∷ []; below = search rules; is = refl };
}

-- the last item isn't the document
document_in_the_middle : IsListed ones named_twice → ⊥
document_in_the_middle h = let e = h.last in cc

-- one value stands for two that are equal
one_for_two : IsListed ones (an_integer (pos 1) ∷ a_list (0 ∷ 0 ∷ []) ∷ []) → ⊥
one_for_two h = let e = h.count in omega (arith, e)

-- one number names two that are equal, and none the other
one_named_for_two : IsListed ones (an_integer (pos 1) ∷ an_integer (pos 1) ∷ a_list (0 ∷ 0 ∷ []) ∷ []) → ⊥
one_named_for_two h = let e = sum_by-IsPermutation (λ n. n) _ _ h.once in omega (arith, e)

-- a value that isn't in the document, in place of one that is
other_value : IsListed ones (an_integer (pos 1) ∷ an_integer (pos 2) ∷ a_list (0 ∷ 0 ∷ []) ∷ []) → ⊥
other_value h = let e = sum_by-IsPermutation (λ d. if document_eq d (number 2) then 1 else 0) _ _ h.each in omega (arith, e)

-- an integer beyond 64 bits
too_large : IsListed (integer (pos 9223372036854775808)) (an_integer (pos 9223372036854775808) ∷ []) → ⊥
too_large h = let f = h.document in omega (arith, f)

-- ---- packed items, with three numbers and three entries that they share

abbrev referred : List ℕ → Bor (List ℕ)
referred s = record { ref_ptr = (0, 0); now = s }

abbrev shared_numbers : List ℕ
shared_numbers = 4 ∷ 5 ∷ 6 ∷ []

abbrev shared_entries : List (Bor (List ℕ) × ℕ)
shared_entries = (referred (codes "a"), 7) ∷ (referred (codes "b"), 8) ∷ (referred (codes "c"), 9) ∷ []

packed_scalars : map (unpacked shared_numbers shared_entries) (Packed.Null ∷ Packed.Bool true ∷ Packed.Int (pos 5) ∷ Packed.Text (referred (codes "t")) ∷ [])
    ≡ a_null ∷ a_boolean true ∷ an_integer (pos 5) ∷ a_text (codes "t") ∷ []
packed_scalars = refl

packed_lists : map (unpacked shared_numbers shared_entries) (Packed.List 0 0 ∷ Packed.List 0 2 ∷ Packed.List 1 2 ∷ Packed.List 0 3 ∷ Packed.List 3 0 ∷ [])
    ≡ a_list [] ∷ a_list (4 ∷ 5 ∷ []) ∷ a_list (5 ∷ 6 ∷ []) ∷ a_list (4 ∷ 5 ∷ 6 ∷ []) ∷ a_list [] ∷ []
packed_lists = refl

packed_maps : map (unpacked shared_numbers shared_entries) (Packed.Object 0 0 ∷ Packed.Object 0 1 ∷ Packed.Object 1 2 ∷ [])
    ≡ an_object [] ∷ an_object ((codes "a", 7) ∷ []) ∷ an_object ((codes "b", 8) ∷ (codes "c", 9) ∷ []) ∷ []
packed_maps = refl

ranges_within : Each (IsWithin 3 2) (Packed.Null ∷ Packed.List 0 3 ∷ Packed.List 3 0 ∷ Packed.Object 0 2 ∷ Packed.Object 1 1 ∷ [])
ranges_within = (tt, (omega arith, (omega arith, (omega arith, (omega arith, tt)))))

list_past_the_end : IsWithin 3 9 (Packed.List 2 2) → ⊥
list_past_the_end h = omega (arith, h)

map_past_the_end : IsWithin 9 2 (Packed.Object 2 1) → ⊥
map_past_the_end h = omega (arith, h)
