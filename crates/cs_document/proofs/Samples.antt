-- Documents, worked by the definitions. A wrong expectation stops the check here.
use Rattle.std.proofs.Common.{◌≡◌, ℕ, pos, neg_ℤ, Bool, true, false, if◌then◌else◌, suc, List, [], ◌∷◌, map, codes, Some, None, ◌&&◌, refl, arith, rules}
use Rattle.std.specs.List.{AllByRecursion, list_all}
use Rattle.std.specs.Ordering.{is_lt, is_eq, is_gt}
use Rattle.cs_document.specs.Document.{Document, null, boolean, integer, text, Members, no_members, IsDocument, document_eq, depth, put, under, entries}
use Rattle.cs_document.specs.Order.{document_cmp}
use Rattle.cs_document.specs.Opened.{opened, a_null, a_boolean, an_integer, a_text, a_list, an_object}
use Rattle.cs_document.specs.Sizes.{goes_on, text_length, Characters, Elements, Keys, size_of}
use Rattle.cs_document.specs.Inside.{map_opened, InsideBelow, AscendsInside}
use Rattle.cs_document.proofs.SampleDocuments.{number, array, members, map_of}

-- ---- short forms

abbrev a : List ℕ
a = codes "a"

abbrev b : List ℕ
b = codes "b"

-- ---- integers of 64 signed bits, at every depth

greatest : IsDocument (number 9223372036854775807) × IsDocument (integer (neg_ℤ (pos 9223372036854775808)))
greatest = (search rules, search rules)

too_great : IsDocument (number 9223372036854775808) → ⊥
too_great h = omega (arith, h)

too_small : IsDocument (integer (neg_ℤ (pos 9223372036854775809))) → ⊥
too_small h = omega (arith, h)

too_great_inside : IsDocument (array (map_of ((a, number 9223372036854775808) ∷ []) ∷ [])) → ⊥
too_great_inside h = too_great h.0.1

-- ---- each key once, in byte order

in_order : IsDocument (map_of ((codes "", null) ∷ (codes "B", null) ∷ (a, null) ∷ (codes "aa", null) ∷ (b, null) ∷ []))
in_order = search rules

twice : IsDocument (map_of ((a, null) ∷ (a, null) ∷ [])) → ⊥
twice h = let e = h.0.0 in cc

descending : IsDocument (map_of ((b, null) ∷ (a, null) ∷ [])) → ⊥
descending h = let e = h.0.0 in cc

-- the third key is the first again
later : IsDocument (map_of ((a, null) ∷ (b, null) ∷ (a, null) ∷ [])) → ⊥
later h = let e = h.0.1.0 in cc

-- ---- how deep lists and maps nest

depths : map depth (null ∷ boolean true ∷ number 5 ∷ text a ∷ array [] ∷ map_of [] ∷ array (number 1 ∷ []) ∷ array (null ∷ array [] ∷ array (map_of [] ∷ []) ∷ []) ∷ map_of ((a, array []) ∷ (b, null) ∷ []) ∷ map_of ((a, null) ∷ (b, map_of ((a, array []) ∷ [])) ∷ []) ∷ [])
    ≡ 0 ∷ 0 ∷ 0 ∷ 0 ∷ 1 ∷ 1 ∷ 1 ∷ 3 ∷ 2 ∷ 3 ∷ []
depths = refl

-- ---- which documents are the same

-- two different ones of each form
abbrev forms : List Document
forms = null ∷ boolean true ∷ boolean false ∷ number 1 ∷ integer (neg_ℤ (pos 1)) ∷ text a ∷ text b
    ∷ array [] ∷ array (null ∷ []) ∷ array (null ∷ null ∷ []) ∷ array (number 1 ∷ []) ∷ array (null ∷ number 1 ∷ [])
    ∷ map_of [] ∷ map_of ((a, null) ∷ []) ∷ map_of ((b, null) ∷ []) ∷ map_of ((a, number 1) ∷ []) ∷ map_of ((a, null) ∷ (b, null) ∷ []) ∷ []

-- at which places of the list documents stand that are the same as d
abbrev places_of : Document → List Document → ℕ → List ℕ
places_of d [] k = []
places_of d (e ∷ es) k = if document_eq d e then k ∷ places_of d es (suc k) else places_of d es (suc k)

-- each is the same as itself alone
each_itself : map (λ d. places_of d forms 0) forms
    ≡ (0 ∷ []) ∷ (1 ∷ []) ∷ (2 ∷ []) ∷ (3 ∷ []) ∷ (4 ∷ []) ∷ (5 ∷ []) ∷ (6 ∷ []) ∷ (7 ∷ []) ∷ (8 ∷ []) ∷ (9 ∷ []) ∷ (10 ∷ []) ∷ (11 ∷ []) ∷ (12 ∷ []) ∷ (13 ∷ []) ∷ (14 ∷ []) ∷ (15 ∷ []) ∷ (16 ∷ []) ∷ []
each_itself = refl

-- ---- the order

-- two or more of each kind, by the order's rules
abbrev rising : List Document
rising = null ∷ boolean false ∷ boolean true ∷ integer (neg_ℤ (pos 9223372036854775808)) ∷ integer (neg_ℤ (pos 1)) ∷ number 0 ∷ number 9223372036854775807
    ∷ text (codes "") ∷ text (codes "B") ∷ text a ∷ text (codes "aa") ∷ text b ∷ text (codes "é")
    ∷ array [] ∷ array (null ∷ []) ∷ array (null ∷ number 7 ∷ []) ∷ array (null ∷ array [] ∷ []) ∷ array (number 1 ∷ []) ∷ array (number 1 ∷ null ∷ []) ∷ array (number 2 ∷ []) ∷ array (map_of [] ∷ [])
    ∷ map_of [] ∷ map_of ((codes "", array []) ∷ []) ∷ map_of ((a, null) ∷ []) ∷ map_of ((a, null) ∷ (b, null) ∷ []) ∷ map_of ((a, null) ∷ (codes "c", null) ∷ [])
    ∷ map_of ((a, number 1) ∷ []) ∷ map_of ((a, number 1) ∷ (codes "aa", null) ∷ []) ∷ map_of ((b, null) ∷ []) ∷ []

-- each is the same as itself, below all behind it, and they above it
abbrev rises : List Document → Bool
rises [] = true
rises (d ∷ ds) = is_eq (document_cmp d d) && list_all (λ e. is_lt (document_cmp d e) && is_gt (document_cmp e d)) ds && rises ds

in_order_of_rules : rises rising ≡ true
in_order_of_rules = refl

-- ---- maps

-- a map with the keys `b` and `d`
abbrev two : Members
two = members ((b, number 2) ∷ (codes "d", number 4) ∷ [])

-- a new key goes to its place, and one that is there gets the new value
with_key : map (λ k. entries (put k null two)) (a ∷ b ∷ codes "c" ∷ codes "d" ∷ codes "e" ∷ [])
    ≡ ((a, null) ∷ (b, number 2) ∷ (codes "d", number 4) ∷ [])
    ∷ ((b, null) ∷ (codes "d", number 4) ∷ [])
    ∷ ((b, number 2) ∷ (codes "c", null) ∷ (codes "d", number 4) ∷ [])
    ∷ ((b, number 2) ∷ (codes "d", null) ∷ [])
    ∷ ((b, number 2) ∷ (codes "d", number 4) ∷ (codes "e", null) ∷ []) ∷ []
with_key = refl

first_key : entries (put a null no_members) ≡ (a, null) ∷ []
first_key = refl

at_keys : map (λ k. under k (entries two)) (a ∷ b ∷ codes "c" ∷ codes "d" ∷ codes "e" ∷ codes "" ∷ codes "bb" ∷ [])
    ≡ None ∷ Some (number 2) ∷ None ∷ Some (number 4) ∷ None ∷ None ∷ None ∷ []
at_keys = refl

-- ---- one level of each form

levels : map opened (null ∷ boolean true ∷ boolean false ∷ number 5 ∷ text a ∷ array (null ∷ array [] ∷ []) ∷ map_of ((a, null) ∷ (b, map_of []) ∷ []) ∷ [])
    ≡ a_null ∷ a_boolean true ∷ a_boolean false ∷ an_integer (pos 5) ∷ a_text a ∷ a_list (null ∷ array [] ∷ []) ∷ an_object ((a, null) ∷ (b, map_of []) ∷ []) ∷ []
levels = refl

-- with one more than each number inside
one_more : map (map_opened suc) (a_null ∷ a_boolean true ∷ an_integer (pos 5) ∷ a_text a ∷ a_list [] ∷ a_list (0 ∷ 7 ∷ []) ∷ an_object ((a, 3) ∷ (b, 1) ∷ []) ∷ [])
    ≡ a_null ∷ a_boolean true ∷ an_integer (pos 5) ∷ a_text a ∷ a_list [] ∷ a_list (1 ∷ 8 ∷ []) ∷ an_object ((a, 4) ∷ (b, 2) ∷ []) ∷ []
one_more = refl

-- numbers below 4, and one that is 4
below : AllByRecursion (InsideBelow 4) (a_null ∷ a_boolean true ∷ an_integer (pos 5) ∷ a_text a ∷ a_list [] ∷ a_list (3 ∷ 0 ∷ 3 ∷ []) ∷ an_object ((a, 3) ∷ (b, 0) ∷ []) ∷ [])
below = search rules

not_below : InsideBelow 4 (a_list (3 ∷ 4 ∷ [])) → ⊥
not_below h = let l = h.1.0 in omega (arith, l)

not_below_in_a_map : InsideBelow 4 (an_object ((a, 3) ∷ (b, 4) ∷ [])) → ⊥
not_below_in_a_map h = let l = h.1.0 in omega (arith, l)

-- keys in byte order, and two that aren't
ascending : AllByRecursion (AscendsInside {A = ℕ}) (a_null ∷ a_boolean true ∷ an_integer (pos 5) ∷ a_text a ∷ a_list (3 ∷ 0 ∷ []) ∷ an_object [] ∷ an_object ((codes "", 7) ∷ (codes "B", 3) ∷ (a, 1) ∷ (codes "aa", 1) ∷ (b, 0) ∷ []) ∷ [])
ascending = search rules

a_key_twice : AscendsInside {A = ℕ} (an_object ((a, 3) ∷ (a, 4) ∷ [])) → ⊥
a_key_twice h = let e = h.0.0 in cc

the_last_key_first : AscendsInside {A = ℕ} (an_object ((b, 3) ∷ (codes "c", 4) ∷ (a, 5) ∷ [])) → ⊥
the_last_key_first h = let e = h.0.1.0 in cc

descending_inside : AscendsInside {A = ℕ} (an_object ((codes "", 3) ∷ (b, 4) ∷ (a, 5) ∷ [])) → ⊥
descending_inside h = let e = h.1.0.0 in cc

-- ---- how long they are

-- U+1F600 is one character of four bytes, and a combining accent one of two
abbrev face : List ℕ
face = 240 ∷ 159 ∷ 152 ∷ 128 ∷ []

lengths : map text_length ([] ∷ codes "ab" ∷ (101 ∷ 204 ∷ 129 ∷ []) ∷ face ∷ []) ≡ 0 ∷ 2 ∷ 2 ∷ 1 ∷ []
lengths = refl

-- U+7F, U+80, U+20AC and U+10FFFF
each_one : map text_length ((127 ∷ []) ∷ (194 ∷ 128 ∷ []) ∷ (226 ∷ 130 ∷ 172 ∷ []) ∷ (244 ∷ 143 ∷ 191 ∷ 191 ∷ []) ∷ []) ≡ 1 ∷ 1 ∷ 1 ∷ 1 ∷ []
each_one = refl

ends : map goes_on (127 ∷ 128 ∷ 191 ∷ 192 ∷ []) ≡ false ∷ true ∷ true ∷ false ∷ []
ends = refl

sizes : map (λ c. map (size_of {A = ℕ} c) (a_null ∷ a_boolean true ∷ an_integer (pos 3) ∷ a_text face ∷ a_list (7 ∷ 8 ∷ []) ∷ an_object ((a, 7) ∷ []) ∷ [])) (Characters ∷ Elements ∷ Keys ∷ [])
    ≡ (None ∷ None ∷ None ∷ Some 1 ∷ None ∷ None ∷ []) ∷ (None ∷ None ∷ None ∷ None ∷ Some 2 ∷ None ∷ []) ∷ (None ∷ None ∷ None ∷ None ∷ None ∷ Some 1 ∷ []) ∷ []
sizes = refl
