-- A document as the list of its items: what the values of a list of items are, and when they are those of a document.
use Rattle.std.specs.Prelude.{◌≡◌, ℕ, suc, List, [], ◌∷◌, ◌++◌, Some, map, flat_map, length, slice_get}
use Rattle.std.specs.List.{range_with_len}
use Rattle.std.specs.List.Sorted.{IsPermutation}
use Rattle.cs_document.specs.Document.{Document, null, boolean, integer, text, list, object, Documents, no_documents, document, Members, no_members, member, Entry, IsDocument}
use Rattle.cs_document.specs.Opened.{Opened, a_null, a_boolean, an_integer, a_text, a_list, an_object}
use Rattle.cs_document.specs.Inside.{map_opened, InsideBelow, AscendsInside}
use Rattle.cs_flat.specs.Nodes.{nodes, node_at}
use Rattle.cs_flat.specs.Items.{inside}

-- the documents of a list, and the members of entries
abbrev pub documents_of : List Document → Documents
documents_of [] = no_documents
documents_of (d ∷ ds) = document d (documents_of ds)

abbrev pub members_of : List (Entry Document) → Members
members_of [] = no_members
members_of (e ∷ es) = member e.0 e.1 (members_of es)

-- the document that was opened
abbrev pub closed : Opened Document → Document
closed a_null = null
closed (a_boolean b) = boolean b
closed (an_integer z) = integer z
closed (a_text s) = text s
closed (a_list ds) = list (documents_of ds)
closed (an_object es) = object (members_of es)

-- the values of items behind others: each names values before it
abbrev pub values_behind : List Document → List (Opened ℕ) → List Document
values_behind ns [] = ns
values_behind ns (x ∷ xs) = values_behind (ns ++ closed (map_opened (node_at ns) x) ∷ []) xs

abbrev pub values : List (Opened ℕ) → List Document
values xs = values_behind [] xs

-- the value of the last item
abbrev pub last_from : Document → List Document → Document
last_from d [] = d
last_from d (n ∷ ns) = last_from n ns

abbrev pub document_in : List (Opened ℕ) → Document
document_in xs = last_from null (values xs)

-- the numbers of the values directly inside an item
abbrev pub numbers_in : Opened ℕ → List ℕ
numbers_in (a_list ys) = ys
numbers_in (an_object ms) = map (λ m. m.1) ms
numbers_in _ = []

-- each item names items before it, and the keys of each map ascend
pub record AreBuilt (xs : List (Opened ℕ)) : Type 0 where
  pub lower : (i : ℕ) (x : Opened ℕ) → slice_get xs i ≡ Some x → InsideBelow i x
  pub ascend : (i : ℕ) (x : Opened ℕ) → slice_get xs i ≡ Some x → AscendsInside x

-- the values of the items are those of the document, each once and the document last; each other value is directly inside
-- one value, at one place
pub record IsListed (d : Document) (xs : List (Opened ℕ)) : Type 0 where
  pub built : AreBuilt xs
  pub document : IsDocument d
  pub count : length xs ≡ suc (inside d)
  pub last : slice_get (values xs) (inside d) ≡ Some d
  pub each : IsPermutation (nodes d) (values xs)
  pub once : IsPermutation (flat_map numbers_in xs) (range_with_len 0 (inside d))
