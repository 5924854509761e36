-- The items of a document: its values in the order of its nodes, each opened once, with a number in place of each value
-- directly inside. The number of a value is its place among the nodes.
use Rattle.std.specs.Prelude.{◌≡◌, ℕ, suc, ◌+◌, List, [], ◌∷◌, ◌++◌, Some, length, slice_get}
use Rattle.cs_document.specs.Document.{Document, null, boolean, integer, text, list, object, Documents, no_documents, document, Members, no_members, member, Entry}
use Rattle.cs_document.specs.Opened.{Opened, a_null, a_boolean, an_integer, a_text, a_list, an_object, opened}
use Rattle.cs_document.specs.Inside.{map_opened, InsideBelow}
use Rattle.cs_flat.specs.Nodes.{node_at}

-- how many values are inside
abbrev mutual
  pub inside : Document → ℕ
  inside null = 0
  inside (boolean b) = 0
  inside (integer z) = 0
  inside (text s) = 0
  inside (list ds) = inside_elements ds
  inside (object ms) = inside_members ms

  pub inside_elements : Documents → ℕ
  inside_elements no_documents = 0
  inside_elements (document d ds) = suc (inside d + inside_elements ds)

  pub inside_members : Members → ℕ
  inside_members no_members = 0
  inside_members (member k d ms) = suc (inside d + inside_members ms)

-- the numbers of values behind n others: each is behind those inside it
abbrev pub element_numbers : ℕ → Documents → List ℕ
element_numbers n no_documents = []
element_numbers n (document d ds) = (n + inside d) ∷ element_numbers (suc (n + inside d)) ds

abbrev pub member_numbers : ℕ → Members → List (Entry ℕ)
member_numbers n no_members = []
member_numbers n (member k d ms) = (k, n + inside d) ∷ member_numbers (suc (n + inside d)) ms

-- the items of a document behind n others
abbrev mutual
  pub items_behind : ℕ → Document → List (Opened ℕ)
  items_behind n null = a_null ∷ []
  items_behind n (boolean b) = a_boolean b ∷ []
  items_behind n (integer z) = an_integer z ∷ []
  items_behind n (text s) = a_text s ∷ []
  items_behind n (list ds) = element_items n ds ++ a_list (element_numbers n ds) ∷ []
  items_behind n (object ms) = member_items n ms ++ an_object (member_numbers n ms) ∷ []

  pub element_items : ℕ → Documents → List (Opened ℕ)
  element_items n no_documents = []
  element_items n (document d ds) = items_behind n d ++ element_items (suc (n + inside d)) ds

  pub member_items : ℕ → Members → List (Opened ℕ)
  member_items n no_members = []
  member_items n (member k d ms) = items_behind n d ++ member_items (suc (n + inside d)) ms

abbrev pub items : Document → List (Opened ℕ)
items d = items_behind 0 d

-- one item for each node; with the nodes at its numbers it is its node, opened once; its numbers are lower than its own
pub record AreItems (ns : List Document) (xs : List (Opened ℕ)) : Type 0 where
  pub count : length xs ≡ length ns
  pub node : (i : ℕ) (x : Opened ℕ) → slice_get xs i ≡ Some x → opened (node_at ns i) ≡ map_opened (node_at ns) x
  pub lower : (i : ℕ) (x : Opened ℕ) → slice_get xs i ≡ Some x → InsideBelow i x
