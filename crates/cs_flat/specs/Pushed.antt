-- Items that are pushed behind others: those of a document, and those of what is inside a list or a map.
use Rattle.std.specs.Prelude.{◌≡◌, ℕ, ◌+◌, List, ◌++◌, length}
use Rattle.cs_document.specs.Document.{Document, Documents, Members, Entry, IsDocument, AreDocuments, AreMembers}
use Rattle.cs_document.specs.Opened.{Opened}
use Rattle.cs_flat.specs.Items.{inside, element_numbers, member_numbers, items_behind, element_items, member_items}

-- the items of a document, which has the number n
pub record IsPushed (before after : List (Opened ℕ)) (d : Document) (n : ℕ) : Type 0 where
  pub items : after ≡ before ++ items_behind (length before) d
  pub number : n ≡ length before + inside d
  pub document : IsDocument d

-- the items of a list's elements, whose numbers are put behind others
pub record AreElementsPushed (before after : List (Opened ℕ)) (ds : Documents) (ns ms : List ℕ) : Type 0 where
  pub items : after ≡ before ++ element_items (length before) ds
  pub numbers : ms ≡ ns ++ element_numbers (length before) ds
  pub documents : AreDocuments ds

-- the items of what is under a map's keys, which are put behind others, each with its number
pub record AreMembersPushed (before after : List (Opened ℕ)) (ds : Members) (ns ms : List (Entry ℕ)) : Type 0 where
  pub items : after ≡ before ++ member_items (length before) ds
  pub numbers : ms ≡ ns ++ member_numbers (length before) ds
  pub documents : AreMembers ds
