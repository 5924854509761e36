-- The keys of each item ascend, where the document has each key once and in order.
use Rattle.std.proofs.Common.{◌≡◌, ℕ, zero, suc, ◌+◌, List, [], ◌∷◌, Some, subst}
use Rattle.std.specs.Prelude.{slice_get}
use Rattle.std.specs.List.{AllByRecursion as Each}
use Rattle.std.specs.Ordering.{nat_cmp}
use Rattle.std.specs.declared.cmp.Ordering.TheVariants.{Less}
use Rattle.std.specs.Cmp.Lexicographic.{slice_cmp}
use Rattle.cs_document.specs.Document.{Document, null, boolean, integer, text, list, object, Documents, no_documents, document, Members, no_members, member, Entry, KeysAbove, IsDocument, AreDocuments, AreMembers}
use Rattle.cs_document.specs.Opened.{Opened, a_list, an_object}
use Rattle.cs_document.specs.Inside.{KeysAscend, AscendsInside}
use Rattle.cs_document.proofs.Each.{each_append}
use Rattle.cs_flat.specs.Items.{inside, element_numbers, member_numbers, items, items_behind, element_items, member_items}

numbers_above : (k : List ℕ) (n : ℕ) (ms : Members) → KeysAbove k ms → Each (λ (m : Entry ℕ). slice_cmp nat_cmp k m.0 ≡ Less) (member_numbers n ms)
numbers_above k n no_members h = tt
numbers_above k n (member l d ms) h = (h.0, numbers_above k (suc (n + inside d)) ms h.1)

pub numbers_ascend : (n : ℕ) (ms : Members) → AreMembers ms → KeysAscend (member_numbers n ms)
numbers_ascend n no_members h = tt
numbers_ascend n (member k d ms) h = let m = suc (n + inside d) in (numbers_above k m ms h.0, numbers_ascend m ms h.2)

mutual
  items_ascend : (n : ℕ) (d : Document) → IsDocument d → Each AscendsInside (items_behind n d)
  items_ascend n null h = (tt, tt)
  items_ascend n (boolean b) h = (tt, tt)
  items_ascend n (integer z) h = (tt, tt)
  items_ascend n (text s) h = (tt, tt)
  items_ascend n (list ds) h = each_append AscendsInside (element_items n ds) (a_list (element_numbers n ds) ∷ []) (element_items_ascend n ds h) (tt, tt)
  items_ascend n (object ms) h =
      each_append AscendsInside (member_items n ms) (an_object (member_numbers n ms) ∷ []) (member_items_ascend n ms h) (numbers_ascend n ms h, tt)

  element_items_ascend : (n : ℕ) (ds : Documents) → AreDocuments ds → Each AscendsInside (element_items n ds)
  element_items_ascend n no_documents h = tt
  element_items_ascend n (document d ds) h =
      let m = suc (n + inside d) in each_append AscendsInside (items_behind n d) (element_items m ds) (items_ascend n d h.0) (element_items_ascend m ds h.1)

  member_items_ascend : (n : ℕ) (ms : Members) → AreMembers ms → Each AscendsInside (member_items n ms)
  member_items_ascend n no_members h = tt
  member_items_ascend n (member k d ms) h =
      let m = suc (n + inside d) in each_append AscendsInside (items_behind n d) (member_items m ms) (items_ascend n d h.1) (member_items_ascend m ms h.2)

pub each_got : {A : Type 0} (P : A → Type 0) (xs : List A) (i : ℕ) (x : A) → Each P xs → slice_get xs i ≡ Some x → P x
each_got P [] i x h e = cc
each_got P (y ∷ xs) zero x h e = let same : y ≡ x = cc in subst P same h.0
each_got P (y ∷ xs) (suc i) x h e = each_got P xs i x h.1 e

pub item_ascends : (d : Document) → IsDocument d → (i : ℕ) (x : Opened ℕ) → slice_get (items d) i ≡ Some x → AscendsInside x
item_ascends d h i x e = each_got AscendsInside (items d) i x (items_ascend 0 d h) e
