-- The documents directly inside one.
use Rattle.std.proofs.Common.{List, [], ◌∷◌}
use Rattle.std.specs.List.{AllByRecursion as Each}
use Rattle.cs_document.specs.Document.{Document, null, boolean, integer, text, list, object, Documents, no_documents, document, Members, no_members, member, Entry, elements, entries}
use Rattle.cs_document.specs.Opened.{Opened, a_list, an_object, opened}

abbrev pub values : {A : Type 0} → List (Entry A) → List A
values [] = []
values (m ∷ ms) = m.1 ∷ values ms

abbrev pub children : Document → List Document
children (list ds) = elements ds
children (object ms) = values (entries ms)
children _ = []

-- what is inside an opened document
abbrev pub within : {A : Type 0} → Opened A → List A
within (a_list ys) = ys
within (an_object ms) = values ms
within _ = []

pub each_within : (P : Document → Type 0) (x : Document) → Each P (children x) → Each P (within (opened x))
each_within P null h = h
each_within P (boolean b) h = h
each_within P (integer n) h = h
each_within P (text s) h = h
each_within P (list ds) h = h
each_within P (object ms) h = h

-- induction: what holds of a document, where it holds of each directly inside, holds of every one
module _ (P : Document → Type 0) (step : (x : Document) → Each P (children x) → P x) where
  mutual
    pub by_children : (x : Document) → P x
    by_children null = step null tt
    by_children (boolean b) = step (boolean b) tt
    by_children (integer n) = step (integer n) tt
    by_children (text s) = step (text s) tt
    by_children (list ds) = step (list ds) (of_elements ds)
    by_children (object ms) = step (object ms) (of_members ms)

    of_elements : (ds : Documents) → Each P (elements ds)
    of_elements no_documents = tt
    of_elements (document d ds) = (by_children d, of_elements ds)

    of_members : (ms : Members) → Each P (values (entries ms))
    of_members no_members = tt
    of_members (member k d ms) = (by_children d, of_members ms)
