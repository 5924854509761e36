-- The entries of a map of documents, one by one.
use Rattle.std.proofs.Common.{◌≡◌, List, [], ◌∷◌, ◌++◌, map, String, Global, Less, string_bytes, string_cmp, ap}
use Rattle.std.specs.List.{AllByRecursion}
use Rattle.std.specs.List.Sorted.{IsStrictlySortedBy}
use Rattle.std.specs.Map.{keys_of}
use Rattle.cs_document.specs.Document.{Document, Members, member, KeysAbove, IsDocument, AreMembers}
use Rattle.cs_document.specs.View.{members_of, doc_view, object_view}
use Rattle.cs_document.specs.declared.doc.Doc.{Doc}

abbrev pub Entry : Type 0
Entry = String Global × Doc

-- two maps, seen as documents each by a view of its own, are the same with one more entry
module _ {X Y : Type 0} (f : X → Document) (g : Y → Document) where
  abbrev seen : {Z : Type 0} → (Z → Document) → List (String Global × Z) → Members
  seen h es = members_of (map (λ m. (m.0, h m.1)) es)

  pub entries-push : (found : List (String Global × X)) (done : List (String Global × Y)) (name : String Global) (x : X) (e : String Global × Y)
      → seen f found ≡ seen g done → string_bytes name ≡ string_bytes e.0 → f x ≡ g e.1
      → seen f (found ++ (name, x) ∷ []) ≡ seen g (done ++ e ∷ [])
  entries-push [] [] name x e is named same = rw (named, same)
  entries-push [] (d ∷ done) name x e is named same = cc
  entries-push (c ∷ found) [] name x e is named same = cc
  entries-push (c ∷ found) (d ∷ done) name x e is named same =
      let key : string_bytes c.0 ≡ string_bytes d.0 = cc in
      let first : f c.1 ≡ g d.1 = cc in
      let rest : seen f found ≡ seen g done = cc in
      rw (key, first) (ap (member (string_bytes d.0) (g d.1)) (entries-push found done name x e rest named same))

pub object_view-push : (found done : List Entry) (name : String Global) (v : Doc) (e : Entry)
    → object_view found ≡ object_view done → string_bytes name ≡ string_bytes e.0 → doc_view v ≡ doc_view e.1
    → object_view (found ++ (name, v) ∷ []) ≡ object_view (done ++ e ∷ [])
object_view-push found done name v e is named same = entries-push doc_view doc_view found done name v e is named same

-- ---- a map of documents with its keys in order is one

-- each member's document is in the profile
abbrev pub ValuesFit : List Entry → Type 0
ValuesFit [] = Unit {0}
ValuesFit (e ∷ es) = IsDocument (doc_view e.1) × ValuesFit es

pub ValuesFit-push : (es : List Entry) (e : Entry) → ValuesFit es → IsDocument (doc_view e.1) → ValuesFit (es ++ e ∷ [])
ValuesFit-push [] e p q = (q, tt)
ValuesFit-push (x ∷ es) e p q = (p.0, ValuesFit-push es e p.1 q)

keys_above : (k : String Global) (es : List Entry) → AllByRecursion (λ y. string_cmp k y ≡ Less) (keys_of es) → KeysAbove (string_bytes k) (object_view es)
keys_above k [] h = tt
keys_above k (e ∷ es) h = (h.0, keys_above k es h.1)

pub AreMembers-of_sorted : (es : List Entry) → IsStrictlySortedBy string_cmp (keys_of es) → ValuesFit es → AreMembers (object_view es)
unfolding IsStrictlySortedBy
AreMembers-of_sorted [] h p = tt
AreMembers-of_sorted (e ∷ es) h p = (keys_above e.0 es h.0, p.0, AreMembers-of_sorted es h.1 p.1)
