-- A `Doc`, level by level, and a map beside the members that it stands for.
use Rattle.std.proofs.Common.{◌≡◌, List, [], ◌∷◌, String, Vec, BTreeMap, Global, Ordering, Less, Equal, Greater, string_bytes, string_cmp, Bool, refl, ◌∙◌, rules}
use Rattle.std.specs.Ordering.{match_ordering}
use Rattle.std.specs.BTreeMap.{insert_entry}
use Rattle.cs_document.specs.Document.{boolean, text, list, object, put}
use Rattle.cs_document.specs.View.{doc_view, list_view, object_view}
use Rattle.cs_document.specs.declared.doc.Doc.{Doc, Bool as TheBool, Text, List as TheList, Object, the_lemmas}
use Rattle.cs_document.proofs.Entries.{Entry}

pub view-Bool : (b : Bool) → doc_view (TheBool b) ≡ boolean b
view-Bool b = search (rules, the_lemmas)

pub view-Text : (s : String Global) → doc_view (Text s) ≡ text (string_bytes s)
view-Text s = search (rules, the_lemmas)

pub view-List : (v : Vec Doc Global) → doc_view (TheList v) ≡ list (list_view v.items)
view-List v = search (rules, the_lemmas)

pub view-Object : (m : BTreeMap (String Global) Doc) → doc_view (Object m) ≡ object (object_view m.entries)
view-Object m = search (rules, the_lemmas)

object_view-match_ordering : (o : Ordering) (a b c : List Entry) → object_view (match_ordering o a b c) ≡ match_ordering o (object_view a) (object_view b) (object_view c)
object_view-match_ordering Less a b c = refl
object_view-match_ordering Equal a b c = refl
object_view-match_ordering Greater a b c = refl

-- an insert puts the member
pub object_view-insert_entry : (es : List Entry) (k : String Global) (v : Doc) → object_view (insert_entry string_cmp es k v) ≡ put (string_bytes k) (doc_view v) (object_view es)
object_view-insert_entry [] k v = refl
object_view-insert_entry (e ∷ es) k v = object_view-match_ordering (string_cmp k e.0) _ _ _ ∙ rw (object_view-insert_entry es k v)
