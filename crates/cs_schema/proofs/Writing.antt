-- Keywords that are put in their order are in that order.
use Rattle.std.proofs.Common.{◌≡◌, ◌↔◌, IsTrue, length, ℕ, Bool, false, List, [], ◌∷◌, ◌++◌, map, Option, Some, None, String, Global, Box, Less, Greater, nat_cmp, string_bytes, codes, refl, sym, ap, ◌∙◌, subst, rules}
use Rattle.std.proofs.lemmas.Cmp.{nat_list_cmp_total}
use Rattle.std.specs.Cmp.Lexicographic.{slice_cmp}
use Rattle.std.specs.Ordering.{ordering_reverse}
use Rattle.std.specs.Prelude.{Result}
use Rattle.std.specs.declared.alloc.AllocError.{AllocError}
use Rattle.cs_document.specs.Document.{Document, Members, no_members, member, text, list, object, put}
use Rattle.cs_document.specs.View.{doc_view, object_view, documents_of, members_of}
use Rattle.cs_document.specs.declared.doc.Doc.{Doc}
use Rattle.cs_document.proofs.Entries.{Entry, entries-push}
pub use Rattle.cs_document.proofs.Maps.{map_more as mapped_more}
use Rattle.cs_profile.specs.Shapes.{dialect}
use Rattle.cs_profile.specs.Trim.{with_member, with_dialect}
use Rattle.cs_profile.specs.SchemaDocument.{Slot, present, slots_of, schema_view, definitions_view, unless_no_list, unless_no_map, SchemaValue, document_of}
use Rattle.cs_profile.specs.Root.{with_definitions}
use Rattle.cs_profile.specs.Keywords.{name_of, all_keywords, slot_keywords}
use Rattle.cs_schema.specs.Writing.{Writes, put_some, put_all, slot_value, slots_for}
use Rattle.cs_profile.specs.declared.keyword.Keyword.{Keyword}
use Rattle.cs_profile.specs.declared.schema.Schema.{Schema, Object, the_lemmas}
use Rattle.cs_profile.specs.declared.schema.Keywords.{Keywords}
use Rattle.cs_profile.proofs.Slots.{Above, Ordered, slots_at, slots_are}
use Rattle.cs_profile.proofs.Views.{view-Object}
use Rattle.cs_schema.proofs.Walks.{join, join-nil, KeysBelow, is_nil}

-- a key above the others goes last
put_last : (k : List ℕ) (v : Document) (ms : Members) → KeysBelow k ms → put k v ms ≡ join ms (member k v no_members)
put_last k v no_members h = refl
put_last k v (member l d ms) h =
    let above : slice_cmp nat_cmp k l ≡ Greater = nat_list_cmp_total.antisymm k l ∙ ap ordering_reverse h.0 in rw above (ap (member l d) (put_last k v ms h.1))

put_some-last : (k : List ℕ) (o : Option Document) (ms : Members) → KeysBelow k ms → put_some k o ms ≡ join ms (with_member o k no_members)
put_some-last k None ms h = sym (join-nil ms)
put_some-last k (Some v) ms h = put_last k v ms h

-- each name is above the keys
abbrev AllAbove : Members → List Slot → Type 0
AllAbove ms [] = Unit {0}
AllAbove ms (s ∷ ss) = KeysBelow s.0 ms × AllAbove ms ss

below_join : (k n : List ℕ) (o : Option Document) (ms : Members) → slice_cmp nat_cmp k n ≡ Less → KeysBelow n ms → KeysBelow n (join ms (with_member o k no_members))
below_join k n None no_members h b = tt
below_join k n (Some v) no_members h b = (h, tt)
below_join k n o (member l d ms) h b = (b.0, below_join k n o ms h b.1)

above_join : (k : List ℕ) (o : Option Document) (ms : Members) (ss : List Slot) → Above k ss → AllAbove ms ss → AllAbove (join ms (with_member o k no_members)) ss
above_join k o ms [] h b = tt
above_join k o ms (s ∷ ss) h b = (below_join k s.0 o ms h.0 b.0, above_join k o ms ss h.1 b.1)

join_more : (ms : Members) (o : Option Document) (k : List ℕ) (ns : Members) → join (join ms (with_member o k no_members)) ns ≡ join ms (with_member o k ns)
join_more no_members None k ns = refl
join_more no_members (Some v) k ns = refl
join_more (member l d ms) o k ns = ap (member l d) (join_more ms o k ns)

put_all-last : (ss : List Slot) (ms : Members) → Ordered ss → AllAbove ms ss → put_all ss ms ≡ join ms (present ss)
put_all-last [] ms o h = sym (join-nil ms)
put_all-last (s ∷ ss) ms o h =
    ap (put_all ss) (put_some-last s.0 s.1 ms h.0)
    ∙ put_all-last ss (join ms (with_member s.1 s.0 no_members)) o.1 (above_join s.0 s.1 ms ss o.0 h.1)
    ∙ join_more ms s.1 s.0 (present ss)

above_none : (ss : List Slot) → AllAbove no_members ss
above_none [] = tt
above_none (s ∷ ss) = (tt, above_none ss)

-- in the order of the keywords
all_ordered : (ss : List Slot) → Ordered (slots_for ss all_keywords)
all_ordered ss = search rules

-- each keyword of an object is one of them
all_present : (k : Keywords) → present (slots_for (slots_of k) all_keywords) ≡ present (slots_of k)
all_present k = search (rules, the_lemmas)

pub all_put : (k : Keywords) → put_all (slots_for (slots_of k) all_keywords) no_members ≡ present (slots_of k)
all_put k =
    put_all-last (slots_for (slots_of k) all_keywords) no_members (all_ordered (slots_of k)) (above_none (slots_for (slots_of k) all_keywords)) ∙ all_present k

-- the keyword w of an object is written as its field is
pub written : (w x : Keyword) → x ≡ w → (k : Keywords) (r : Result (Option Doc) AllocError) → Writes r (slot_value (name_of w) (slots_at k slot_keywords)) → Writes r (slot_value (name_of x) (slots_of k))
written w x is k r done =
    subst (λ ss. Writes r (slot_value (name_of x) ss)) (sym (slots_are k)) (subst (λ y. Writes r (slot_value (name_of y) (slots_at k slot_keywords))) (sym is) done)

-- a name below the others goes first
put_some-first : (k : List ℕ) (o : Option Document) (ss : List Slot) → Above k ss → put_some k o (present ss) ≡ with_member o k (present ss)
put_some-first k None ss h = refl
put_some-first k (Some v) [] h = refl
put_some-first k (Some v) ((n, None) ∷ ss) h = put_some-first k (Some v) ss h.1
put_some-first k (Some v) ((n, Some d) ∷ ss) h = rw h.0 refl

below_keywords : (k : Keywords) → Above (codes "$defs") (slots_of k)
below_keywords k = search (rules, the_lemmas)

pub definitions_put : (k : Keywords) (o : Option Document) → put_some (codes "$defs") o (present (slots_of k)) ≡ with_member o (codes "$defs") (present (slots_of k))
definitions_put k o = put_some-first (codes "$defs") o (slots_of k) (below_keywords k)

-- ---- lists and maps of schemas

pub some_listed : {X : Type 0} (f : X → Document) (xs : List X) → is_nil xs ≡ false → unless_no_list (map f xs) ≡ Some (list (documents_of (map f xs)))
some_listed f [] h = cc
some_listed f (x ∷ xs) h = refl

pub members_of-push : (found : List Entry) (done : List (String Global × Schema)) (name : String Global) (d : Doc) (e : String Global × Schema)
    → object_view found ≡ members_of (definitions_view done) → string_bytes name ≡ string_bytes e.0 → doc_view d ≡ schema_view e.1
    → object_view (found ++ (name, d) ∷ []) ≡ members_of (definitions_view (done ++ e ∷ []))
members_of-push found done name d e is named seen = entries-push doc_view schema_view found done name d e is named seen

pub not_empty : {X : Type 0} (b : Bool) (xs : List X) → (IsTrue b ↔ (length xs ≡ 0)) → b ≡ false → is_nil xs ≡ false
not_empty b [] h e = let t : IsTrue b = h.1 refl in cc
not_empty b (x ∷ xs) h e = refl

pub some_named : (es : List (String Global × Schema)) → (is_nil es ≡ false) → unless_no_map (definitions_view es) ≡ Some (object (members_of (definitions_view es)))
some_named [] h = cc
some_named (e ∷ es) h = refl

-- ---- the root

-- an object's keywords, with the definitions and the dialect put to them
pub document_put : (v : SchemaValue) (k : Box Keywords Global) (o : Option Document) → v.root ≡ Object k → o ≡ unless_no_map (definitions_view v.definitions)
    → object (put_some (codes "$schema") (Some (text dialect)) (put_some (codes "$defs") o (present (slots_of k.value)))) ≡ document_of v
document_put v k o root is =
    ap (λ ms. object (put (codes "$schema") (text dialect) ms)) (definitions_put k.value o ∙ ap (λ d. with_member d (codes "$defs") (present (slots_of k.value))) is)
    ∙ ap (λ d. with_dialect (with_definitions (unless_no_map (definitions_view v.definitions)) d)) (sym (ap schema_view root ∙ view-Object k))
