-- Members and elements, one after another; a map and a list that are made from others, a member or an element at a time.
use Rattle.std.proofs.Common.{◌≡◌, ℕ, List, [], ◌∷◌, ◌++◌, length, Option, Some, None, option_map, Bor, String, Global, string_bytes, string_cmp, refl, sym, ap, ap₂, ◌∙◌, subst, append_assoc, append-nil}
use Rattle.std.specs.BTreeMap.{insert_entry}
use Rattle.std.specs.List.Sorted.{IsStrictlySortedBy}
use Rattle.std.specs.Map.{keys_of}
use Rattle.std.specs.Slice.Iter.{iter_rest, iter_steps}
use Rattle.std.specs.declared.slice.Iter.{Iter}
use Rattle.cs_document.specs.Document.{Document, Documents, no_documents, document, Members, no_members, member}
use Rattle.cs_document.specs.View.{doc_view, list_view, object_view}
use Rattle.cs_document.specs.declared.doc.Doc.{Doc}
use Rattle.cs_describe.specs.declared.notes.Notes.{Notes}
use Rattle.cs_describe.specs.Described.{front_notes, further_notes}
use Rattle.cs_document.proofs.Entries.{Entry}
use Rattle.cs_document.proofs.Maps.{texts, insert_last, texts_more}

-- ---- members

abbrev pub join : Members → Members → Members
join no_members ns = ns
join (member k v ms) ns = member k v (join ms ns)

pub join_push : (es : List Entry) (e : Entry) → object_view (es ++ e ∷ []) ≡ join (object_view es) (member (string_bytes e.0) (doc_view e.1) no_members)
join_push [] e = refl
join_push (x ∷ es) e = ap (member (string_bytes x.0) (doc_view x.1)) (join_push es e)

-- a map is made from another one, of which some entries are left: so far it has the keys of those that are done, and its
-- members are what F makes of them
pub record IsMade (F : Members → Members) (all left found : List Entry) : Type 0 where
  pub done : List Entry
  pub whole : all ≡ done ++ left
  pub same : texts found ≡ texts done
  pub made : object_view found ≡ F (object_view done)

-- F makes each member by itself, from its key and its value
module _ (F : Members → Members) (f : List ℕ → Document → Document) (none : F no_members ≡ no_members) (one : (k : List ℕ) (v : Document) (ms : Members) → F (member k v ms) ≡ member k (f k v) (F ms)) where
  made_join : (ms : Members) (k : List ℕ) (v : Document) → F (join ms (member k v no_members)) ≡ join (F ms) (member k (f k v) no_members)
  made_join no_members k v = one k v no_members ∙ ap (member k (f k v)) none ∙ ap (λ ns. join ns (member k (f k v) no_members)) (sym none)
  made_join (member l w ms) k v = one l w (join ms (member k v no_members)) ∙ ap (member l (f l w)) (made_join ms k v) ∙ ap (λ ns. join ns (member k (f k v) no_members)) (sym (one l w ms))

  made_push : (found done : List Entry) (key : String Global) (d v : Doc) → object_view found ≡ F (object_view done) → doc_view d ≡ f (string_bytes key) (doc_view v)
      → object_view (found ++ (key, d) ∷ []) ≡ F (object_view (done ++ (key, v) ∷ []))
  made_push found done key d v made is =
      join_push found (key, d) ∙ ap₂ (λ ms w. join ms (member (string_bytes key) w no_members)) made is
      ∙ sym (ap F (join_push done (key, v)) ∙ made_join (object_view done) (string_bytes key) (doc_view v))

  pub made_more : (all left found : List Entry) (key : String Global) (d v : Doc) → IsStrictlySortedBy string_cmp (keys_of all) → IsMade F all ((key, v) ∷ left) found → doc_view d ≡ f (string_bytes key) (doc_view v)
      → IsMade F all left (insert_entry string_cmp found key d)
  made_more all left found key d v sorted m is =
      let e : Entry = (key, v) in
      let ordered = subst (λ es. IsStrictlySortedBy string_cmp (keys_of es)) m.whole sorted in
      let grown : insert_entry string_cmp found key d ≡ found ++ (key, d) ∷ [] = insert_last found m.done e left key d m.same refl ordered in record {
        done = m.done ++ e ∷ [];
        whole = m.whole ∙ sym (append_assoc m.done (e ∷ []) left);
        same = ap texts grown ∙ texts_more found m.done e key d m.same refl;
        made = ap object_view grown ∙ made_push found m.done key d v m.made is;
      }

-- at the first entry none is done, and after the last one all are
pub made_first : (F : Members → Members) → F no_members ≡ no_members → (all left found : List Entry) → left ≡ all → found ≡ [] → IsMade F all left found
made_first F none all left found whole empty = record {
  done = [];
  whole = sym whole;
  same = ap texts empty;
  made = ap object_view empty ∙ sym none;
}

pub made_all : (F : Members → Members) (all found : List Entry) → IsMade F all [] found → object_view found ≡ F (object_view all)
made_all F all found m = m.made ∙ ap (λ es. F (object_view es)) (sym (m.whole ∙ append-nil m.done))

-- ---- elements

pub nothing_left : {A : Type 0} (xs : List A) → length xs ≡ 0 → xs ≡ []
nothing_left [] e = refl
nothing_left (x ∷ xs) e = cc

-- the texts for the next element, and for those after it
pub next_notes : (s t : Iter Notes) (r : Option (Bor Notes)) → iter_steps s r t → (front_notes (iter_rest s) ≡ option_map (λ n. n.now) r) × (further_notes (iter_rest s) ≡ iter_rest t)
next_notes s t None h = let none = nothing_left (iter_rest s) h.0 in (ap front_notes none, ap further_notes none ∙ sym (ap iter_rest h.1 ∙ none))
next_notes s t (Some n) h = (ap front_notes h, ap further_notes h)

abbrev pub joined : Documents → Documents → Documents
joined no_documents es = es
joined (document d ds) es = document d (joined ds es)

pub joined_push : (xs : List Doc) (x : Doc) (ds : Documents) → joined (list_view (xs ++ x ∷ [])) ds ≡ joined (list_view xs) (document (doc_view x) ds)
joined_push [] x ds = refl
joined_push (y ∷ xs) x ds = ap (document (doc_view y)) (joined_push xs x ds)

pub joined_none : (ds : Documents) → joined ds no_documents ≡ ds
joined_none no_documents = refl
joined_none (document d ds) = ap (document d) (joined_none ds)
