-- A map that is made from another one, a member at a time, of which some are left out.
use Rattle.std.proofs.Common.{◌≡◌, ℕ, Bool, true, false, List, [], ◌∷◌, ◌++◌, String, Global, string_bytes, string_cmp, Less, refl, sym, ap, ◌∙◌, subst, append_assoc, append-nil, if◌then◌else◌}
use Rattle.std.specs.BTreeMap.{insert_entry}
use Rattle.std.specs.List.{AllByRecursion}
use Rattle.std.specs.List.Sorted.{IsStrictlySortedBy}
use Rattle.std.specs.Map.{keys_of}
use Rattle.cs_document.specs.Document.{Document, Members, no_members, member}
use Rattle.cs_document.specs.View.{doc_view, object_view}
use Rattle.cs_document.specs.declared.doc.Doc.{Doc}
use Rattle.cs_document.proofs.Entries.{Entry}
use Rattle.cs_document.proofs.Maps.{texts, insert_last, texts_more}
use Rattle.cs_describe.specs.Plain.{members_without, value_without}
use Rattle.cs_describe.proofs.Joined.{join, join_push}

module _ (left_out : List ℕ → Bool) (root : Bool) where
  -- the entries that stay
  abbrev pub kept : List Entry → List Entry
  kept [] = []
  kept (e ∷ es) = if left_out (string_bytes e.0) then kept es else e ∷ kept es

  -- some entries are left: what is found so far has the keys of those that are done and stay, and they are without what is left out
  pub record IsLeft (all left found : List Entry) : Type 0 where
    pub done : List Entry
    pub whole : all ≡ done ++ left
    pub same : texts found ≡ texts (kept done)
    pub made : object_view found ≡ members_without left_out root (object_view done)

  -- ---- what stays is in order

  all_kept : (P : String Global → Type 0) (done rest : List Entry) → AllByRecursion P (keys_of (done ++ rest)) → AllByRecursion P (keys_of (kept done ++ rest))
  all_kept P [] rest h = h
  all_kept P (d ∷ done) rest h = by (left_out (string_bytes d.0)) h.0 (all_kept P done rest h.1)
    where
      by : (t : Bool) → P d.0 → AllByRecursion P (keys_of (kept done ++ rest)) → AllByRecursion P (keys_of ((if t then kept done else d ∷ kept done) ++ rest))
      by true g more = more
      by false g more = (g, more)

  sorted_kept : (done rest : List Entry) → IsStrictlySortedBy string_cmp (keys_of (done ++ rest)) → IsStrictlySortedBy string_cmp (keys_of (kept done ++ rest))
  unfolding IsStrictlySortedBy
  sorted_kept [] rest h = h
  sorted_kept (d ∷ done) rest h = by (left_out (string_bytes d.0)) (all_kept (λ k. string_cmp d.0 k ≡ Less) done rest h.0) (sorted_kept done rest h.1)
    where
      by : (t : Bool) → AllByRecursion (λ k. string_cmp d.0 k ≡ Less) (keys_of (kept done ++ rest)) → IsStrictlySortedBy string_cmp (keys_of (kept done ++ rest))
          → IsStrictlySortedBy string_cmp (keys_of ((if t then kept done else d ∷ kept done) ++ rest))
      by true above more = more
      by false above more = (above, more)

  -- ---- one more

  without_join : (ms ns : Members) → members_without left_out root (join ms ns) ≡ join (members_without left_out root ms) (members_without left_out root ns)
  without_join no_members ns = refl
  without_join (member l w ms) ns = by (left_out l) (without_join ms ns)
    where
      by : (t : Bool) → members_without left_out root (join ms ns) ≡ join (members_without left_out root ms) (members_without left_out root ns)
          → (if t then members_without left_out root (join ms ns) else member l (value_without left_out root l w) (members_without left_out root (join ms ns)))
          ≡ join (if t then members_without left_out root ms else member l (value_without left_out root l w) (members_without left_out root ms)) (members_without left_out root ns)
      by true h = h
      by false h = ap (member l (value_without left_out root l w)) h

  join_none : (ms : Members) → join ms no_members ≡ ms
  join_none no_members = refl
  join_none (member l w ms) = ap (member l w) (join_none ms)

  without_push : (done : List Entry) (e : Entry) → members_without left_out root (object_view (done ++ e ∷ []))
      ≡ join (members_without left_out root (object_view done)) (members_without left_out root (member (string_bytes e.0) (doc_view e.1) no_members))
  without_push done e = ap (members_without left_out root) (join_push done e) ∙ without_join (object_view done) (member (string_bytes e.0) (doc_view e.1) no_members)

  -- of the last entry, where it is left out and where it stays
  last_out : (k : List ℕ) (v : Document) → left_out k ≡ true → members_without left_out root (member k v no_members) ≡ no_members
  last_out k v e = ap (λ b. if b then no_members else member k (value_without left_out root k v) no_members) e

  last_kept : (k : List ℕ) (v : Document) → left_out k ≡ false → members_without left_out root (member k v no_members) ≡ member k (value_without left_out root k v) no_members
  last_kept k v e = ap (λ b. if b then no_members else member k (value_without left_out root k v) no_members) e

  kept_push : (done : List Entry) (e : Entry) → kept (done ++ e ∷ []) ≡ kept done ++ kept (e ∷ [])
  kept_push [] e = refl
  kept_push (d ∷ done) e = by (left_out (string_bytes d.0)) (kept_push done e)
    where
      by : (t : Bool) → kept (done ++ e ∷ []) ≡ kept done ++ kept (e ∷ []) → (if t then kept (done ++ e ∷ []) else d ∷ kept (done ++ e ∷ [])) ≡ (if t then kept done else d ∷ kept done) ++ kept (e ∷ [])
      by true h = h
      by false h = ap (λ es. d ∷ es) h

  one_kept : (e : Entry) (t : Bool) → left_out (string_bytes e.0) ≡ t → kept (e ∷ []) ≡ (if t then [] else e ∷ [])
  one_kept e t h = ap (λ b. if b then [] else e ∷ []) h

  pub left_skip : (all left found : List Entry) (key : String Global) (v : Doc) → left_out (string_bytes key) ≡ true → IsLeft all ((key, v) ∷ left) found → IsLeft all left found
  left_skip all left found key v out m =
      let e : Entry = (key, v) in record {
        done = m.done ++ e ∷ [];
        whole = m.whole ∙ sym (append_assoc m.done (e ∷ []) left);
        same = m.same ∙ sym (ap texts (kept_push m.done e ∙ ap (λ es. kept m.done ++ es) (one_kept e true out) ∙ append-nil (kept m.done)));
        made = m.made ∙ sym (without_push m.done e ∙ ap (join (members_without left_out root (object_view m.done))) (last_out (string_bytes key) (doc_view v) out) ∙ join_none (members_without left_out root (object_view m.done)));
      }

  pub left_more : (all left found : List Entry) (key : String Global) (d v : Doc) → IsStrictlySortedBy string_cmp (keys_of all) → left_out (string_bytes key) ≡ false
      → IsLeft all ((key, v) ∷ left) found → doc_view d ≡ value_without left_out root (string_bytes key) (doc_view v) → IsLeft all left (insert_entry string_cmp found key d)
  left_more all left found key d v sorted out m is =
      let e : Entry = (key, v) in
      let ordered = sorted_kept m.done (e ∷ left) (subst (λ es. IsStrictlySortedBy string_cmp (keys_of es)) m.whole sorted) in
      let grown : insert_entry string_cmp found key d ≡ found ++ (key, d) ∷ [] = insert_last found (kept m.done) e left key d m.same refl ordered in
      let stays : kept (m.done ++ e ∷ []) ≡ kept m.done ++ e ∷ [] = kept_push m.done e ∙ ap (λ es. kept m.done ++ es) (one_kept e false out) in record {
        done = m.done ++ e ∷ [];
        whole = m.whole ∙ sym (append_assoc m.done (e ∷ []) left);
        same = ap texts grown ∙ texts_more found (kept m.done) e key d m.same refl ∙ sym (ap texts stays);
        made = ap object_view grown ∙ join_push found (key, d)
            ∙ ap (λ ms. join ms (member (string_bytes key) (doc_view d) no_members)) m.made
            ∙ ap (λ w. join (members_without left_out root (object_view m.done)) (member (string_bytes key) w no_members)) is
            ∙ sym (without_push m.done e ∙ ap (join (members_without left_out root (object_view m.done))) (last_kept (string_bytes key) (doc_view v) out));
      }

  pub left_first : (all left found : List Entry) → left ≡ all → found ≡ [] → IsLeft all left found
  left_first all left found whole empty = record { done = []; whole = sym whole; same = ap texts empty; made = ap object_view empty }

  pub left_all : (all found : List Entry) → IsLeft all [] found → object_view found ≡ members_without left_out root (object_view all)
  left_all all found m = m.made ∙ ap (λ es. members_without left_out root (object_view es)) (sym (m.whole ∙ append-nil m.done))
