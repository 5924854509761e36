-- Definitions that are put under their names, one after the other.
use Rattle.std.proofs.Common.{◌≡◌, ℕ, ◌+◌, List, [], ◌∷◌, ◌++◌, map, take, inl, inr, Bool, true, false, Option, Some, IsSome, Ordering, Less, Equal, Greater, String, Global, string_bytes, string_cmp, nat_cmp, bytes_eq, refl, sym, ap, ◌∙◌, subst, if◌then◌else◌}
use Rattle.std.specs.Ordering.{match_ordering, is_eq}
use Rattle.std.specs.Cmp.Lexicographic.{slice_cmp}
use Rattle.std.specs.BTreeMap.{insert_entry}
use Rattle.std.proofs.lemmas.Map.Text.{is_eq-slice_cmp}
use Rattle.std.proofs.lemmas.Slice.Eq.{bytes_eq-Decides}
use Rattle.std.proofs.lemmas.List.{map-append}
use Rattle.cs_document.specs.Document.{Document, Members, no_members, member, entries, under, put}
use Rattle.cs_document.specs.View.{members_of}
use Rattle.cs_package.specs.Environment.{Environment}
use Rattle.cs_graph.specs.Chains.{On}
use Rattle.cs_graph.proofs.Places.{on_cases}
use Rattle.cs_guard.specs.Numbered.{name_of}
use Rattle.cs_profile.specs.SchemaDocument.{schema_view, definitions_view}
use Rattle.cs_profile.specs.declared.schema.Schema.{Schema}

once : {A : Type 0} (b : Bool) (x y r : A) → (if b then x else r) ≡ (if b then x else (if b then y else r))
once true x y r = refl
once false x y r = refl

turned : {A : Type 0} (a b : Bool) (x y r : A) → (a ≡ true → b ≡ true → ⊥) → (if b then x else (if a then y else r)) ≡ (if a then y else (if b then x else r))
turned true true x y r apart = absurd (apart refl refl)
turned true false x y r apart = refl
turned false true x y r apart = refl
turned false false x y r apart = refl

-- what is under a name, after d was put under the name k
pub under-put : (n k : List ℕ) (d : Document) (ms : Members) → under n (entries (put k d ms)) ≡ (if bytes_eq n k then Some d else under n (entries ms))
under-put n k d no_members = refl
under-put n k d (member l e ms) = go (slice_cmp nat_cmp k l) refl (under-put n k d ms)
  where
    go : (o : Ordering) → slice_cmp nat_cmp k l ≡ o → under n (entries (put k d ms)) ≡ (if bytes_eq n k then Some d else under n (entries ms))
        → under n (entries (match_ordering o (member k d (member l e ms)) (member l d ms) (member l e (put k d ms)))) ≡ (if bytes_eq n k then Some d else (if bytes_eq n l then Some e else under n (entries ms)))
    go Less o h = refl
    go Equal o h =
        let same : k ≡ l = (bytes_eq-Decides k l).0 (sym (is_eq-slice_cmp k l) ∙ ap is_eq o) in
        rw same (once (bytes_eq n l) (Some d) (Some e) (under n (entries ms)))
    go Greater o h =
        let apart : bytes_eq n k ≡ true → bytes_eq n l ≡ true → ⊥ = λ p q.
        let same : k ≡ l = sym ((bytes_eq-Decides n k).0 p) ∙ (bytes_eq-Decides n l).0 q in
        let yes : bytes_eq k l ≡ true = (bytes_eq-Decides k l).1 same in
        let no : bytes_eq k l ≡ false = sym (is_eq-slice_cmp k l) ∙ ap is_eq o in
        cc in
        ap (λ r. if bytes_eq n l then Some e else r) h ∙ turned (bytes_eq n k) (bytes_eq n l) (Some e) (Some d) (under n (entries ms)) apart

made-match_ordering : (o : Ordering) (a b c : List (String Global × Schema)) → members_of (definitions_view (match_ordering o a b c)) ≡ match_ordering o (members_of (definitions_view a)) (members_of (definitions_view b)) (members_of (definitions_view c))
made-match_ordering Less a b c = refl
made-match_ordering Equal a b c = refl
made-match_ordering Greater a b c = refl

pub made-insert_entry : (es : List (String Global × Schema)) (k : String Global) (s : Schema) → members_of (definitions_view (insert_entry string_cmp es k s)) ≡ put (string_bytes k) (schema_view s) (members_of (definitions_view es))
made-insert_entry [] k s = refl
made-insert_entry (e ∷ es) k s = made-match_ordering (string_cmp k e.0) _ _ _ ∙ rw (made-insert_entry es k s)

-- a name that was there stays, and the new one is there
pub there-put : (n k : List ℕ) (d : Document) (ms : Members) → IsSome (under n (entries ms)) → IsSome (under n (entries (put k d ms)))
there-put n k d ms h = subst (λ (o : Option Document). IsSome o) (sym (under-put n k d ms)) (either (bytes_eq n k) (under n (entries ms)) d h)
  where
    either : (b : Bool) (o : Option Document) (d : Document) → IsSome o → IsSome (if b then Some d else o)
    either true o d h = refl
    either false o d h = h

pub at-put : (n : List ℕ) (d : Document) (ms : Members) → IsSome (under n (entries (put n d ms)))
at-put n d ms = let same : bytes_eq n n ≡ true = (bytes_eq-Decides n n).1 refl in subst (λ (o : Option Document). IsSome o) (sym (under-put n n d ms)) (rw same refl)

-- the names of the numbers up to one more, where that one's definition is put
pub there-more : (E : Environment) (xs : List ℕ) (k x : ℕ) (n : List ℕ) (d : Document) (ms : Members) → take (k + 1) xs ≡ take k xs ++ x ∷ [] → name_of E x ≡ n
    → ((m : List ℕ) → On m (map (name_of E) (take k xs)) → IsSome (under m (entries ms))) → (m : List ℕ) → On m (map (name_of E) (take (k + 1) xs)) → IsSome (under m (entries (put n d ms)))
there-more E xs k x n d ms longer named h m o =
    elim (on_cases m (name_of E x) (map (name_of E) (take k xs)) (subst (On m) (ap (map (name_of E)) longer ∙ map-append (name_of E) (take k xs) (x ∷ [])) o)) [
      | inl before ↦ there-put m n d ms (h m before)
      | inr same ↦ subst (λ l. IsSome (under l (entries (put n d ms)))) (sym (same ∙ named)) (at-put n d ms)
    ]
