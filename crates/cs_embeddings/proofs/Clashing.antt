-- What is remembered of declarations tells of the next one what it differs from.
use Rattle.std.proofs.Common.{◌≡◌, ℕ, ◌+◌, ◌<◌, Bool, true, false, ◌||◌, ◌&&◌, not, cond, List, [], ◌∷◌, ◌++◌, Option, Some, None, is_some, unwrap_or, map, take, drop, length, get_or, refl, sym, ap, ap₂, ◌∙◌, subst}
use Rattle.std.specs.Borrow.{Bor}
use Rattle.std.specs.BTreeMap.{BTreeMap, get_by}
use Rattle.std.specs.Cmp.Lexicographic.{slice_cmp}
use Rattle.std.specs.Ordering.{nat_cmp}
use Rattle.std.specs.List.{filter, list_any}
use Rattle.std.specs.Map.{update}
use Rattle.std.specs.Str.{bytes_eq}
use Rattle.std.proofs.lemmas.Bool.{or_left, or_right, and_parts, and_from}
use Rattle.std.proofs.lemmas.List.{map-append, take_more, append-nil}
use Rattle.std.proofs.lemmas.Slice.Eq.{bytes_eq-Decides}
use Rattle.cs_embeddings.specs.Alternatives.{Brought}
use Rattle.cs_embeddings.specs.Gathered.{is_every, is_asked_or_plain}
use Rattle.cs_embeddings.specs.Clashes.{is_same_reference, is_same_embedding, are_apart, may_open, differ, held, place_in, clashes_behind}
use Rattle.cs_embeddings.specs.ClashTable.{is_unlike, is_elsewhere, is_beside, is_not_beside, opens, is_of_label, is_of_every, held_at, TellsValues, TellsEmbeddings, TellsFrom, TellsFirst, TellsGroup, TellsGroups, TellsLabel}
use Rattle.cs_embeddings.specs.Held.{holds, is_plain}
use Rattle.cs_embeddings.specs.Views.{brought_view}
use Rattle.cs_embeddings.specs.declared.alternatives.Brought as rust
use Rattle.cs_embeddings.specs.declared.clashes.Groups.{Groups}
use Rattle.cs_embeddings.specs.declared.clashes.Group.{Group}
use Rattle.cs_embeddings.specs.declared.clashes.Values.{Values}
use Rattle.cs_embeddings.proofs.Walks.{at_place}
use Rattle.cs_embeddings.proofs.Likeness.{or_nothing, any_push, any_filter, any_same, any_under, any_more, any_either, told_in, told_out, reference_euclid, reference_back, embedding_back, embedding_euclid, embedding_itself, alike}

-- ---- those of a group

-- all come from where the first one does, or from elsewhere
module _ (g : Group) (b : rust.Brought) (ds : List Brought) (told : TellsGroup g ds) (f : rust.Brought) (is : f ≡ unwrap_or g.first b) where
  abbrev first : Brought
  first = brought_view f

  abbrev next : Brought
  next = brought_view b

  abbrev IsThere : List Brought → Type 0
  IsThere cs = (p : Brought → Bool) → p first ≡ true → list_any p cs ≡ true

  pub started : IsThere (ds ++ next ∷ []) × TellsFrom g first ds
  started = by g.first told is
    where
      by : (o : Option rust.Brought) → TellsFirst o g ds → f ≡ unwrap_or o b → IsThere (ds ++ next ∷ []) × TellsFrom g first ds
      by None h one = (
        λ p k. any_push p ds next ∙ or_right (list_any p ds) (p next) (ap (λ c. p (brought_view c)) (sym one) ∙ k),
        subst (TellsFrom g first) (sym h.0) (h.1 first),
      )
      by (Some c) h one = (
        λ p k. any_push p ds next ∙ or_left (list_any p ds) (p next) (h.0 p (ap (λ e. p (brought_view e)) (sym one) ∙ k)),
        subst (λ e. TellsFrom g (brought_view e) ds) (sym one) h.1,
      )

  pub with_own : (v : Values) → is_beside first next ≡ true → TellsValues v (filter (is_beside first) ds ++ next ∷ [])
      → TellsGroup (record { first = Some f; own = v; others = g.others; apart = g.apart }) (ds ++ next ∷ [])
  with_own v beside own = (
    started.0,
    record {
      own = told_in (TellsValues v) (is_beside first) ds next beside own;
      others = told_out (TellsValues g.others) (is_not_beside first) ds next (ap not beside) started.1.others;
      apart = told_out (TellsEmbeddings g.apart) (are_apart first) ds next
          (ap (λ a. not a && not (is_same_reference first.value next.value)) beside) started.1.apart;
    },
  )

module _ (g : Group) (ds : List Brought) (f : rust.Brought) (is : g.first ≡ Some f) (told : TellsGroup g ds) (d : Brought) where
  abbrev pub one : Brought
  one = brought_view f

  pub known : TellsFirst (Some f) g ds
  known = subst (λ o. TellsFirst o g ds) is told

  same_place : (c : Brought) → is_same_embedding one.embedding d.embedding ≡ true → is_beside one c ≡ is_same_embedding c.embedding d.embedding
  same_place c h = alike is_same_embedding embedding_back embedding_euclid one.embedding d.embedding c.embedding h ∙ embedding_back d.embedding c.embedding

  pub apart_beside : is_same_embedding one.embedding d.embedding ≡ true
      → list_any (is_unlike d.value) (filter (is_not_beside one) ds) ≡ list_any (λ c. are_apart c d) ds
  apart_beside h =
      any_filter (is_not_beside one) (is_unlike d.value) ds
      ∙ any_same (λ c. is_not_beside one c && is_unlike d.value c) (λ c. are_apart c d)
      (λ c. ap (λ b. not b && not (is_same_reference c.value d.value)) (same_place c h)) ds

  module _ (elsewhere : is_same_embedding one.embedding d.embedding ≡ false) where
    abbrev unlike_beside : Brought → Bool
    unlike_beside c = is_beside one c && is_unlike d.value c

    -- one that comes from where the first one does isn't the same reference
    some_unlike : list_any unlike_beside ds ≡ true → list_any (λ c. are_apart c d) ds ≡ true
    some_unlike h = any_more unlike_beside (λ c. are_apart c d) more ds h
      where
        more : (c : Brought) → unlike_beside c ≡ true → are_apart c d ≡ true
        more c k =
            let w = and_parts (is_beside one c) (is_unlike d.value c) k in
            let away = sym (alike is_same_embedding embedding_back embedding_euclid one.embedding c.embedding d.embedding w.0) ∙ elsewhere in
            and_from (is_elsewhere d.embedding c) (is_unlike d.value c) (ap not away) w.1

    -- all that come from there are the same reference
    all_alike : list_any unlike_beside ds ≡ false → list_any (is_elsewhere d.embedding) (filter (are_apart one) ds) ≡ list_any (λ c. are_apart c d) ds
    all_alike h =
        any_filter (are_apart one) (is_elsewhere d.embedding) ds
        ∙ any_under unlike_beside (λ c. are_apart one c && is_elsewhere d.embedding c) (λ c. are_apart c d) same ds h
      where
        same_first : (b : Bool) → is_same_reference one.value d.value ≡ b → is_same_reference one.value d.value ≡ true
        same_first true k = k
        same_first false k =
            let own = and_from (is_beside one one) (is_unlike d.value one) (embedding_itself one.embedding) (ap not k) in
            absurd (let w : true ≡ false = sym (known.0 unlike_beside own) ∙ h in cc)

        by : (a b x : Bool) → (a && not x) ≡ false → ((not a && not x) && not b) ≡ (not b && not x)
        by true b true k = sym (nothing_and (not b))
          where
            nothing_and : (y : Bool) → (y && false) ≡ false
            nothing_and true = refl
            nothing_and false = refl
        by true b false k = cc
        by false true true k = refl
        by false true false k = refl
        by false false true k = refl
        by false false false k = refl

        same : (c : Brought) → unlike_beside c ≡ false → (are_apart one c && is_elsewhere d.embedding c) ≡ are_apart c d
        same c k =
            let there = same_first (is_same_reference one.value d.value) refl in
            let seen = alike is_same_reference reference_back reference_euclid one.value d.value c.value there ∙ reference_back d.value c.value in
            ap (λ x. (not (is_beside one c) && not x) && is_elsewhere d.embedding c) seen
            ∙ by (is_beside one c) (is_same_embedding c.embedding d.embedding) (is_same_reference c.value d.value) k

    abbrev others : Bool
    others = list_any (is_elsewhere d.embedding) (filter (are_apart one) ds)

    pub apart_elsewhere : (list_any (is_unlike d.value) (filter (is_beside one) ds) || list_any (is_elsewhere d.embedding) (filter (are_apart one) ds))
        ≡ list_any (λ c. are_apart c d) ds
    apart_elsewhere = ap (λ b. b || others) (any_filter (is_beside one) (is_unlike d.value) ds) ∙ by (list_any unlike_beside ds) refl
      where
        by : (b : Bool) → list_any unlike_beside ds ≡ b → (b || others) ≡ list_any (λ c. are_apart c d) ds
        by true h = sym (some_unlike h)
        by false h = all_alike h

-- ---- those that may open

pub some_open : (ds : List Brought) (d : Brought) → may_open d ≡ false → list_any (λ c. are_apart c d) (filter may_open ds) ≡ list_any (opens d) ds
some_open ds d h =
    any_filter may_open (λ c. are_apart c d) ds
    ∙ any_same (λ c. may_open c && are_apart c d) (opens d) (λ c. sym (ap (λ b. b && are_apart c d) (ap (λ b. may_open c || b) h ∙ or_nothing (may_open c)))) ds

-- ---- those of a label

pub differs_every : (ds : List Brought) (d : Brought) → is_every d.mark ≡ true → list_any (opens d) ds ≡ list_any (λ c. differ c d) ds
differs_every ds d h = any_same (opens d) (λ c. differ c d) same ds
  where
    same : (c : Brought) → opens d c ≡ differ c d
    same c =
        let one = or_left (is_every d.mark) (bytes_eq c.label.text d.label.text) h in
        sym (ap (λ b. b && opens d c) (or_right (is_every c.mark) (is_every d.mark || bytes_eq c.label.text d.label.text) one))

pub differs_label : (ds : List Brought) (d : Brought) (s : List ℕ) → d.label.text ≡ s → is_every d.mark ≡ false
    → (list_any (opens d) (filter is_of_every ds) || list_any (opens d) (filter (is_of_label s) ds)) ≡ list_any (λ c. differ c d) ds
differs_label ds d s is one =
    ap₂ (λ a b. a || b) (any_filter is_of_every (opens d) ds) (any_filter (is_of_label s) (opens d) ds)
    ∙ any_either (λ c. is_of_every c && opens d c) (λ c. is_of_label s c && opens d c) ds
    ∙ any_same (λ c. (is_of_every c && opens d c) || (is_of_label s c && opens d c)) (λ c. differ c d) same ds
  where
    by : (a b o : Bool) → ((a && o) || (b && o)) ≡ ((a || b) && o)
    by true true true = refl
    by true true false = refl
    by true false true = refl
    by true false false = refl
    by false b o = refl

    same : (c : Brought) → ((is_of_every c && opens d c) || (is_of_label s c && opens d c)) ≡ differ c d
    same c =
        by (is_every c.mark) (bytes_eq c.label.text s) (opens d c)
        ∙ ap₂ (λ t b. (is_every c.mark || (b || bytes_eq c.label.text t)) && opens d c) (sym is) (sym one)

abbrev pub ByLabel : Type 0
ByLabel = BTreeMap (Bor (List ℕ)) Groups

abbrev pub known_at : List ℕ → ByLabel → Option Groups
known_at s m = get_by (λ k. slice_cmp nat_cmp s k.now) m

-- one more of its label
pub labels_more : (m n : ByLabel) (ds : List Brought) (d : Brought) (s : List ℕ) (g : Groups) → d.label.text ≡ s
    → ((t : List ℕ) → TellsLabel (known_at t m) (filter (is_of_label t) ds)) → TellsGroups g (filter (is_of_label s) ds ++ d ∷ [])
    → ((t : List ℕ) → known_at t n ≡ update bytes_eq (λ u. known_at u m) s (Some g) t)
    → (t : List ℕ) → TellsLabel (known_at t n) (filter (is_of_label t) (ds ++ d ∷ []))
labels_more m n ds d s g is told grown puts t =
    subst (λ (o : Option Groups). TellsLabel o (filter (is_of_label t) (ds ++ d ∷ []))) (sym (puts t)) (by (bytes_eq s t) refl)
  where
    by : (b : Bool) → bytes_eq s t ≡ b → TellsLabel (cond b (Some g) (known_at t m)) (filter (is_of_label t) (ds ++ d ∷ []))
    by true h =
        let same = (bytes_eq-Decides s t).0 h in
        told_in (TellsGroups g) (is_of_label t) ds d (ap (λ u. bytes_eq u t) is ∙ h) (subst (λ u. TellsGroups g (filter (is_of_label u) ds ++ d ∷ [])) same grown)
    by false h = told_out (TellsLabel (known_at t m)) (is_of_label t) ds d (ap (λ u. bytes_eq u t) is ∙ h) (told t)

-- ---- one after another

held_push : (ds : List Brought) (d : Brought) → held (ds ++ d ∷ []) ≡ held ds ++ cond (is_asked_or_plain d) [] (d ∷ [])
held_push [] d = refl
held_push (c ∷ ds) d = by (is_asked_or_plain c) (held_push ds d)
  where
    by : (b : Bool) → held (ds ++ d ∷ []) ≡ held ds ++ cond (is_asked_or_plain d) [] (d ∷ []) → cond b (held (ds ++ d ∷ [])) (c ∷ held (ds ++ d ∷ [])) ≡ cond b (held ds) (c ∷ held ds) ++ cond (is_asked_or_plain d) [] (d ∷ [])
    by true later = later
    by false later = ap (λ xs. c ∷ xs) later

module _ (xs : List rust.Brought) (i : ℕ) (x : rust.Brought) (l : i < length xs) (is : x ≡ get_or xs i x) where
  abbrev item : Brought
  item = brought_view x

  next_done : held (map brought_view (take (i + 1) xs)) ≡ held (map brought_view (take i xs)) ++ cond (is_asked_or_plain item) [] (item ∷ [])
  next_done =
      ap (λ ys. held (map brought_view ys)) (take_more xs i x l ∙ ap (λ y. take i xs ++ y ∷ []) (sym is))
      ∙ ap held (map-append brought_view (take i xs) (x ∷ []))
      ∙ held_push (map brought_view (take i xs)) item

  next_rest : held (map brought_view (drop i xs)) ≡ cond (is_asked_or_plain item) (held (map brought_view (drop (i + 1) xs))) (item ∷ held (map brought_view (drop (i + 1) xs)))
  next_rest = ap (λ ys. held (map brought_view ys)) (at_place xs i x l is)

  pub passed_done : is_asked_or_plain item ≡ true → held (map brought_view (take (i + 1) xs)) ≡ held (map brought_view (take i xs))
  passed_done h = next_done ∙ ap (λ b. held (map brought_view (take i xs)) ++ cond b [] (item ∷ [])) h ∙ append-nil (held (map brought_view (take i xs)))

  pub passed_rest : is_asked_or_plain item ≡ true → held (map brought_view (drop i xs)) ≡ held (map brought_view (drop (i + 1) xs))
  passed_rest h = next_rest ∙ ap (λ b. cond b (held (map brought_view (drop (i + 1) xs))) (item ∷ held (map brought_view (drop (i + 1) xs)))) h

  pub held_done : is_asked_or_plain item ≡ false → held (map brought_view (take (i + 1) xs)) ≡ held (map brought_view (take i xs)) ++ item ∷ []
  held_done h = next_done ∙ ap (λ b. held (map brought_view (take i xs)) ++ cond b [] (item ∷ [])) h

  pub held_rest : is_asked_or_plain item ≡ false → held (map brought_view (drop i xs)) ≡ item ∷ held (map brought_view (drop (i + 1) xs))
  held_rest h = next_rest ∙ ap (λ b. cond b (held (map brought_view (drop (i + 1) xs))) (item ∷ held (map brought_view (drop (i + 1) xs)))) h

-- a declaration that doesn't differ is passed
pub clash_passed : (before : List Brought) (d : Brought) (ds : List Brought) → list_any (λ c. differ c d) before ≡ false → clashes_behind before (d ∷ ds) ≡ clashes_behind (before ++ d ∷ []) ds
clash_passed before d ds h = ap (λ b. cond b (place_in d.place (holds d.value)) [] ++ clashes_behind (before ++ d ∷ []) ds) h

-- one that differs is the first
pub clash_here : (before : List Brought) (d : Brought) (ds : List Brought) (o : ℕ) → list_any (λ c. differ c d) before ≡ true → holds d.value ≡ Some o → clashes_behind before (d ∷ ds) ≡ unwrap_or d.place o ∷ clashes_behind (before ++ d ∷ []) ds
clash_here before d ds o h is =
    ap (λ b. cond b (place_in d.place (holds d.value)) [] ++ clashes_behind (before ++ d ∷ []) ds) h
    ∙ ap (λ p. place_in d.place p ++ clashes_behind (before ++ d ∷ []) ds) is

-- one that a condition made, and a plain one, is left out
pub passed_by : (d : Brought) → held_at d ≡ None → is_asked_or_plain d ≡ true
passed_by d h = by d.label.asked h
  where
    by : (a : Bool) → cond a None (holds d.value) ≡ None → (a || is_plain d.value) ≡ true
    by true k = refl
    by false k = ap (λ o. not (is_some o)) k

pub held_by : (d : Brought) (o : ℕ) → held_at d ≡ Some o → (is_asked_or_plain d ≡ false) × (holds d.value ≡ Some o)
held_by d o h = by d.label.asked h
  where
    by : (a : Bool) → cond a None (holds d.value) ≡ Some o → ((a || is_plain d.value) ≡ false) × (holds d.value ≡ Some o)
    by true k = cc
    by false k = (ap (λ o. not (is_some o)) k, k)
