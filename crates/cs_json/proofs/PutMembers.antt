-- Members that are put into a map one after another: where their keys differ, the map has them in the order of their keys.
use Rattle.std.proofs.Common.{◌≡◌, ℕ, List, [], ◌∷◌, ◌⊎◌, inl, inr, Ordering, Less, Equal, Greater, nat_cmp, refl, sym, ap, ap₂, ◌∙◌, subst}
use Rattle.std.specs.Cmp.Lexicographic.{slice_cmp}
use Rattle.std.specs.List.{AllByRecursion as Each}
use Rattle.std.specs.List.Sorted.{IsPermutation}
use Rattle.std.specs.Ordering.{is_eq, match_ordering, ordering_reverse}
use Rattle.std.proofs.lemmas.Cmp.{nat_list_cmp_total}
use Rattle.std.proofs.lemmas.List.Elements.{All-from_recursion, recursion_from_All}
use Rattle.std.proofs.lemmas.List.Sorted.{All-permutation, IsPermutation-sym}
use Rattle.std.proofs.lemmas.Map.Text.{is_eq-slice_cmp}
use Rattle.std.proofs.lemmas.Slice.Eq.{bytes_eq-Decides}
use Rattle.cs_document.specs.Document.{Document, Members, no_members, member, Entry, entries, put}
use Rattle.cs_document.specs.Inside.{KeysAscend}
use Rattle.cs_document.proofs.Each.{each_map}
use Rattle.cs_flat.specs.Listed.{members_of}
use Rattle.cs_flat.proofs.Listed.{members_of-entries}
use Rattle.cs_json.specs.Listings.{put_all}

-- ---- what a list has

abbrev Among : {A : Type 0} → List A → A → Type 0
Among [] x = ⊥
Among (y ∷ ys) x = (y ≡ x) ⊎ Among ys x

module _ {A : Type 0} where
  told : (P : A → Type 0) (xs : List A) (x : A) → Each P xs → Among xs x → P x
  told P [] x h m = absurd m
  told P (y ∷ ys) x h (inl e) = subst P e h.0
  told P (y ∷ ys) x h (inr m) = told P ys x h.1 m

  itself : (xs : List A) → Each (Among xs) xs
  itself [] = tt
  itself (x ∷ xs) = (inl refl, each_map (Among xs) (Among (x ∷ xs)) (λ y m. inr m) xs (itself xs))

  pub each_permuted : (P : A → Type 0) (xs ys : List A) → IsPermutation xs ys → Each P xs → Each P ys
  each_permuted P xs ys moved h = recursion_from_All P ys (All-permutation P xs ys moved (All-from_recursion P xs h))

  among_permuted : (xs ys : List A) → IsPermutation xs ys → Each (Among xs) ys
  among_permuted xs ys moved = each_permuted (Among xs) xs ys moved (itself xs)

-- ---- keys in their order

abbrev Before : List ℕ → List ℕ → Type 0
Before k l = slice_cmp nat_cmp k l ≡ Less

after : (k l : List ℕ) → slice_cmp nat_cmp k l ≡ Greater → Before l k
after k l e = nat_list_cmp_total.antisymm l k ∙ ap ordering_reverse e

not_both : (k l : List ℕ) → Before k l → Before l k → ⊥
not_both k l a b = let turned : slice_cmp nat_cmp k l ≡ Greater = nat_list_cmp_total.antisymm k l ∙ ap ordering_reverse b in cc

same_key : (k l : List ℕ) → slice_cmp nat_cmp k l ≡ Equal → k ≡ l
same_key k l e = (bytes_eq-Decides k l).0 (sym (is_eq-slice_cmp k l) ∙ ap is_eq e)

module _ {A : Type 0} where
  abbrev Below : List ℕ → Entry A → Type 0
  Below k e = Before k e.0

  -- of two entries with one key, in a list whose keys ascend
  one_of_a_key : (es : List (Entry A)) (a b : Entry A) → KeysAscend es → Among es a → Among es b → a.0 ≡ b.0 → a ≡ b
  one_of_a_key [] a b h m n same = absurd m
  one_of_a_key (e ∷ es) a b h (inl p) (inl q) same = sym p ∙ q
  one_of_a_key (e ∷ es) a b h (inl p) (inr n) same =
      let below : Before e.0 b.0 = told (Below e.0) es b h.0 n in
      let here : Before b.0 b.0 = subst (λ k. Before k b.0) (ap (λ x. x.0) p ∙ same) below in absurd (not_both b.0 b.0 here here)
  one_of_a_key (e ∷ es) a b h (inr m) (inl q) same =
      let below : Before e.0 a.0 = told (Below e.0) es a h.0 m in
      let here : Before a.0 a.0 = subst (λ k. Before k a.0) (ap (λ x. x.0) q ∙ sym same) below in absurd (not_both a.0 a.0 here here)
  one_of_a_key (e ∷ es) a b h (inr m) (inr n) same = one_of_a_key es a b h.1 m n same

  first_same : (x y : Entry A) (xs ys : List (Entry A)) → Each (Below x.0) xs → Each (Below y.0) ys → Among (y ∷ ys) x → Among (x ∷ xs) y → x ≡ y
  first_same x y xs ys h k (inl e) n = sym e
  first_same x y xs ys h k (inr m) (inl e) = e
  first_same x y xs ys h k (inr m) (inr n) = absurd (not_both x.0 y.0 (told (Below x.0) xs y h n) (told (Below y.0) ys x k m))

  outside : (x e : Entry A) (zs : List (Entry A)) → Below x.0 e → Among (x ∷ zs) e → Among zs e
  outside x e zs h (inl p) = let here : Before e.0 e.0 = subst (λ k. Before k e.0) (ap (λ y. y.0) p) h in absurd (not_both e.0 e.0 here here)
  outside x e zs h (inr m) = m

  others : (x : Entry A) (xs zs : List (Entry A)) → Each (Below x.0) xs → Each (Among (x ∷ zs)) xs → Each (Among zs) xs
  others x [] zs h m = tt
  others x (e ∷ xs) zs h m = (outside x e zs h.0 m.0, others x xs zs h.1 m.1)

  -- two lists of the same entries, both in order, are one
  one_order : (xs ys : List (Entry A)) → KeysAscend xs → KeysAscend ys → Each (Among ys) xs → Each (Among xs) ys → xs ≡ ys
  one_order [] [] h k m n = refl
  one_order [] (y ∷ ys) h k m n = absurd n.0
  one_order (x ∷ xs) [] h k m n = absurd m.0
  one_order (x ∷ xs) (y ∷ ys) h k m n =
      let same : x ≡ y = first_same x y xs ys h.0 k.0 m.0 n.0 in
      let behind : Each (Below x.0) ys = subst (λ (e : Entry A). Each (Below e.0) ys) (sym same) k.0 in
      let more : Each (Among (x ∷ ys)) xs = subst (λ e. Each (Among (e ∷ ys)) xs) (sym same) m.1 in
      ap₂ ◌∷◌ same (one_order xs ys h.1 k.1 (others x xs ys h.0 more) (others x ys xs behind n.1))

-- ---- what a map has after members were put into it

put_each : (P : Entry Document → Type 0) (k : List ℕ) (d : Document) (ms : Members) → P (k, d) → Each P (entries ms) → Each P (entries (put k d ms))
put_each P k d no_members p h = (p, tt)
put_each P k d (member l e ms) p h = by_order (put_each P k d ms p h.1) (slice_cmp nat_cmp k l) refl
  where
    by_order : Each P (entries (put k d ms)) → (o : Ordering) → slice_cmp nat_cmp k l ≡ o → Each P (entries (match_ordering o (member k d (member l e ms)) (member l d ms) (member l e (put k d ms))))
    by_order more Less c = (p, h)
    by_order more Equal c = (subst (λ j. P (j, d)) (same_key k l c) p, h.1)
    by_order more Greater c = (h.0, more)

pub put_all_each : (P : Entry Document → Type 0) (ms : Members) (es : List (Entry Document)) → Each P (entries ms) → Each P es → Each P (entries (put_all ms es))
put_all_each P ms [] h k = h
put_all_each P ms (e ∷ es) h k = put_all_each P (put e.0 e.1 ms) es (put_each P e.0 e.1 ms k.0 h) k.1

put_ascends : (k : List ℕ) (d : Document) (ms : Members) → KeysAscend (entries ms) → KeysAscend (entries (put k d ms))
put_ascends k d no_members h = (tt, tt)
put_ascends k d (member l e ms) h = by_order (put_ascends k d ms h.1) (slice_cmp nat_cmp k l) refl
  where
    by_order : KeysAscend (entries (put k d ms)) → (o : Ordering) → slice_cmp nat_cmp k l ≡ o → KeysAscend (entries (match_ordering o (member k d (member l e ms)) (member l d ms) (member l e (put k d ms))))
    by_order more Less c = ((c, each_map (Below l) (Below k) (λ (m : Entry Document) b. nat_list_cmp_total.trans k l m.0 c b) (entries ms) h.0), h)
    by_order more Equal c = h
    by_order more Greater c = (put_each (Below l) k d ms (after k l c) h.0, more)

put_all_ascends : (ms : Members) (es : List (Entry Document)) → KeysAscend (entries ms) → KeysAscend (entries (put_all ms es))
put_all_ascends ms [] h = h
put_all_ascends ms (e ∷ es) h = put_all_ascends (put e.0 e.1 ms) es (put_ascends e.0 e.1 ms h)

-- some entry has the key
abbrev HasKey : List (Entry Document) → List ℕ → Type 0
HasKey [] k = ⊥
HasKey (e ∷ es) k = (e.0 ≡ k) ⊎ HasKey es k

put_has : (k : List ℕ) (d : Document) (ms : Members) → HasKey (entries (put k d ms)) k
put_has k d no_members = inl refl
put_has k d (member l e ms) = by_order (put_has k d ms) (slice_cmp nat_cmp k l) refl
  where
    by_order : HasKey (entries (put k d ms)) k → (o : Ordering) → slice_cmp nat_cmp k l ≡ o → HasKey (entries (match_ordering o (member k d (member l e ms)) (member l d ms) (member l e (put k d ms)))) k
    by_order more Less c = inl refl
    by_order more Equal c = inl (sym (same_key k l c))
    by_order more Greater c = inr more

put_keeps : (k : List ℕ) (d : Document) (ms : Members) (j : List ℕ) → HasKey (entries ms) j → HasKey (entries (put k d ms)) j
put_keeps k d no_members j h = absurd h
put_keeps k d (member l e ms) j h = by_order (put_keeps k d ms j) (slice_cmp nat_cmp k l) h
  where
    by_order : (HasKey (entries ms) j → HasKey (entries (put k d ms)) j) → (o : Ordering) → HasKey (entries (member l e ms)) j → HasKey (entries (match_ordering o (member k d (member l e ms)) (member l d ms) (member l e (put k d ms)))) j
    by_order more Less g = inr g
    by_order more Equal g = g
    by_order more Greater (inl p) = inl p
    by_order more Greater (inr m) = inr (more m)

put_all_keeps : (ms : Members) (es : List (Entry Document)) (j : List ℕ) → HasKey (entries ms) j → HasKey (entries (put_all ms es)) j
put_all_keeps ms [] j h = h
put_all_keeps ms (e ∷ es) j h = put_all_keeps (put e.0 e.1 ms) es j (put_keeps e.0 e.1 ms j h)

put_all_has : (ms : Members) (es : List (Entry Document)) (x : Entry Document) → Among es x → HasKey (entries (put_all ms es)) x.0
put_all_has ms [] x m = absurd m
put_all_has ms (e ∷ es) x (inl p) = put_all_keeps (put e.0 e.1 ms) es x.0 (subst (HasKey (entries (put e.0 e.1 ms))) (ap (λ y. y.0) p) (put_has e.0 e.1 ms))
put_all_has ms (e ∷ es) x (inr m) = put_all_has (put e.0 e.1 ms) es x m

-- the entry of a key, where the entries are among others with one of each key
by_key : (es zs : List (Entry Document)) (x : Entry Document) → KeysAscend zs → Among zs x → Each (Among zs) es → HasKey es x.0 → Among es x
by_key [] zs x up m h n = absurd n
by_key (e ∷ es) zs x up m h (inl p) = inl (one_of_a_key zs e x up h.0 m p)
by_key (e ∷ es) zs x up m h (inr n) = inr (by_key es zs x up m h.1 n)

each_among : (es zs : List (Entry Document)) (xs : List (Entry Document)) → KeysAscend zs → Each (Among zs) es → Each (Among zs) xs → Each (λ (x : Entry Document). HasKey es x.0) xs → Each (Among es) xs
each_among es zs [] up h m n = tt
each_among es zs (x ∷ xs) up h m n = (by_key es zs x up m.0 h n.0, each_among es zs xs up h m.1 n.1)

each_key : (ms : Members) (es : List (Entry Document)) (xs : List (Entry Document)) → Each (Among es) xs → Each (λ (x : Entry Document). HasKey (entries (put_all ms es)) x.0) xs
each_key ms es [] m = tt
each_key ms es (x ∷ xs) m = (put_all_has ms es x m.0, each_key ms es xs m.1)

-- ---- entries in any order are put into the map that has them in the order of their keys

pub put_all-sorted : (es zs : List (Entry Document)) → IsPermutation es zs → KeysAscend zs → put_all no_members es ≡ members_of zs
put_all-sorted es zs moved up =
    let made = entries (put_all no_members es) in
    let from : Each (Among zs) made = put_all_each (Among zs) no_members es tt (among_permuted zs es (IsPermutation-sym es zs moved)) in
    let all : Each (Among made) zs = each_among made zs zs up from (itself zs) (each_key no_members es zs (among_permuted es zs moved)) in
    sym (members_of-entries (put_all no_members es)) ∙ ap members_of (one_order made zs (put_all_ascends no_members es tt) up from all)
