-- The walk over what is reachable: definitions in the order in which they were found.
use Rattle.std.proofs.Common.{◌≡◌, ℕ, zero, suc, ◌+◌, ◌<◌, ◌≤◌, Bool, List, [], ◌∷◌, ◌++◌, inl, inr, map, length, Some, slice_get, get_or, take, refl, sym, ap, ◌∙◌, subst, arith, add-one}
use Rattle.std.specs.List.{IsDistinct, All}
use Rattle.std.specs.Str.{bytes_eq}
use Rattle.std.proofs.lemmas.List.{map-append, take_all, length-append}
use Rattle.std.proofs.lemmas.Option.{slice_get_within}
use Rattle.cs_package.specs.Environment.{Environment, declared_names}
use Rattle.cs_graph.specs.Chains.{On, Chain}
use Rattle.cs_graph.proofs.Places.{on_left, on_split, on_cases, on_get}
use Rattle.cs_guard.specs.Numbered.{name_of}
use Rattle.cs_guard.specs.Reachable.{referred_of, RefersTo, last_of, Reaches, AreReachable}
use Rattle.cs_guard.specs.Found.{Marked, Added}
use Rattle.cs_guard.specs.declared.references.Followed.TheVariants.{Every}
use Rattle.cs_graph.proofs.Named.{on_map, map_on}
use Rattle.cs_guard.proofs.Numbers.{on_contains, contains_on, distinct_by_name}
use Rattle.cs_guard.proofs.Takes.{taken_every}
use Rattle.cs_guard.proofs.GraphRows.{IsRow}

-- ---- chains of references

module _ (E : Environment) where
  chain_on : (n : List ℕ) (ns : List (List ℕ)) (k : List ℕ) → Chain (RefersTo E) n ns → RefersTo E (last_of n ns) k → Chain (RefersTo E) n (ns ++ k ∷ [])
  chain_on n [] k c r = (r, tt)
  chain_on n (m ∷ ns) k c r = (c.0, chain_on m ns k c.1 r)

  last_on : (n : List ℕ) (ns : List (List ℕ)) (k : List ℕ) → last_of n (ns ++ k ∷ []) ≡ k
  last_on n [] k = refl
  last_on n (m ∷ ns) k = last_on m ns k

  pub reaches_more : (n m k : List ℕ) → Reaches E n m → RefersTo E m k → Reaches E n k
  reaches_more n m k r to = record {
    steps = r.steps ++ k ∷ [];
    chain = chain_on n r.steps k r.chain (subst (λ x. RefersTo E x k) (sym r.last) to);
    last = last_on n r.steps k;
  }

  -- what holds of n and is kept by references holds of all that n reaches
  pub reaches_within : (P : List ℕ → Type 0) → ((n m : List ℕ) → P n → RefersTo E n m → P m) → (n : List ℕ) (ns : List (List ℕ)) → P n → Chain (RefersTo E) n ns → P (last_of n ns)
  reaches_within P step n [] h c = h
  reaches_within P step n (m ∷ ns) h c = reaches_within P step m ns (step n m h c.0) c.1

-- ---- the walk

-- what is found is reachable, and what the first of it refer to is found
pub record Walking (E : Environment) (root : ℕ) (seen : List Bool) (order : List ℕ) (next : ℕ) : Type 0 where
  pub long : length seen ≡ length E
  pub marked : Marked seen order
  pub first : slice_get order 0 ≡ Some root
  pub most : next ≤ length order
  pub reached : (i : ℕ) → On i order → Reaches E (name_of E root) (name_of E i)
  pub closed : (i : ℕ) → On i (take next order) → (m : List ℕ) → RefersTo E (name_of E i) m → On m (map (name_of E) order)

take_next : (xs ys : List ℕ) (k x : ℕ) → k < length xs → x ≡ get_or xs k x → take (suc k) (xs ++ ys) ≡ take k xs ++ x ∷ []
take_next [] ys k x l e = absurd (omega arith)
take_next (y ∷ xs) ys zero x l e = ap (λ z. z ∷ []) (sym e)
take_next (y ∷ xs) ys (suc k) x l e = ap (λ zs. y ∷ zs) (take_next xs ys k x (omega arith) e)

first_kept : (xs ys : List ℕ) (x : ℕ) → slice_get xs 0 ≡ Some x → slice_get (xs ++ ys) 0 ≡ Some x
first_kept [] ys x e = cc
first_kept (y ∷ xs) ys x e = e

module _ (E : Environment) (root : ℕ) where
  -- the root alone
  pub begun : (none seen : List Bool) (order : List ℕ) → length none ≡ length E → Added (root ∷ []) none [] seen order → Walking E root seen order 0
  begun none seen order long a = record {
    long = a.long ∙ long;
    marked = a.marked;
    first = root_first a.more a.behind;
    most = omega arith;
    reached = λ i o. elim (a.only i (subst (On i) a.behind o)) [
      | inl e ↦ record { steps = []; chain = tt; last = ap (name_of E) (sym e) }
      | inr o' ↦ absurd o'
    ];
    closed = λ i o. absurd o;
  }
    where
      root_first : (more : List ℕ) → order ≡ more → slice_get order 0 ≡ Some root
      root_first [] e = absurd (subst (On root) e (a.each root (inl refl)))
      root_first (x ∷ more) e = let o : On x (x ∷ more) = inl refl in elim (a.only x (subst (On x) (sym e ∙ a.behind) o)) [ inl same ↦ ap (λ xs. slice_get xs 0) e ∙ ap Some same | inr o ↦ absurd o ]

  inside : (seen : List Bool) (order : List ℕ) (next : ℕ) → Walking E root seen order next → (i : ℕ) → On i order → i < length E
  inside seen order next w i o = let l = slice_get_within seen i _ (w.marked.on i o) in omega (arith, l, w.long)

  pub at_next : (seen : List Bool) (order : List ℕ) (next : ℕ) → Walking E root seen order next → (i : ℕ) → next < length order → i ≡ get_or order next i → i < length E
  at_next seen order next w i l at = inside seen order next w i (subst (λ x. On x order) (sym at) (on_get order next i l))

  -- what one more refers to is found
  pub gone_on : (seen new : List Bool) (order longer row : List ℕ) (next i : ℕ) → Walking E root seen order next → next < length order → i ≡ get_or order next i → IsRow Every E i row → Added row seen order new longer → Walking E root new longer (next + 1)
  gone_on seen new order longer row next i w l at is a = record {
    long = a.long ∙ w.long;
    marked = a.marked;
    first = ap (λ xs. slice_get xs 0) a.behind ∙ first_kept order a.more root w.first;
    most = omega (arith, l, ap length a.behind, length-append order a.more);
    reached = λ j o. elim (on_split j order a.more (subst (On j) a.behind o)) [
      | inl old ↦ w.reached j old
      | inr more ↦ reaches_more E (name_of E root) (name_of E i) (name_of E j) (w.reached i here) (on_contains (name_of E j) (referred_of E (name_of E i)) (subst (On (name_of E j)) names (on_map (name_of E) j row (a.only j more))))
    ];
    closed = λ j o m r. elim (on_cases j i (take next order) (subst (On j) split o)) [
      | inl before ↦ kept m (w.closed j before m r)
      | inr same ↦ found m (subst (λ k. RefersTo E (name_of E k) m) same r)
    ];
  }
    where
      names : map (name_of E) row ≡ referred_of E (name_of E i)
      names = is.names ∙ taken_every E (name_of E i)

      split : take (next + 1) longer ≡ take next order ++ i ∷ []
      split = ap (take (next + 1)) a.behind ∙ rw add-one (take_next order a.more next i l at)

      here : On i order
      here = subst (λ x. On x order) (sym at) (on_get order next i l)

      kept : (m : List ℕ) → On m (map (name_of E) order) → On m (map (name_of E) longer)
      kept m o = subst (On m) (sym (ap (map (name_of E)) a.behind ∙ map-append (name_of E) order a.more)) (on_left m (map (name_of E) order) (map (name_of E) a.more) o)

      found : (m : List ℕ) → RefersTo E (name_of E i) m → On m (map (name_of E) longer)
      found m r =
          let o = map_on (name_of E) m row (subst (On m) (sym names) (contains_on m (referred_of E (name_of E i)) r)) in
          subst (λ x. On x (map (name_of E) longer)) o.2 (on_map (name_of E) o.0 longer (a.each o.0 o.1))

  -- each that is found is a definition
  pub all_inside : (seen : List Bool) (order : List ℕ) (next : ℕ) → Walking E root seen order next → All (λ i. i < length E) order
  all_inside seen order next w k d l = inside seen order next w (get_or order k d) (on_get order k d l)

  -- where all are passed, exactly what is reachable is found
  pub walked : (seen : List Bool) (order : List ℕ) (next : ℕ) → IsDistinct bytes_eq (declared_names E) → Walking E root seen order next → length order ≤ next → AreReachable E (name_of E root) (map (name_of E) order)
  walked seen order next once w l = record {
    each = λ m. (
      (λ c. let o = map_on (name_of E) m order (contains_on m (map (name_of E) order) c) in subst (Reaches E (name_of E root)) o.2 (w.reached o.0 o.1)),
      λ r. on_contains m (map (name_of E) order) (subst (λ x. On x (map (name_of E) order)) r.last (reaches_within E (λ x. On x (map (name_of E) order)) step (name_of E root) r.steps root_found r.chain)),
    );
    distinct = distinct_by_name E once order (inside seen order next w) w.marked.distinct;
    first = first_name order w.first;
  }
    where
      first_name : (xs : List ℕ) → slice_get xs 0 ≡ Some root → slice_get (map (name_of E) xs) 0 ≡ Some (name_of E root)
      first_name [] e = cc
      first_name (x ∷ xs) e = let same : x ≡ root = cc in ap (λ y. Some (name_of E y)) same

      first_on : (xs : List ℕ) → slice_get xs 0 ≡ Some root → On root xs
      first_on [] e = cc
      first_on (x ∷ xs) e = inl (let same : x ≡ root = cc in sym same)

      root_found : On (name_of E root) (map (name_of E) order)
      root_found = on_map (name_of E) root order (first_on order w.first)

      step : (n m : List ℕ) → On n (map (name_of E) order) → RefersTo E n m → On m (map (name_of E) order)
      step n m o r =
          let x = map_on (name_of E) n order o in
          w.closed x.0 (subst (On x.0) (sym (take_all next order l)) x.1) m (subst (λ k. RefersTo E k m) (sym x.2) r)
