-- Chains, and the cycle that a path closes.
use Rattle.std.proofs.Common.{◌≡◌, ℕ, ◌+◌, ◌<◌, ◌≤◌, Bool, true, false, cond, not, ◌==◌, List, [], ◌∷◌, ◌++◌, inl, inr, length, drop, refl, sym, subst, arith, append_assoc}
use Rattle.std.proofs.Math.Numerals.{one-add}
use Rattle.std.proofs.lemmas.Bool.Decides.{nat_tests}
use Rattle.std.proofs.lemmas.List.{append-nil}
use Rattle.std.specs.List.{position_or_len}
use Rattle.cs_graph.specs.Chains.{On, Distinct, Chain, IsClosed, IsCycle, NoCycle, IsHeight}
use Rattle.cs_graph.specs.Paths.{Links, tail_from, IsTurned}
use Rattle.cs_graph.proofs.Places.{distinct_turned}

module _ {X : Type 0} (R : X → X → Type 0) where
  pub chain_front : (x : X) (xs ys : List X) → Chain R x (xs ++ ys) → Chain R x xs
  chain_front x [] ys c = tt
  chain_front x (y ∷ xs) ys c = (c.0, chain_front y xs ys c.1)

  -- the chain up to y, and the one from y on
  pub chain_upto : (x y : X) (xs ys : List X) → Chain R x (xs ++ y ∷ ys) → Chain R x (xs ++ y ∷ [])
  chain_upto x y [] ys c = (c.0, tt)
  chain_upto x y (z ∷ xs) ys c = (c.0, chain_upto z y xs ys c.1)

  pub chain_after : (x y : X) (xs ys : List X) → Chain R x (xs ++ y ∷ ys) → Chain R y ys
  chain_after x y [] ys c = c.1
  chain_after x y (z ∷ xs) ys c = chain_after z y xs ys c.1

  pub chain_join : (x y : X) (xs ys : List X) → Chain R x (xs ++ y ∷ []) → Chain R y ys → Chain R x (xs ++ y ∷ ys)
  chain_join x y [] ys c d = (c.0, d)
  chain_join x y (z ∷ xs) ys c d = (c.0, chain_join z y xs ys c.1 d)

  -- a cycle may be told from any of its members on
  pub cycle_turned : (front back : List X) → IsCycle R (front ++ back) → IsCycle R (back ++ front)
  cycle_turned [] back c = subst (IsCycle R) (sym (append-nil back)) c
  cycle_turned (x ∷ xs) [] c = subst (IsCycle R) (append-nil (x ∷ xs)) c
  cycle_turned (x ∷ xs) (y ∷ ys) c =
      let whole : Chain R x (xs ++ y ∷ (ys ++ x ∷ [])) = subst (Chain R x) (append_assoc xs (y ∷ ys) (x ∷ [])) c.0 in
      let there = chain_upto x y xs (ys ++ x ∷ []) whole in
      let back = chain_after x y xs (ys ++ x ∷ []) whole in
      (subst (Chain R y) (sym (append_assoc ys (x ∷ xs) (y ∷ []))) (chain_join y x ys (xs ++ y ∷ []) back there), distinct_turned (x ∷ xs) (y ∷ ys) c.1)

pub turned : (R : ℕ → ℕ → Type 0) (old new : List ℕ) → IsTurned old new → IsCycle R old → IsCycle R new
turned R old new t c = subst (IsCycle R) (sym t.after) (cycle_turned R t.front t.back (subst (IsCycle R) t.before c))

module _ {X : Type 0} (R : X → X → Type 0) where
  pub chain_push : (x y z : X) (xs : List X) → Chain R x (xs ++ y ∷ []) → R y z → Chain R x ((xs ++ y ∷ []) ++ z ∷ [])
  chain_push x y z [] c r = (c.0, (r, tt))
  chain_push x y z (w ∷ xs) c r = (c.0, chain_push w y z xs c.1 r)

  pub links_push : (y z : X) (xs : List X) → Links R (xs ++ y ∷ []) → R y z → Links R ((xs ++ y ∷ []) ++ z ∷ [])
  links_push y z [] l r = (r, tt)
  links_push y z (x ∷ xs) l r = chain_push x y z xs l r

  pub links_front : (xs ys : List X) → Links R (xs ++ ys) → Links R xs
  links_front [] ys l = tt
  links_front (x ∷ xs) ys l = chain_front R x xs ys l

  pub links_behind : (x y : X) (xs : List X) → Chain R x (xs ++ y ∷ []) → Links R (xs ++ y ∷ [])
  links_behind x y [] c = tt
  links_behind x y (z ∷ xs) c = c.1

-- a number on the path that the path's last refers to closes a cycle
pub closes : (R : ℕ → ℕ → Type 0) (x : ℕ) (P : List ℕ) → Links R (P ++ x ∷ []) → On x P → Distinct P → IsCycle R (tail_from x P)
closes R x [] l o d = absurd o
closes R x (p ∷ ps) l o d = by (p == x) refl (λ o'. closes R x ps (links_behind R p x ps l) o' d.1)
  where
    by : (b : Bool) → (p == x) ≡ b → (On x ps → IsCycle R (tail_from x ps)) → IsCycle R (drop (cond (not b) (1 + position_or_len (λ m. m == x) ps) 0) (p ∷ ps))
    by true e next = let same : x ≡ p = grind (arith, nat_tests) in let Q : ℕ → Type 0 = λ y. Chain R p (ps ++ y ∷ []) in (subst Q same l, d)
    by false e next = rw one-add (elim o [ inl a ↦ absurd (grind (arith, nat_tests)) | inr b ↦ next b ])

module _ {X : Type 0} (R : X → X → Type 0) (rank : X → ℕ) (falls : (x y : X) → R x y → rank y < rank x) where
  rank_below : (x y : X) (xs : List X) → Chain R x (xs ++ y ∷ []) → rank y < rank x
  rank_below x y [] c = falls x y c.0
  rank_below x y (z ∷ xs) c = let a = falls x z c.0 in let b = rank_below z y xs c.1 in omega (arith, a, b)

  pub chain_short : (x : X) (xs : List X) → Chain R x xs → length xs ≤ rank x
  chain_short x [] c = omega arith
  chain_short x (y ∷ xs) c = let a = falls x y c.0 in let b = chain_short y xs c.1 in omega (arith, a, b)

  -- ranks that fall along references exclude a cycle
  pub no_cycle : NoCycle R
  no_cycle x xs c = let h = rank_below x x xs c in omega (arith, h)

-- where there is no cycle, no list is a closed chain
pub none_closed : {X : Type 0} (R : X → X → Type 0) → NoCycle R → (xs : List X) → IsClosed R xs → ⊥
none_closed R none [] c = c
none_closed R none (x ∷ xs) c = none x xs c

-- what refers to another is higher
pub height_falls : {X : Type 0} (R : X → X → Type 0) (x y : X) (h k : ℕ) → IsHeight R x h → R x y → IsHeight R y k → k < h
height_falls R x y h k high refers low =
    let longer = high.longest (y ∷ low.steps) (refers, low.chain) in
    omega (arith, longer, low.long)
