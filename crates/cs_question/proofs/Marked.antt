-- Integers beside marks stand for all integers.
use Rattle.std.proofs.Common.{◌≡◌, ℕ, ℤ, pos, ◌≤ℤ◌, ◌<ℤ◌, ◌+ℤ◌, ◌-ℤ◌, int_lt, Bool, true, false, ◌⊎◌, inl, inr, List, [], ◌∷◌, ◌++◌, FitsSigned, refl, sym, ap, ap₂, ◌∙◌, subst, arith}
use Rattle.std.specs.Int.{w64}
use Rattle.std.specs.List.{list_all, AllByRecursion as Each}
use Rattle.std.proofs.lemmas.Bool.{cases_Bool}
use Rattle.std.proofs.lemmas.Int.{ints}
use Rattle.cs_document.specs.Opened.{an_integer}
use Rattle.cs_document.proofs.Each.{each_map, all_same}
use Rattle.cs_question.specs.declared.nodes.Literal.{Literal}
use Rattle.cs_question.specs.declared.nodes.Nodes.{Nodes}
use Rattle.cs_question.specs.Outlines.{may, may_all, SameSides, AreMarked, IsNoneBeside}
use Rattle.cs_question.specs.Spread.{SomeOf}

abbrev SameSide : ℤ → ℤ → ℤ → Type 0
SameSide z w k = (int_lt z k ≡ int_lt w k) × (int_lt k z ≡ int_lt k w)

abbrev IsBeside : ℤ → ℤ → Type 0
IsBeside k c = ((k -ℤ pos 1) ≤ℤ c) × (c ≤ℤ (k +ℤ pos 1))

-- an integer that is no mark, and on the same side of each mark as another one that is further away
lower : (k z c m : ℤ) → z <ℤ k → k ≤ℤ c → SameSide z c m → SameSide z (k -ℤ pos 1) m
lower k z c m l g h = (let e = h.0 in let f = h.1 in grind (arith, ints), let e = h.0 in let f = h.1 in grind (arith, ints))

upper : (k z c m : ℤ) → k <ℤ z → c ≤ℤ k → SameSide z c m → SameSide z (k +ℤ pos 1) m
upper k z c m l g h = (let e = h.0 in let f = h.1 in grind (arith, ints), let e = h.0 in let f = h.1 in grind (arith, ints))

self : (ks : List ℤ) (z : ℤ) → SameSides ks z z
self [] z = tt
self (k ∷ ks) z = ((refl, refl), self ks z)

-- one like it that is zero or beside a mark
pub record Near (ks : List ℤ) (z : ℤ) : Type 0 where
  pub c : ℤ
  pub fits : FitsSigned w64 c
  pub same : SameSides ks z c
  pub beside : (c ≡ pos 0) ⊎ SomeOf (λ k. IsBeside k c) ks

order : (a b : ℤ) → (a <ℤ b) ⊎ ((a ≡ b) ⊎ (b <ℤ a))
order a b = by (cases_Bool (int_lt a b)) (cases_Bool (int_lt b a))
  where
    by : (int_lt a b ≡ true) ⊎ (int_lt a b ≡ false) → (int_lt b a ≡ true) ⊎ (int_lt b a ≡ false) → (a <ℤ b) ⊎ ((a ≡ b) ⊎ (b <ℤ a))
    by (inl e) d = inl (grind (arith, ints))
    by (inr e) (inl f) = inr (inr (grind (arith, ints)))
    by (inr e) (inr f) = inr (inl (grind (arith, ints)))

zero_fits : FitsSigned w64 (pos 0)
zero_fits = omega (arith, ints)

pub near : (ks : List ℤ) (z : ℤ) → FitsSigned w64 z → Near ks z
near [] z f = record { c = pos 0; fits = zero_fits; same = tt; beside = inl refl }
near (k ∷ ks) z f = step (near ks z f) (order z k) (order (near ks z f).c k)
  where
    kept : (n : Near ks z) → SameSide z n.c k → Near (k ∷ ks) z
    kept n h = record { c = n.c; fits = n.fits; same = (h, n.same); beside = elim n.beside [ inl e ↦ inl e | inr b ↦ inr (inr b) ] }

    at : z ≡ k → Near (k ∷ ks) z
    at e = record { c = z; fits = f; same = self (k ∷ ks) z; beside = inr (inl (omega (arith, ints, e), omega (arith, ints, e))) }

    below : (n : Near ks z) → z <ℤ k → k ≤ℤ n.c → Near (k ∷ ks) z
    below n l g = record {
      c = k -ℤ pos 1;
      fits = let a = n.fits in omega (arith, ints);
      same = (let e = l in (grind (arith, ints), grind (arith, ints)), each_map (λ m. SameSide z n.c m) (λ m. SameSide z (k -ℤ pos 1) m) (λ m. lower k z n.c m l g) ks n.same);
      beside = inr (inl (omega (arith, ints), omega (arith, ints)));
    }

    above : (n : Near ks z) → k <ℤ z → n.c ≤ℤ k → Near (k ∷ ks) z
    above n l g = record {
      c = k +ℤ pos 1;
      fits = let a = n.fits in omega (arith, ints);
      same = (let e = l in (grind (arith, ints), grind (arith, ints)), each_map (λ m. SameSide z n.c m) (λ m. SameSide z (k +ℤ pos 1) m) (λ m. upper k z n.c m l g) ks n.same);
      beside = inr (inl (omega (arith, ints), omega (arith, ints)));
    }

    step : (n : Near ks z) → (z <ℤ k) ⊎ ((z ≡ k) ⊎ (k <ℤ z)) → (n.c <ℤ k) ⊎ ((n.c ≡ k) ⊎ (k <ℤ n.c)) → Near (k ∷ ks) z
    step n (inr (inl e)) d = at e
    step n (inl l) (inl m) = kept n (grind (arith, ints), grind (arith, ints))
    step n (inl l) (inr (inl m)) = below n l (omega (arith, ints, m))
    step n (inl l) (inr (inr m)) = below n l (omega (arith, ints, m))
    step n (inr (inr l)) (inl m) = above n l (omega (arith, ints, m))
    step n (inr (inr l)) (inr (inl m)) = above n l (omega (arith, ints, m))
    step n (inr (inr l)) (inr (inr m)) = kept n (grind (arith, ints), grind (arith, ints))

module _ (ns : Nodes) (ls : List Literal) (marks : List ℤ) (marked : AreMarked ns ls marks) where
  pub no_integer : may_all ns (an_integer (pos 0)) ls ≡ false → Each (IsNoneBeside ns ls) marks → (z : ℤ) → FitsSigned w64 z → may_all ns (an_integer z) ls ≡ false
  no_integer zero none z f = by (near marks z f)
    where
      beside : (ks : List ℤ) → Each (IsNoneBeside ns ls) ks → (c : ℤ) → FitsSigned w64 c → SomeOf (λ k. IsBeside k c) ks → may_all ns (an_integer c) ls ≡ false
      beside [] h c g b = absurd b
      beside (k ∷ ks) h c g (inl b) = h.0 c g b.0 b.1
      beside (k ∷ ks) h c g (inr b) = beside ks h.1 c g b

      by : Near marks z → may_all ns (an_integer z) ls ≡ false
      by n = all_same (may ns (an_integer z)) (may ns (an_integer n.c)) ls (marked z n.c n.same) ∙ elim n.beside [
        | inl e ↦ subst (λ c. may_all ns (an_integer c) ls ≡ false) (sym e) zero
        | inr b ↦ beside marks none n.c n.fits b
      ]
