-- Chains of causes over numbers: those that links keep, and those that reach a pair.
use Rattle.std.proofs.Common.{◌≡◌, ◌<◌, ◌≤◌, ◌+◌, ℕ, zero, suc, List, [], ◌∷◌, ◌++◌, Option, Some, None, length, refl, sym, subst, arith}
use Rattle.std.specs.Prelude.{slice_get}
use Rattle.cs_reasons.specs.Told.{pair_of, pair_at, up_of, chain_over, chain_in, chain_to}
use Rattle.cs_reasons.specs.declared.reasons.Link.{Link}
use Rattle.cs_reasons.specs.declared.reasons.Up.{Up}

not_past : {X : Type 0} (xs : List X) (k : ℕ) → slice_get xs k ≡ None → k < length xs → ⊥
not_past [] k e l = omega (arith, l)
not_past (x ∷ xs) zero e l = cc
not_past (x ∷ xs) (suc k) e l = not_past xs k e (omega (arith, l))

-- `leads j c` is the pair that a cause c of the item j leads to
module _ {C : Type 0} (leads : ℕ → C → Option (ℕ × ℕ)) (is_cause : ℕ → ℕ → C → Type 0) (i r : ℕ) where
  -- these causes lead, one after the other, from the pair i, r to another one
  pub data IsChain : List C → ℕ → ℕ → Type 0 where
    start : IsChain [] i r
    more : {cs : List C} {j q k s : ℕ} {c : C} → IsChain cs j q → is_cause j q c → leads j c ≡ Some (k, s) → IsChain (cs ++ c ∷ []) k s

  module _ (links : List (Link C)) where
    -- as `IsUnder`
    abbrev pub IsUnderBy : ℕ → ℕ × ℕ → Option (Up C) → Type 0
    IsUnderBy k p None = p ≡ (i, r)
    IsUnderBy k p (Some u) = (k < u.link) × (u.link < length links) × is_cause (pair_at links u.link).0 (pair_at links u.link).1 u.cause × (leads (pair_at links u.link).0 u.cause ≡ Some p)

    abbrev pub AreLinkedBy : Type 0
    AreLinkedBy = (k : ℕ) (l : Link C) → slice_get links k ≡ Some l → IsUnderBy k (l.item, l.rule) l.up

    module _ (linked : AreLinkedBy) where
      abbrev EndsAt : List C → ℕ × ℕ → Type 0
      EndsAt cs p = IsChain cs p.0 p.1

      -- what the fewer links behind one give
      abbrev Before : ℕ → Type 0
      Before n = (j : ℕ) → length links ≤ n + j → j < length links → EndsAt (chain_in n links j) (pair_at links j)

      chain_under : (n k : ℕ) → Before n → length links ≤ suc n + k → (p : ℕ × ℕ) (u : Option (Up C)) → IsUnderBy k p u → EndsAt (chain_over (λ j. chain_in n links j) u) p
      chain_under n k before l p None h = subst (λ q. EndsAt [] q) (sym h) start
      chain_under n k before l p (Some u) h = let b = h.0 in more (before u.link (omega (arith, l, b)) h.1) h.2 h.3

      chain_at : (n k : ℕ) → Before n → length links ≤ suc n + k → k < length links → (o : Option (Link C)) → slice_get links k ≡ o → EndsAt (chain_over (λ j. chain_in n links j) (up_of o)) (pair_of o)
      chain_at n k before l m None e = absurd (not_past links k e m)
      chain_at n k before l m (Some t) e = chain_under n k before l (t.item, t.rule) t.up (linked k t e)

      chain_within : (n k : ℕ) → length links ≤ n + k → k < length links → EndsAt (chain_in n links k) (pair_at links k)
      chain_within zero k l m = absurd (omega (arith, l, m))
      chain_within (suc n) k l m = chain_at n k (λ j a b. chain_within n j a b) l m (slice_get links k) refl

      -- the chain that leads to a link ends at the link's pair
      pub chain_to_link : (k : ℕ) → k < length links → EndsAt (chain_to links k) (pair_at links k)
      chain_to_link k m = chain_within (length links) k (omega arith) m
