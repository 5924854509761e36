-- What is told once.
use Rattle.std.proofs.Common.{◌≡◌, ◌⊎◌, inl, inr, ⊎_elim, ℕ, zero, suc, ◌+◌, ◌≤◌, Bool, true, false, List, [], ◌∷◌, ◌++◌, Some, length, refl, arith}
use Rattle.std.specs.Prelude.{slice_get}
use Rattle.cs_validity_reasons.specs.CauseLists.{each_from, unless}
use Rattle.cs_validity_reasons.specs.Led.{PlacedCause}

abbrev pub AreOnce : List PlacedCause → Type 0
AreOnce cs = (j k : ℕ) (c : PlacedCause) → slice_get cs j ≡ Some c → slice_get cs k ≡ Some c → j ≡ k

-- in front, or behind
abbrev IsGot : List PlacedCause → List PlacedCause → ℕ → PlacedCause → Type 0
IsGot cs ds j c = (slice_get cs j ≡ Some c) ⊎ ((m : ℕ) × (j ≡ length cs + m) × (slice_get ds m ≡ Some c))

got_both : (cs ds : List PlacedCause) (j : ℕ) (c : PlacedCause) → slice_get (cs ++ ds) j ≡ Some c → IsGot cs ds j c
got_both [] ds j c e = inr (j, omega arith, e)
got_both (a ∷ cs) ds zero c e = inl e
got_both (a ∷ cs) ds (suc j) c e =
    ⊎_elim (λ (h : slice_get cs j ≡ Some c). inl h)
    (λ (h : (m : ℕ) × (j ≡ length cs + m) × (slice_get ds m ≡ Some c)). let l = h.1 in inr (h.0, omega (arith, l), h.2))
    (got_both cs ds j c e)

pub once_both : (cs ds : List PlacedCause) → AreOnce cs → AreOnce ds → ((j m : ℕ) (c : PlacedCause) → slice_get cs j ≡ Some c → slice_get ds m ≡ Some c → ⊥) → AreOnce (cs ++ ds)
once_both cs ds a b apart j k c h l =
    ⊎_elim
    (λ (x : slice_get cs j ≡ Some c).
    ⊎_elim (λ (y : slice_get cs k ≡ Some c). a j k c x y) (λ (y : (m : ℕ) × (k ≡ length cs + m) × (slice_get ds m ≡ Some c)). absurd (apart j y.0 c x y.2)) (got_both cs ds k c l))
    (λ (x : (m : ℕ) × (j ≡ length cs + m) × (slice_get ds m ≡ Some c)).
    ⊎_elim (λ (y : slice_get cs k ≡ Some c). absurd (apart k x.0 c y x.2))
    (λ (y : (m : ℕ) × (k ≡ length cs + m) × (slice_get ds m ≡ Some c)). let same = b x.0 y.0 c x.2 y.2 in let p = x.1 in let q = y.1 in omega (arith, same, p, q)) (got_both cs ds k c l))
    (got_both cs ds j c h)

pub once_unless : (b : Bool) (c : PlacedCause) → AreOnce (unless b c)
once_unless true c j k d h l = cc
once_unless false c zero zero d h l = refl
once_unless false c zero (suc k) d h l = cc
once_unless false c (suc j) k d h l = cc

-- where each tells its place
module _ {X : Type 0} (g : ℕ → X → List PlacedCause) (place : PlacedCause → ℕ) (once : (n : ℕ) (x : X) → AreOnce (g n x)) (tells : (n : ℕ) (x : X) (j : ℕ) (c : PlacedCause) → slice_get (g n x) j ≡ Some c → place c ≡ n) where
  from_place : (n : ℕ) (xs : List X) (j : ℕ) (c : PlacedCause) → slice_get (each_from g n xs) j ≡ Some c → n ≤ place c
  from_place n [] j c e = cc
  from_place n (x ∷ xs) j c e =
      ⊎_elim (λ (h : slice_get (g n x) j ≡ Some c). let p = tells n x j c h in omega (arith, p))
      (λ (h : (m : ℕ) × (j ≡ length (g n x) + m) × (slice_get (each_from g (suc n) xs) m ≡ Some c)). let p = from_place (suc n) xs h.0 c h.2 in omega (arith, p))
      (got_both (g n x) (each_from g (suc n) xs) j c e)

  pub once_each : (n : ℕ) (xs : List X) → AreOnce (each_from g n xs)
  once_each n [] = λ j k c h l. let no : slice_get [] j ≡ Some c = h in cc
  once_each n (x ∷ xs) =
      once_both (g n x) (each_from g (suc n) xs) (once n x) (once_each (suc n) xs)
      (λ j m c a b. let p = tells n x j c a in let q = from_place (suc n) xs m c b in absurd (omega (arith, p, q)))
