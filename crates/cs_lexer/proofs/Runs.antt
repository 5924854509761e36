-- The longest front of a list whose items all pass a test.
use Rattle.std.proofs.Common.{◌≡◌, ℕ, zero, suc, ◌+◌, ◌<◌, ◌≤◌, List, [], ◌∷◌, length, take, get_or, Bool, true, false, cond, refl, arith}
use Rattle.std.proofs.Math.Numerals.{one-add}
use Rattle.std.proofs.lemmas.Bool.{and_parts}
use Rattle.std.specs.List.{list_all, prefix_len}

module _ (p : ℕ → Bool) where
  all_step : (x : ℕ) (xs : List ℕ) (b : Bool) → p x ≡ b → list_all p (take (prefix_len p xs) xs) ≡ true → list_all p (take (cond b (1 + prefix_len p xs) 0) (x ∷ xs)) ≡ true
  all_step x xs true e ih = rw (one-add, e) ih
  all_step x xs false e ih = refl

  -- all of it pass
  pub all_prefix : (xs : List ℕ) → list_all p (take (prefix_len p xs) xs) ≡ true
  all_prefix [] = refl
  all_prefix (x ∷ xs) = all_step x xs (p x) refl (all_prefix xs)

  past_step : (x m : ℕ) (xs : List ℕ) (b : Bool) → p x ≡ b → (prefix_len p xs < m → list_all p (take m xs) ≡ false) → cond b (1 + prefix_len p xs) 0 < suc m → list_all p (take (suc m) (x ∷ xs)) ≡ false
  past_step x m xs true e ih lt = rw e (ih (omega arith))
  past_step x m xs false e ih lt = rw e refl

  -- not all of a longer front
  pub past_prefix : (xs : List ℕ) (m : ℕ) → prefix_len p xs < m → m ≤ length xs → list_all p (take m xs) ≡ false
  past_prefix [] m lt le = let never : ⊥ = omega arith in absurd never
  past_prefix (x ∷ xs) zero lt le = let never : ⊥ = omega arith in absurd never
  past_prefix (x ∷ xs) (suc m) lt le = past_step x m xs (p x) refl (λ h. past_prefix xs m h (omega arith)) lt

  within_step : (n m : ℕ) (b : Bool) → n ≤ m → cond b (1 + n) 0 ≤ suc m
  within_step n m true h = omega arith
  within_step n m false h = omega arith

  pub prefix_within : (xs : List ℕ) → prefix_len p xs ≤ length xs
  prefix_within [] = omega arith
  prefix_within (x ∷ xs) = within_step (prefix_len p xs) (length xs) (p x) (prefix_within xs)

  -- where all of a front pass, so does each of it
  pub all_at : (xs : List ℕ) (n k : ℕ) → list_all p (take n xs) ≡ true → k < n → n ≤ length xs → p (get_or xs k 0) ≡ true
  all_at xs zero k h lt le = let never : ⊥ = omega arith in absurd never
  all_at [] (suc n) k h lt le = let never : ⊥ = omega arith in absurd never
  all_at (x ∷ xs) (suc n) zero h lt le = (and_parts (p x) (list_all p (take n xs)) h).0
  all_at (x ∷ xs) (suc n) (suc k) h lt le = all_at xs n k (and_parts (p x) (list_all p (take n xs)) h).1 (omega arith) (omega arith)
