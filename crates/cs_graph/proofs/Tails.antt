-- The rest of a list from a number on, where one more number is put behind the list.
use Rattle.std.proofs.Common.{◌≡◌, ℕ, Bool, true, false, cond, ◌==◌, List, [], ◌∷◌, ◌++◌, refl}
use Rattle.std.proofs.Math.Numerals.{one-add}
use Rattle.std.specs.List.{position_or_len}
use Rattle.cs_graph.specs.Paths.{tail_from, told}

-- the rest from n on of a list that begins with y
step : (n y : ℕ) (ys : List ℕ) (b : Bool) → (y == n) ≡ b → tail_from n (y ∷ ys) ≡ cond b (y ∷ ys) (tail_from n ys)
step n y ys true e = rw e refl
step n y ys false e = rw (e, one-add (position_or_len (λ m. m == n) ys)) refl

pub tail_told : (n x : ℕ) (xs : List ℕ) → tail_from n (xs ++ x ∷ []) ≡ told n (tail_from n xs) x
tail_told n x [] = by (x == n) refl
  where
    by : (b : Bool) → (x == n) ≡ b → tail_from n (x ∷ []) ≡ told n [] x
    by true e = rw e refl
    by false e = rw e refl
tail_told n x (y ∷ ys) = by (y == n) refl (tail_told n x ys)
  where
    by : (b : Bool) → (y == n) ≡ b → tail_from n (ys ++ x ∷ []) ≡ told n (tail_from n ys) x → tail_from n (y ∷ (ys ++ x ∷ [])) ≡ told n (tail_from n (y ∷ ys)) x
    by true e h = rw (step n y (ys ++ x ∷ []) true e, step n y ys true e) refl
    by false e h = rw (step n y (ys ++ x ∷ []) false e, step n y ys false e) h
