-- The places to which values lead.
use Rattle.std.proofs.Common.{◌≡◌, ℕ, Bool, true, false, List, [], ◌∷◌, Option, Some, None, is_some, cond, refl}
use Rattle.cs_defaults.specs.Checks.{place_list}
use Rattle.cs_defaults.specs.Leading.{Leading, nowhere, by_mark, to, place_of, has_default}

-- there is a place just where there is a default
pub found : (o : Option ℕ) (has : List ℕ → Bool) (l : Leading) → place_list o ≡ place_of has l → is_some o ≡ has_default has l
found None has nowhere h = refl
found (Some p) has nowhere h = cc
found None has (by_mark p) h = cc
found (Some q) has (by_mark p) h = refl
found o has (to s p) h = by o (has s) h
  where
    by : (o : Option ℕ) (b : Bool) → place_list o ≡ cond b (p ∷ []) [] → is_some o ≡ b
    by None true h = cc
    by None false h = refl
    by (Some q) true h = refl
    by (Some q) false h = cc
