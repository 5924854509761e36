-- The name of a definition without its `#`.
use Rattle.std.proofs.Common.{◌≡◌, ℕ, List, [], ◌∷◌, Bool, true, false, cond, refl, arith}
use Rattle.std.proofs.lemmas.Bool.Decides.{nat_tests}
use Rattle.std.specs.Prelude.{◌==◌, ◌≢◌}
use Rattle.cs_grammar.specs.TokenWords.{bare_name}

pub bare_already : (bs : List ℕ) → ((rest : List ℕ) → bs ≢ 35 ∷ rest) → bs ≡ bare_name bs
bare_already [] h = refl
bare_already (x ∷ xs) h = bare (x == 35) refl
  where
    bare : (b : Bool) → (x == 35) ≡ b → x ∷ xs ≡ cond b xs (x ∷ xs)
    bare true e = let is : x ≡ 35 = grind (arith, nat_tests) in absurd (h xs (rw is refl))
    bare false e = refl
