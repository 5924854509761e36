-- Numbers of JSON that are integers.
use Rattle.std.proofs.Common.{◌≡◌, ◌<◌, ◌^◌, ℤ, true, false, Option, Some, None, IfSome, option_and_then, FitsSigned, w64, refl, sym, ap, arith, lt-ltb}
use Rattle.std.specs.Option.{SomeIff}
use Rattle.std.proofs.lemmas.Bool.Decides.{nat_tests}
use Rattle.fast_float.specs.Text.{Parts, digits_of, with_sign, IsInteger}
use Rattle.serde_json.specs.Data.{Num}
use Rattle.serde_json.specs.Find.{as_i64}
use Rattle.serde_json.specs.Read.{number_from, is_integer}

is_integer-from : (p : Parts) → IsInteger p → is_integer p ≡ true
is_integer-from p h = grind (arith, nat_tests)

-- a numeral with no sign
pub as_i64-from_digits : (p : Parts) (o : Option ℤ) → SomeIff o (IsInteger p × FitsSigned w64 (with_sign false (digits_of p))) (with_sign false (digits_of p))
    → IfSome o (λ z. option_and_then as_i64 (number_from false p) ≡ Some z)
as_i64-from_digits p None h = tt
as_i64-from_digits p (Some z) h =
    let fits : digits_of p < 2 ^ 63 = omega (arith, h.0.1) in
    let less : digits_of p < 2 ^ 64 = omega arith in
    rw (is_integer-from p h.0.0, lt-ltb _ _ less) (rw (lt-ltb _ _ fits) (ap Some (sym h.1)))

-- the number that was read
pub number_in : (o : Option Num) (z : ℤ) → option_and_then as_i64 o ≡ Some z → (n : Num) × (o ≡ Some n) × (as_i64 n ≡ Some z)
number_in None z e = absurd (cc)
number_in (Some n) z e = (n, refl, e)
