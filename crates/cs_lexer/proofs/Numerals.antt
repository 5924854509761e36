-- The value of an integer, digit by digit.
use Rattle.std.proofs.Common.{◌≡◌, ℕ, ◌+◌, ◌*◌, ◌<◌, ◌≤◌, ◌^◌, List, [], ◌∷◌, length, drop, get_or, drop-cons, Bool, true, false, cond, ap, ◌∙◌, sym, arith}
use Rattle.std.proofs.Math.Numerals.{add-one}
use Rattle.std.proofs.Math.Nat.{le-mul_of_pos_right}
use Rattle.std.specs.Prelude.{◌==◌}
use Rattle.cs_grammar.specs.Spelling.{digit_value}
use Rattle.cs_grammar.specs.Values.{digits_after}

module _ (base : ℕ) (some : 0 < base) where
  times_grow : (n d : ℕ) → n ≤ n * base + d
  times_grow n d = omega (arith, le-mul_of_pos_right n some)

  -- more digits make no number smaller
  digits_grow : (xs : List ℕ) (n : ℕ) → n ≤ digits_after base n xs
  digits_grow [] n = omega arith
  digits_grow (x ∷ xs) n = by (x == 95) (digits_grow xs)
    where
      by : (b : Bool) → ((m : ℕ) → m ≤ digits_after base m xs) → n ≤ cond b (digits_after base n xs) (digits_after base (n * base + digit_value x) xs)
      by true again = again n
      by false again = omega (arith, again (n * base + digit_value x), times_grow n (digit_value x))

  module _ (bs : List ℕ) (i n : ℕ) (sofar : digits_after base n (drop i bs) ≡ digits_after base 0 bs) where
    at_digit : i < length bs → digits_after base n (get_or bs i 0 ∷ drop (i + 1) bs) ≡ digits_after base 0 bs
    at_digit lt = rw add-one (sym (ap (digits_after base n) (drop-cons bs i 0 lt)) ∙ sofar)

    pub next_digit : i < length bs → (get_or bs i 0 == 95) ≡ false → digits_after base (n * base + digit_value (get_or bs i 0)) (drop (i + 1) bs) ≡ digits_after base 0 bs
    next_digit lt h = rw h at (at_digit lt)

    pub sum_fits : i < length bs → (get_or bs i 0 == 95) ≡ false → digits_after base 0 bs < 2 ^ 64 → n * base + digit_value (get_or bs i 0) < 2 ^ 64
    sum_fits lt h fits = omega (arith, digits_grow (drop (i + 1) bs) (n * base + digit_value (get_or bs i 0)), next_digit lt h)

    pub product_fits : i < length bs → (get_or bs i 0 == 95) ≡ false → digits_after base 0 bs < 2 ^ 64 → n * base < 2 ^ 64
    product_fits lt h fits = omega (arith, sum_fits lt h fits)
