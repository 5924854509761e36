-- Integers in decimal, as they are printed.
use Rattle.std.proofs.Common.{◌≡◌, ℕ, zero, suc, ◌^◌, ◌<◌, ◌≤◌, ℤ, pos, negsuc, ◌⊎◌, inl, inr, List, [], ◌∷◌, ◌++◌, length, take, get_or, Bool, true, false, cond, Some, refl, ap, ◌∙◌, arith}
use Rattle.std.proofs.Math.Numerals.{one-add}
use Rattle.std.proofs.lemmas.Bool.Decides.{nat_tests}
use Rattle.std.proofs.lemmas.Bool.{and_parts}
use Rattle.std.proofs.lemmas.Fmt.{decimal_digit, decimal_nonempty, first_decimal, digits_decimal, digits_value-decimal}
use Rattle.std.proofs.lemmas.Str.Parse.{IsDigitsTest, FoldsDigits, IsNumeralModel, numerals_by_fold}
use Rattle.std.specs.Fmt.{decimal, signed_decimal}
use Rattle.std.specs.Int.{w64}
use Rattle.std.specs.Prelude.{FitsSigned, ◌==◌, ◌&&◌, ◌||◌, not}
use Rattle.std.specs.List.{list_all}
use Rattle.cs_grammar.specs.declared.token.Sort.TheVariants as sorts
use Rattle.cs_grammar.specs.declared.line.LineState.{LineState}
use Rattle.cs_grammar.specs.declared.line.LineState.TheVariants.{Plain, WantsComma, Minus}
use Rattle.cs_grammar.specs.Spelling.{is_digit, is_run_byte, begins_piece, is_separated, is_nothing, is_hex_rest, is_integer, sort_of}
use Rattle.cs_grammar.specs.Values.{digits_after, is_hexadecimal, integer_value}
use Rattle.cs_grammar.specs.Cut.{Begins, begins_bad_number, is_too_large, run}
use Rattle.cs_grammar.specs.Words as W
use Rattle.cs_grammar.specs.Words.{Words}
use Rattle.cs_grammar.specs.Spells.{SpellsNumber, positive, negative}
use Rattle.cs_lexer.proofs.ByteClasses.{digit_not_letter, digit_not_hash, digit_not_underscore, digit_not_quote, digit_not_slash, digit_runs, no_quotes_at, no_comment_at}
use Rattle.cs_print.proofs.Fronts.{is_stop, a_plain, a_stop, Follows, Front, Then, One, behind, read, token_front}
use Rattle.cs_print.proofs.Tokens.{Ends, longest, take_front, minus_front, stop_bytes, false_behind}

-- ---- the digits and their value

abbrev AreDigits : List ℕ → Type 0
AreDigits ds = list_all is_digit ds ≡ true

in_range : (c : ℕ) → is_digit c ≡ true → (48 ≤ c) × (c ≤ 57)
in_range c h = (grind (arith, nat_tests), grind (arith, nat_tests))

is_digit_in : (c : ℕ) → 48 ≤ c → c ≤ 57 → is_digit c ≡ true
is_digit_in c low high = grind (arith, nat_tests)

no_underscore : (c : ℕ) → 48 ≤ c → c ≤ 57 → (c == 95) ≡ false
no_underscore c low high = grind (arith, nat_tests)

tells : IsDigitsTest AreDigits
tells = record {
  empty = refl;
  parts = λ c cs h. let p = and_parts (is_digit c) (list_all is_digit cs) h in (in_range c p.0, p.1);
  more = λ c cs k h. rw (is_digit_in c k.0 k.1, h) refl;
}

folds : FoldsDigits (digits_after 10)
folds = record { empty = λ n. refl; more = λ n c cs k. rw (no_underscore c k.0 k.1, is_digit_in c k.0 k.1) refl }

own : IsNumeralModel AreDigits (digits_after 10 0)
own = numerals_by_fold AreDigits tells (digits_after 10) folds

-- ---- digits are an integer

-- no zero before other digits
abbrev NoZero : List ℕ → Type 0
NoZero [] = ⊥
NoZero (x ∷ xs) = ((x == 48) ≡ false) ⊎ (xs ≡ [])

digits_separated : (xs : List ℕ) → AreDigits xs → is_separated xs ≡ true
digits_separated [] h = refl
digits_separated (x ∷ xs) h = let p = and_parts (is_digit x) (list_all is_digit xs) h in rw (p.0, digits_separated xs p.1) refl

digits_integer : (xs : List ℕ) → AreDigits xs → NoZero xs → is_integer xs ≡ true
unfolding is_integer
digits_integer [] h z = absurd z
digits_integer (x ∷ xs) h (inl e) = let p = and_parts (is_digit x) (list_all is_digit xs) h in rw (e, p.0, digits_separated xs p.1) refl
digits_integer (x ∷ xs) h (inr e) = let p = and_parts (is_digit x) (list_all is_digit xs) h in rw (e, p.0) (zero_or (x == 48))
  where
    zero_or : (b : Bool) → cond b true true ≡ true
    zero_or true = refl
    zero_or false = refl

not_hexadecimal : (xs : List ℕ) → AreDigits xs → is_hexadecimal xs ≡ false
not_hexadecimal [] h = refl
not_hexadecimal (x ∷ []) h = refl
not_hexadecimal (x ∷ y ∷ ys) h =
    let p = and_parts (is_digit x) (list_all is_digit (y ∷ ys)) h in
    let q = and_parts (is_digit y) (list_all is_digit ys) p.1 in
    grind (arith, nat_tests)

-- ---- and no longer text is one

not_separated : (xs : List ℕ) (y : ℕ) (ys : List ℕ) → is_stop y ≡ true → is_separated (xs ++ y ∷ ys) ≡ false
not_separated [] y ys h = let p = stop_bytes y h in rw (p.1, p.2) refl
not_separated (x ∷ xs) y ys h = rw (not_separated xs y ys h) (false_behind (begins_piece (x ∷ xs ++ y ∷ ys)))

no_hex_rest : (y : ℕ) (ys : List ℕ) → is_stop y ≡ true → is_hex_rest (y ∷ ys) ≡ false
no_hex_rest y [] h = refl
no_hex_rest y (z ∷ zs) h = rw (stop_bytes y h).6 refl

not_longer : (x : ℕ) (xs : List ℕ) (y : ℕ) (ys : List ℕ) → AreDigits (x ∷ xs) → NoZero (x ∷ xs) → is_stop y ≡ true → is_integer (x ∷ xs ++ y ∷ ys) ≡ false
unfolding is_integer
not_longer x xs y ys h (inl e) stop = rw (e, not_separated xs y ys stop) (false_behind (is_digit x))
not_longer x xs y ys h (inr e) stop = rw e (by (x == 48))
  where
    by : (b : Bool) → cond b (is_nothing (y ∷ ys) || is_hex_rest (y ∷ ys)) (is_digit x && is_separated (y ∷ ys)) ≡ false
    by true = no_hex_rest y ys stop
    by false = rw (not_separated [] y ys stop) (false_behind (is_digit x))

digits_end : (xs : List ℕ) → AreDigits xs → NoZero xs → Ends a_stop xs
digits_end [] h z y ys stop = absurd z
digits_end (x ∷ xs) h z y ys stop =
    let d = (and_parts (is_digit x) (list_all is_digit xs) h).0 in
    rw (digit_not_letter x d, digit_not_hash x d, digit_not_underscore x d, d, not_longer x xs y ys h z stop) refl

-- ---- the run that begins there

stop_no_run : (y : ℕ) → is_stop y ≡ true → is_run_byte y ≡ false
stop_no_run y h = grind (arith, nat_tests)

digits_run : (xs rest : List ℕ) → AreDigits xs → Follows a_stop rest → run (xs ++ rest) ≡ length xs
digits_run [] [] h ok = absurd ok
digits_run [] (y ∷ ys) h ok = rw (stop_no_run y ok) refl
digits_run (x ∷ xs) rest h ok = let p = and_parts (is_digit x) (list_all is_digit xs) h in rw (digit_runs x p.0, digits_run xs rest p.1 ok, one-add) refl

number_good : (xs rest : List ℕ) → AreDigits xs → NoZero xs → Follows a_stop rest → begins_bad_number (xs ++ rest) ≡ false
number_good [] rest h z ok = absurd z
number_good (x ∷ xs) rest h z ok =
    let all : is_integer (take (run ((x ∷ xs) ++ rest)) ((x ∷ xs) ++ rest)) ≡ true = rw (digits_run (x ∷ xs) rest h ok, take_front (x ∷ xs) rest) (digits_integer (x ∷ xs) h z) in
    ap (λ g. is_digit x && not g) all ∙ false_behind (is_digit x)

sort_is : (xs : List ℕ) → AreDigits xs → NoZero xs → sort_of xs ≡ Some sorts.Integer
sort_is [] h z = absurd z
sort_is (x ∷ xs) h z =
    let d = (and_parts (is_digit x) (list_all is_digit xs) h).0 in
    rw (digit_not_letter x d, digit_not_hash x d, digit_not_underscore x d, d, digits_integer (x ∷ xs) h z) refl

digits_begin : (l : LineState) (xs rest : List ℕ) → AreDigits xs → NoZero xs → is_too_large l xs ≡ false → Follows a_stop rest → Begins l (xs ++ rest) (length xs) sorts.Integer
digits_begin l [] rest h z small ok = absurd z
digits_begin l (x ∷ xs) rest h z small ok =
    let d = (and_parts (is_digit x) (list_all is_digit xs) h).0 in
    record {
      no_bad_number = number_good (x ∷ xs) rest h z ok;
      no_quotes = no_quotes_at x (xs ++ rest) (digit_not_quote x d);
      no_comment = no_comment_at x (xs ++ rest) (digit_not_slash x d);
      in_range = rw (take_front (x ∷ xs) rest) small;
      token = longest a_stop (x ∷ xs) rest sorts.Integer (sort_is (x ∷ xs) h z) (digits_end (x ∷ xs) h z) ok;
    }

-- ---- decimals

module _ (n : ℕ) (small : n < 2 ^ 64) where
  are_digits : AreDigits (decimal n)
  are_digits = digits_decimal own n small

  value_is : integer_value (decimal n) ≡ n
  unfolding integer_value
  value_is = rw (not_hexadecimal (decimal n) are_digits) (digits_value-decimal own n small)

zero_alone : (xs : List ℕ) → xs ≡ 48 ∷ [] → NoZero xs
zero_alone [] e = absurd cc
zero_alone (x ∷ xs) e = inr cc

some_first : (xs : List ℕ) → 0 < length xs → 48 < get_or xs 0 0 → NoZero xs
some_first [] h k = let never : ⊥ = omega arith in absurd never
some_first (x ∷ xs) h k = inl (grind (arith, nat_tests))

no_zero : (n : ℕ) → n < 2 ^ 64 → NoZero (decimal n)
no_zero zero small = zero_alone (decimal 0) (decimal_digit 0 (omega arith))
no_zero (suc n) small = some_first (decimal (suc n)) (decimal_nonempty (suc n) small) (first_decimal (suc n) (omega arith) small)

decimal_front : (l : LineState) (n : ℕ) → n < 2 ^ 64 → is_too_large l (decimal n) ≡ false → Front a_stop (decimal n) l WantsComma (One (W.numeral n))
decimal_front l n small fits = token_front a_stop (decimal n) l WantsComma sorts.Integer (W.numeral n) refl (λ o. ap (λ v. W.numeral v o) (value_is n small)) (λ rest ok. digits_begin l (decimal n) rest (are_digits n small) (no_zero n small) fits ok)

-- what is before an integer is no `-`
abbrev pub IsNoMinus : LineState → Type 0
IsNoMinus Plain = Unit {0}
IsNoMinus WantsComma = Unit {0}
IsNoMinus Minus = ⊥

fits_plain : (l : LineState) → IsNoMinus l → (n : ℕ) → n < 2 ^ 63 → is_too_large l (decimal n) ≡ false
fits_plain Plain u n h = rw (value_is n (omega arith)) (grind (arith, nat_tests))
fits_plain WantsComma u n h = rw (value_is n (omega arith)) (grind (arith, nat_tests))
fits_plain Minus u n h = absurd u

fits_minus : (n : ℕ) → n ≤ 2 ^ 63 → is_too_large Minus (decimal n) ≡ false
fits_minus n h = rw (value_is n (omega arith)) (grind (arith, nat_tests))

negative_is : (n : ℕ) → FitsSigned w64 (negsuc n) → (ws us : Words) → Then (One W.minus) (One (W.numeral (suc n))) ws us → SpellsNumber (negsuc n) ws us
negative_is n fits ws us p = rw (p.1.1, p.2.1) (negative refl fits)

pub integer_front : (l : LineState) → IsNoMinus l → (z : ℤ) → FitsSigned w64 z → Front a_stop (signed_decimal z) l WantsComma (SpellsNumber z)
integer_front l u (pos n) fits = let h = fits.sfits in read (SpellsNumber (pos n)) (λ ws us p. rw p.1 (positive fits)) (decimal_front l n (omega arith) (fits_plain l u n h))
integer_front l u (negsuc n) fits = let h = fits.sfits in read (SpellsNumber (negsuc n)) (negative_is n fits) (behind {xs = 45 ∷ []} (λ rest ok. tt) minus_front (decimal_front Minus (suc n) (omega arith) (fits_minus (suc n) h)))

-- what is before a bound's number stays a mark of its own
digits_plain : (xs rest : List ℕ) → 0 < length xs → AreDigits xs → Follows a_plain (xs ++ rest)
digits_plain [] rest some h = let never : ⊥ = omega arith in absurd never
digits_plain (x ∷ xs) rest some h = let d = (and_parts (is_digit x) (list_all is_digit xs) h).0 in grind (arith, nat_tests)

pub integer_plain : (z : ℤ) → FitsSigned w64 z → (rest : List ℕ) → Follows a_plain (signed_decimal z ++ rest)
integer_plain (pos n) fits rest = let h = fits.sfits in let small : n < 2 ^ 64 = omega arith in digits_plain (decimal n) rest (decimal_nonempty n small) (are_digits n small)
integer_plain (negsuc n) fits rest = refl
