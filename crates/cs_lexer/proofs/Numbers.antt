-- An integer at the front of a text.
use Rattle.std.proofs.Common.{◌≡◌, ℕ, zero, suc, ◌+◌, ◌-◌, ◌<◌, ◌≤◌, List, [], ◌∷◌, length, take, drop, get_or, drop-cons, Bool, true, false, cond, None, refl, ◌∙◌, arith}
use Rattle.std.proofs.Math.Numerals.{one-add, add-one}
use Rattle.std.proofs.Math.ListN.{drop_of_length-le}
use Rattle.std.proofs.lemmas.Bool.Decides.{nat_tests}
use Rattle.std.proofs.lemmas.List.{take_all, length-drop}
use Rattle.std.specs.Prelude.{◌==◌, ◌&&◌, ◌||◌}
use Rattle.std.specs.List.{list_all, prefix_len}
use Rattle.std.proofs.lemmas.Bool.{and_parts}
use Rattle.cs_grammar.specs.declared.line.LineState.{LineState}
use Rattle.cs_grammar.specs.declared.token.Sort.TheVariants as sorts
use Rattle.cs_grammar.specs.Spelling.{is_digit, is_hex_digit, is_run_byte, begins_digit, begins_piece, is_separated, is_hex_rest, is_nothing, is_integer, sort_of}
use Rattle.cs_grammar.specs.Cut.{IsLongest, run, is_too_large, begins_bad_number, Begins}
use Rattle.cs_grammar.specs.Stuck.{NoneBegins, number, TooLarge}
use Rattle.cs_lexer.specs.Pieces.{Edges}
use Rattle.cs_lexer.proofs.Runs.{past_prefix, prefix_within}
use Rattle.cs_lexer.proofs.ByteClasses.{digit_not_letter, digit_not_hash, digit_not_underscore, digit_not_quote, digit_not_slash, digit_runs, run_byte_ascii, no_quotes_at, no_comment_at, run_edges}

-- ---- an integer is a run

piece_runs : (x : ℕ) (b : Bool) → (is_digit x || (x == 95 && b)) ≡ true → is_run_byte x ≡ true
piece_runs x b h = grind (arith, nat_tests)

hex_runs : (x : ℕ) → is_hex_digit x ≡ true → is_run_byte x ≡ true
hex_runs x h = grind (arith, nat_tests)

all_hex_run : (xs : List ℕ) → list_all is_hex_digit xs ≡ true → list_all is_run_byte xs ≡ true
all_hex_run [] h = refl
all_hex_run (x ∷ xs) h = let p = and_parts (is_hex_digit x) (list_all is_hex_digit xs) h in rw (hex_runs x p.0, all_hex_run xs p.1) refl

separated_run : (xs : List ℕ) → is_separated xs ≡ true → list_all is_run_byte xs ≡ true
separated_run [] h = refl
separated_run (x ∷ xs) h = let p = and_parts (begins_piece (x ∷ xs)) (is_separated xs) h in rw (piece_runs x (begins_digit xs) p.0, separated_run xs p.1) refl

hex_rest_run : (xs : List ℕ) → is_hex_rest xs ≡ true → list_all is_run_byte xs ≡ true
hex_rest_run [] h = absurd cc
hex_rest_run (x ∷ []) h = absurd cc
hex_rest_run (x ∷ y ∷ ys) h =
    let p = and_parts (x == 120) (list_all is_hex_digit (y ∷ ys)) h in
    let r : is_run_byte x ≡ true = grind (arith, nat_tests) in
    let e : is_run_byte x && list_all is_run_byte (y ∷ ys) ≡ true = rw (r, all_hex_run (y ∷ ys) p.1) refl in
    e

zero_run : (xs : List ℕ) → (is_nothing xs || is_hex_rest xs) ≡ true → list_all is_run_byte xs ≡ true
zero_run [] h = refl
zero_run (x ∷ xs) h = hex_rest_run (x ∷ xs) h

integer_run : (ts : List ℕ) → is_integer ts ≡ true → list_all is_run_byte ts ≡ true
unfolding is_integer
integer_run [] h = absurd cc
integer_run (x ∷ xs) h = by (x == 48) refl h
  where
    by : (b : Bool) → (x == 48) ≡ b → cond b (is_nothing xs || is_hex_rest xs) (is_digit x && is_separated xs) ≡ true → list_all is_run_byte (x ∷ xs) ≡ true
    by true e k = let r : is_run_byte x ≡ true = grind (arith, nat_tests) in rw (r, zero_run xs k) refl
    by false e k = let p = and_parts (is_digit x) (is_separated xs) k in rw (digit_runs x p.0, separated_run xs p.1) refl

integer_runs : (ts : List ℕ) → list_all is_run_byte ts ≡ false → is_integer ts ≡ false
integer_runs ts h = by (is_integer ts) refl
  where
    by : (b : Bool) → is_integer ts ≡ b → b ≡ false
    by true e = let r = integer_run ts e in absurd cc
    by false e = refl

-- ---- the longest one

module _ (l : LineState) (x : ℕ) (xs : List ℕ) (digit : is_digit x ≡ true) where
  run-digit : run (x ∷ xs) ≡ suc (prefix_len is_run_byte xs)
  run-digit = rw (digit_runs x digit, one-add) refl

  number_longer : (m : ℕ) → run (x ∷ xs) < m → m ≤ length (x ∷ xs) → sort_of (take m (x ∷ xs)) ≡ None
  number_longer zero lt le = let never : ⊥ = omega arith in absurd never
  number_longer (suc m) lt le =
      let past : list_all is_run_byte (take (suc m) (x ∷ xs)) ≡ false = past_prefix is_run_byte (x ∷ xs) (suc m) lt le in
      let none : is_integer (x ∷ take m xs) ≡ false = integer_runs (x ∷ take m xs) past in
      rw (digit_not_letter x digit, digit_not_hash x digit, digit_not_underscore x digit, digit, none) refl

  module _ (good : is_integer (take (run (x ∷ xs)) (x ∷ xs)) ≡ true) where
    number_is : IsLongest (x ∷ xs) (run (x ∷ xs)) sorts.Integer
    number_is =
        let good_text : is_integer (x ∷ take (prefix_len is_run_byte xs) xs) ≡ true = rw run-digit at good in
        record {
          within = prefix_within is_run_byte (x ∷ xs);
          spelled = rw (run-digit, digit_not_letter x digit, digit_not_hash x digit, digit_not_underscore x digit, digit, good_text) refl;
          longest = number_longer;
        }

    number_good : begins_bad_number (x ∷ xs) ≡ false
    number_good = rw (good, digit) refl

pub number_case : (l : LineState) (bs : List ℕ) → 0 < length bs → is_digit (get_or bs 0 0) ≡ true → (n : ℕ) → n ≡ run bs → is_integer (take n bs) ≡ true → is_too_large l (take n bs) ≡ false → Begins l bs n sorts.Integer × Edges bs n
number_case l [] h d n e good fits = let never : ⊥ = omega arith in absurd never
number_case l (x ∷ xs) h d n e good fits =
    let g : is_integer (take (run (x ∷ xs)) (x ∷ xs)) ≡ true = rw e at good in
    rw e (
      record {
        no_bad_number = number_good l x xs d g;
        no_quotes = no_quotes_at x xs (digit_not_quote x d);
        no_comment = no_comment_at x xs (digit_not_slash x d);
        in_range = rw e at fits;
        token = number_is l x xs d g;
      },
      run_edges is_run_byte run_byte_ascii (x ∷ xs) (omega (arith, run-digit l x xs d)),
    )

pub large_number_case : (l : LineState) (bs : List ℕ) → 0 < length bs → is_digit (get_or bs 0 0) ≡ true → (n : ℕ) → n ≡ run bs → is_integer (take n bs) ≡ true → is_too_large l (take n bs) ≡ true → TooLarge l bs n
large_number_case l [] h d n e good large = let never : ⊥ = omega arith in absurd never
large_number_case l (x ∷ xs) h d n e good large =
    let g : is_integer (take (run (x ∷ xs)) (x ∷ xs)) ≡ true = rw e at good in
    rw e (record {
      no_bad_number = number_good l x xs d g;
      no_quotes = no_quotes_at x xs (digit_not_quote x d);
      no_comment = no_comment_at x xs (digit_not_slash x d);
      out_of_range = rw e at large;
      token = number_is l x xs d g;
    })

pub bad_number_case : (bs : List ℕ) → 0 < length bs → is_digit (get_or bs 0 0) ≡ true → (n : ℕ) → n ≡ run bs → is_integer (take n bs) ≡ false → NoneBegins bs
bad_number_case [] h d n e bad = let never : ⊥ = omega arith in absurd never
bad_number_case (x ∷ xs) h d n e bad = let b : is_integer (take (run (x ∷ xs)) (x ∷ xs)) ≡ false = rw e at bad in number (rw (b, d) refl)

-- ---- the loop over the digits of a decimal integer

module _ (bs : List ℕ) (i : ℕ) (lt : i < length bs) where
  rest_is : take (length bs - i) (drop i bs) ≡ get_or bs i 0 ∷ drop (suc i) bs
  rest_is = take_all (length bs - i) (drop i bs) (omega (arith, length-drop i bs)) ∙ drop-cons bs i 0 lt

  pub separated_on : begins_piece (take (length bs - i) (drop i bs)) ≡ true → is_separated (drop i bs) ≡ is_separated (drop (i + 1) bs)
  separated_on h = let p : begins_piece (get_or bs i 0 ∷ drop (suc i) bs) ≡ true = rw rest_is at h in rw (drop-cons bs i 0 lt, add-one, p) refl

  pub separated_off : begins_piece (take (length bs - i) (drop i bs)) ≡ false → is_separated (drop i bs) ≡ false
  separated_off h = let p : begins_piece (get_or bs i 0 ∷ drop (suc i) bs) ≡ false = rw rest_is at h in rw (drop-cons bs i 0 lt, p) refl

pub separated_out : (bs : List ℕ) (i : ℕ) → length bs ≤ i → is_separated (drop i bs) ≡ true
separated_out bs i le = rw (drop_of_length-le bs le) refl
