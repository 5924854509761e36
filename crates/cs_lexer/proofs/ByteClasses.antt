-- Classes of bytes, and what a first byte tells of a text.
use Rattle.std.proofs.Common.{◌≡◌, ℕ, suc, ◌+◌, ◌-◌, ◌<◌, List, [], ◌∷◌, length, take, drop, get_or, Bool, true, false, refl, arith}
use Rattle.std.proofs.lemmas.Bool.Decides.{nat_tests}
use Rattle.std.proofs.lemmas.List.{take_all}
use Rattle.std.specs.Prelude.{◌==◌}
use Rattle.std.specs.List.{prefix_len}
use Rattle.cs_grammar.specs.Spelling.{is_letter, is_digit, is_name_byte, begins_definition, is_run_byte}
use Rattle.cs_grammar.specs.Cut.{begins_quotes, begins_comment}
use Rattle.cs_lexer.specs.Pieces.{Edges}
use Rattle.cs_lexer.proofs.Runs.{all_prefix, prefix_within, all_at}

pub letter_not_digit : (x : ℕ) → is_letter x ≡ true → is_digit x ≡ false
letter_not_digit x h = grind (arith, nat_tests)

pub letter_not_quote : (x : ℕ) → is_letter x ≡ true → (x == 34) ≡ false
letter_not_quote x h = grind (arith, nat_tests)

pub letter_not_slash : (x : ℕ) → is_letter x ≡ true → (x == 47) ≡ false
letter_not_slash x h = grind (arith, nat_tests)

pub letter_names : (x : ℕ) → is_letter x ≡ true → is_name_byte x ≡ true
letter_names x h = grind (arith, nat_tests)

pub definition_names : (x : ℕ) → begins_definition x ≡ true → is_name_byte x ≡ true
definition_names x h = grind (arith, nat_tests)

pub name_byte_ascii : (x : ℕ) → is_name_byte x ≡ true → x < 128
name_byte_ascii x h = grind (arith, nat_tests)

pub digit_not_letter : (x : ℕ) → is_digit x ≡ true → is_letter x ≡ false
digit_not_letter x h = grind (arith, nat_tests)

pub digit_not_hash : (x : ℕ) → is_digit x ≡ true → (x == 35) ≡ false
digit_not_hash x h = grind (arith, nat_tests)

pub digit_not_underscore : (x : ℕ) → is_digit x ≡ true → (x == 95) ≡ false
digit_not_underscore x h = grind (arith, nat_tests)

pub digit_not_quote : (x : ℕ) → is_digit x ≡ true → (x == 34) ≡ false
digit_not_quote x h = grind (arith, nat_tests)

pub digit_not_slash : (x : ℕ) → is_digit x ≡ true → (x == 47) ≡ false
digit_not_slash x h = grind (arith, nat_tests)

pub digit_runs : (x : ℕ) → is_digit x ≡ true → is_run_byte x ≡ true
digit_runs x h = grind (arith, nat_tests)

pub run_byte_ascii : (x : ℕ) → is_run_byte x ≡ true → x < 128
run_byte_ascii x h = grind (arith, nat_tests)

pub no_quotes_at : (x : ℕ) (xs : List ℕ) → (x == 34) ≡ false → begins_quotes (x ∷ xs) ≡ false
no_quotes_at x [] h = refl
no_quotes_at x (y ∷ []) h = refl
no_quotes_at x (y ∷ z ∷ xs) h = rw h refl

pub no_comment_at : (x : ℕ) (xs : List ℕ) → (x == 47) ≡ false → begins_comment (x ∷ xs) ≡ false
no_comment_at x [] h = refl
no_comment_at x (y ∷ xs) h = rw h refl

-- a text by its first byte and what is behind it
pub opened : (bs : List ℕ) (k : ℕ) → 0 < length bs → get_or bs 0 0 ≡ k → k ∷ take (length bs - 1) (drop 1 bs) ≡ bs
opened [] k some is = let never : ⊥ = omega arith in absurd never
opened (x ∷ xs) k some is = let rest : take (length (x ∷ xs) - 1) (drop 1 (x ∷ xs)) ≡ xs = take_all (length (x ∷ xs) - 1) xs (omega arith) in rw (rest, is) refl

-- the bytes of a run are ASCII at both ends
pub run_edges : (p : ℕ → Bool) → ((x : ℕ) → p x ≡ true → x < 128) → (bs : List ℕ) → 0 < prefix_len p bs → Edges bs (prefix_len p bs)
run_edges p ascii bs some = record {
  some = some;
  within = prefix_within p bs;
  first = ascii (get_or bs 0 0) (all_at p bs (prefix_len p bs) 0 (all_prefix p bs) some (prefix_within p bs));
  last = ascii (get_or bs (prefix_len p bs - 1) 0) (all_at p bs (prefix_len p bs) (prefix_len p bs - 1) (all_prefix p bs) (omega arith) (prefix_within p bs));
}

-- the same behind one more byte
pub edges_behind : (x : ℕ) (xs : List ℕ) (n : ℕ) → x < 128 → Edges xs n → Edges (x ∷ xs) (n + 1)
edges_behind x xs n ascii e = record { some = omega arith; within = omega (arith, e.within); first = ascii; last = let k : n + 1 - 1 ≡ suc (n - 1) = omega (arith, e.some) in rw k e.last }
