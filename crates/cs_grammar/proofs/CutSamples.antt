-- Sources with their tokens, and sources with the place where they are stuck.
use Rattle.std.proofs.Common.{◌≡◌, ℕ, zero, suc, ◌<◌, ◌≤◌, List, [], ◌∷◌, length, take, Bool, true, false, ◌&&◌, ◌||◌, Option, Some, None, codes, refl, arith}
use Rattle.std.proofs.lemmas.Bool.Decides.{nat_tests}
use Rattle.std.specs.Prelude.{nat_le, is_none}
use Rattle.std.proofs.lemmas.Bool.{and_parts}
use Rattle.cs_grammar.specs.declared.token.Sort.{Sort}
use Rattle.cs_grammar.specs.declared.token.Sort.TheVariants as sorts
use Rattle.cs_grammar.specs.declared.line.LineState.{LineState}
use Rattle.cs_grammar.specs.declared.line.LineState.TheVariants.{Plain, WantsComma, Minus}
use Rattle.cs_grammar.specs.declared.fault.SyntaxFault.TheVariants.{NoToken, IntegerRange}
use Rattle.cs_grammar.specs.Spelling.{is_integer, text_value, sort_of}
use Rattle.cs_grammar.specs.Values.{integer_value}
use Rattle.cs_grammar.specs.Cut.{IsLongest, Begins, begins_bad_number, begins_quotes, begins_comment, is_out_of_range, lexeme, IsCut, blank, new_line, comment, token, finish}
use Rattle.cs_grammar.specs.Stuck.{BeginsNone, number, quotes, nothing, IsStuck, no_token, too_large, past_blank, past_line, past_comment, past_token}

-- ---- no longer front is a token, by trying each

-- of the fronts that are longer than n, and at most k bytes long
abbrev none_among : List ℕ → ℕ → ℕ → Bool
none_among bs n zero = true
none_among bs n (suc k) = (nat_le (suc k) n || is_none (sort_of (take (suc k) bs))) && none_among bs n k

none_is : (o : Option Sort) → is_none o ≡ true → o ≡ None
none_is None h = refl
none_is (Some s) h = absurd cc

step : (bs : List ℕ) (n k m : ℕ) → none_among bs n (suc k) ≡ true → n < m → m ≤ suc k → (none_among bs n k ≡ true → m ≤ k → sort_of (take m bs) ≡ None) → sort_of (take m bs) ≡ None
step bs n k m h lt le again = by (nat_le m k) refl
  where
    parts : ((nat_le (suc k) n || is_none (sort_of (take (suc k) bs))) ≡ true) × (none_among bs n k ≡ true)
    parts = and_parts (nat_le (suc k) n || is_none (sort_of (take (suc k) bs))) (none_among bs n k) h

    last : (b : Bool) → nat_le (suc k) n ≡ b → (b || is_none (sort_of (take (suc k) bs))) ≡ true → m ≡ suc k → sort_of (take (suc k) bs) ≡ None
    last true e p is = let never : ⊥ = grind (arith, nat_tests) in absurd never
    last false e p is = none_is (sort_of (take (suc k) bs)) p

    by : (b : Bool) → nat_le m k ≡ b → sort_of (take m bs) ≡ None
    by true e = again parts.1 (grind (arith, nat_tests))
    by false e = let is : m ≡ suc k = grind (arith, nat_tests) in rw is (last (nat_le (suc k) n) refl parts.0 is)

tried : (bs : List ℕ) (n k : ℕ) → none_among bs n k ≡ true → (m : ℕ) → n < m → m ≤ k → sort_of (take m bs) ≡ None
tried bs n zero h m lt le = let never : ⊥ = omega arith in absurd never
tried bs n (suc k) h m lt le = step bs n k m h lt le (λ e less. tried bs n k e m lt less)

longest : (bs : List ℕ) (n : ℕ) (s : Sort) → nat_le n (length bs) ≡ true → sort_of (take n bs) ≡ Some s → none_among bs n (length bs) ≡ true → IsLongest bs n s
longest bs n s h e none = record { within = grind (arith, nat_tests); spelled = e; longest = tried bs n (length bs) none }

pub begins : (l : LineState) (bs : List ℕ) (n : ℕ) (s : Sort) → begins_bad_number bs ≡ false → begins_quotes bs ≡ false → begins_comment bs ≡ false → is_out_of_range l s (take n bs) ≡ false
    → nat_le n (length bs) ≡ true → sort_of (take n bs) ≡ Some s → none_among bs n (length bs) ≡ true → Begins l bs n s
begins l bs n s digit three slashes range h e none = record { no_bad_number = digit; no_quotes = three; no_comment = slashes; in_range = range; token = longest bs n s h e none }

pub begins_none : (bs : List ℕ) → none_among bs 0 (length bs) ≡ true → BeginsNone bs
begins_none bs h zero le = refl
begins_none bs h (suc m) le = tried bs 0 (length bs) h (suc m) (omega arith) le

-- ---- sources with their tokens

-- the comma stands where the comment begins, and the end of that line inserts none
commented : IsCut (codes "a: 1 // b\n") (lexeme sorts.Name (codes "a") 0 ∷ lexeme sorts.Mark (codes ":") 1 ∷ lexeme sorts.Integer (codes "1") 3 ∷ lexeme sorts.Inserted [] 5 ∷ lexeme sorts.End [] 10 ∷ [])
unfolding is_integer integer_value
commented =
    token {n = 1} (begins Plain (codes "a: 1 // b\n") 1 sorts.Name refl refl refl refl refl refl refl) (
    token {n = 1} (begins WantsComma (codes ": 1 // b\n") 1 sorts.Mark refl refl refl refl refl refl refl) (
    blank refl (
    token {n = 1} (begins Plain (codes "1 // b\n") 1 sorts.Integer refl refl refl refl refl refl refl) (
    blank refl (
    comment {l = WantsComma} {ks = lexeme sorts.End [] 10 ∷ []} refl (
    new_line {l = Plain} {ks = lexeme sorts.End [] 10 ∷ []} refl (
    finish {l = Plain})))))))

-- `...` is one token, and the end of its line inserts a comma
dots : IsCut (codes "...\n}") (lexeme sorts.Mark (codes "...") 0 ∷ lexeme sorts.Inserted [] 3 ∷ lexeme sorts.Mark (codes "}") 4 ∷ lexeme sorts.Inserted [] 5 ∷ lexeme sorts.End [] 5 ∷ [])
dots =
    token {n = 3} (begins Plain (codes "...\n}") 3 sorts.Mark refl refl refl refl refl refl refl) (
    new_line {l = WantsComma} {ks = lexeme sorts.Mark (codes "}") 4 ∷ lexeme sorts.Inserted [] 5 ∷ lexeme sorts.End [] 5 ∷ []} refl (
    token {n = 1} (begins Plain (codes "}") 1 sorts.Mark refl refl refl refl refl refl refl) (
    finish {l = WantsComma})))

-- the end of a line leaves the `-` that is before the least integer
least : IsCut (codes "-\n9223372036854775808") (lexeme sorts.Mark (codes "-") 0 ∷ lexeme sorts.Integer (codes "9223372036854775808") 2 ∷ lexeme sorts.Inserted [] 21 ∷ lexeme sorts.End [] 21 ∷ [])
unfolding is_integer integer_value
least =
    token {n = 1} (begins Plain (codes "-\n9223372036854775808") 1 sorts.Mark refl refl refl refl refl refl refl) (
    new_line {l = Minus} {ks = lexeme sorts.Integer (codes "9223372036854775808") 2 ∷ lexeme sorts.Inserted [] 21 ∷ lexeme sorts.End [] 21 ∷ []} refl (
    token {n = 19} (begins Minus (codes "9223372036854775808") 19 sorts.Integer refl refl refl refl refl refl refl) (
    finish {l = WantsComma})))

-- ---- sources that are stuck

bad_number : IsStuck (codes "a 01") (NoToken 2)
unfolding is_integer
bad_number = past_token {n = 1} (begins Plain (codes "a 01") 1 sorts.Name refl refl refl refl refl refl refl) (past_blank refl (no_token (number refl) refl))

three_quotes : IsStuck (codes "\"\"\"") (NoToken 0)
three_quotes = no_token (quotes refl) refl

unclosed : IsStuck (codes "\"a") (NoToken 0)
unfolding text_value
unclosed = no_token (nothing refl refl refl (begins_none (codes "\"a") refl)) refl

no_mark : IsStuck (codes "// a\n;") (NoToken 5)
no_mark = past_comment refl (past_line refl (no_token (nothing refl refl refl (begins_none (codes ";") refl)) refl))

out_of_range : IsStuck (codes "9223372036854775808") (IntegerRange 0)
unfolding is_integer integer_value
out_of_range = too_large {n = 19} (record { no_bad_number = refl; no_quotes = refl; no_comment = refl; out_of_range = refl; token = longest (codes "9223372036854775808") 19 sorts.Integer refl refl refl })
