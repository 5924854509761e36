-- A text at the front of a text.
use Rattle.std.proofs.Common.{◌≡◌, ℕ, zero, suc, ◌+◌, ◌-◌, ◌*◌, ◌<◌, ◌≤◌, List, [], ◌∷◌, ◌++◌, length, take, drop, get_or, drop-cons, Bool, true, false, cond, Option, Some, None, option_map, refl, ap, ◌∙◌, arith}
use Rattle.std.proofs.Math.Numerals.{add-one}
use Rattle.std.proofs.Math.ListN.{drop_of_length-le}
use Rattle.std.proofs.lemmas.Bool.Decides.{nat_tests}
use Rattle.std.specs.Prelude.{◌==◌, ◌≢◌, nat_lt, nat_le, is_some}
use Rattle.cs_grammar.specs.declared.line.LineState.{LineState}
use Rattle.cs_lexer.specs.declared.text.TextState.{TextState}
use Rattle.cs_lexer.specs.declared.text.TextState.TheVariants.{Inside, Escaped, Digits}
use Rattle.cs_lexer.specs.declared.text.TextStep.{TextStep}
use Rattle.cs_lexer.specs.declared.text.TextStep.TheVariants.{More, Ends, Fails}
use Rattle.cs_grammar.specs.declared.token.Sort.TheVariants as sorts
use Rattle.cs_grammar.specs.Spelling.{is_hex_digit, digit_value, escape_value, is_character, sort_if, sort_of}
use Rattle.cs_grammar.specs.Cut.{Begins, begins_quotes}
use Rattle.cs_grammar.specs.Stuck.{BeginsNone, NoneBegins, nothing}
use Rattle.cs_lexer.specs.Pieces.{Edges}
use Rattle.cs_lexer.specs.Automaton.{number_step, text_step, closes_by, closes, value_from, len_by, text_len}
use Rattle.cs_lexer.proofs.ByteClasses.{no_comment_at}
use Rattle.cs_lexer.proofs.TextValues.{closes_is}

-- ---- where a text closes

-- it closes there, not behind it, and there stands a quote
pub record Closes (s : TextState) (xs : List ℕ) (n : ℕ) : Type 0 where
  pub some : 0 < n
  pub within : n ≤ length xs
  pub closed : closes s (take n xs) ≡ true
  pub only : (m : ℕ) → n < m → m ≤ length xs → closes s (take m xs) ≡ false
  pub quote : get_or xs (n - 1) 0 ≡ 34

abbrev IsTextLen : TextState → List ℕ → Option ℕ → Type 0
IsTextLen s xs None = (m : ℕ) → closes s (take m xs) ≡ false
IsTextLen s xs (Some n) = Closes s xs n

none_empty : (s : TextState) (m : ℕ) → closes s (take m []) ≡ false
none_empty s zero = refl
none_empty s (suc m) = refl

-- only a quote ends a text
number_goes_on : (left n : ℕ) → number_step left n ≡ Ends → ⊥
number_goes_on left n is = by (nat_lt 1 left) (nat_le n 1114111) (is_character n) is
  where
    by : (a b c : Bool) → cond a (cond b (More (Digits (left - 1) n)) Fails) (cond c (More Inside) Fails) ≡ Ends → ⊥
    by true true c h = cc
    by true false c h = cc
    by false b true h = cc
    by false b false h = cc

ends_quote : (s : TextState) (x : ℕ) → text_step s x ≡ Ends → x ≡ 34
ends_quote Inside x is = by (x == 34) (x == 92) (x == 10) refl is
  where
    by : (q b n : Bool) → (x == 34) ≡ q → cond q Ends (cond b (More Escaped) (cond n Fails (More Inside))) ≡ Ends → x ≡ 34
    by true b n e h = grind (arith, nat_tests)
    by false true n e h = absurd cc
    by false false true e h = absurd cc
    by false false false e h = absurd cc
ends_quote Escaped x is = by (x == 117) (x == 85) (is_some (escape_value x)) is
  where
    by : (a b c : Bool) → cond a (More (Digits 4 0)) (cond b (More (Digits 8 0)) (cond c (More Inside) Fails)) ≡ Ends → x ≡ 34
    by true b c h = absurd cc
    by false true c h = absurd cc
    by false false true h = absurd cc
    by false false false h = absurd cc
ends_quote (Digits left n) x is = by (is_hex_digit x) is
  where
    by : (b : Bool) → cond b (number_step left (n * 16 + digit_value x)) Fails ≡ Ends → x ≡ 34
    by true h = absurd (number_goes_on left (n * 16 + digit_value x) h)
    by false h = absurd cc

unquoted_step : (x : ℕ) (xs : List ℕ) (s : TextState) (step : TextStep) → text_step s x ≡ step → ((front : List ℕ) → x ∷ xs ≢ front ++ 34 ∷ []) → ((t : TextState) → closes t xs ≡ false) → closes_by step xs (λ t. closes t xs) ≡ false
unquoted_step x xs s (More t) e h again = again t
unquoted_step x [] s Ends e h again = absurd (h [] (ap (λ y. y ∷ []) (ends_quote s x e)))
unquoted_step x (y ∷ xs) s Ends e h again = refl
unquoted_step x xs s Fails e h again = refl

unquoted : (xs : List ℕ) (s : TextState) → ((front : List ℕ) → xs ≢ front ++ 34 ∷ []) → closes s xs ≡ false
unquoted [] s h = refl
unquoted (x ∷ xs) s h = unquoted_step x xs s (text_step s x) refl h (λ t. unquoted xs t (λ front e. h (x ∷ front) (ap (λ l. x ∷ l) e)))

-- bytes without a quote at their end are no rest of a text
pub none_unquoted : (xs : List ℕ) (s : TextState) → ((front : List ℕ) → xs ≢ front ++ 34 ∷ []) → value_from s xs ≡ []
none_unquoted xs s h = rw (unquoted xs s h) refl

-- ---- step by step

none_step : (s t : TextState) (x : ℕ) (xs : List ℕ) → text_step s x ≡ More t → ((m : ℕ) → closes t (take m xs) ≡ false) → (m : ℕ) → closes s (take m (x ∷ xs)) ≡ false
none_step s t x xs is h zero = refl
none_step s t x xs is h (suc m) = rw is (h m)

none_fails : (s : TextState) (x : ℕ) (xs : List ℕ) → text_step s x ≡ Fails → (m : ℕ) → closes s (take m (x ∷ xs)) ≡ false
none_fails s x xs is zero = refl
none_fails s x xs is (suc m) = rw is refl

some_step : (s t : TextState) (x : ℕ) (xs : List ℕ) (n : ℕ) → text_step s x ≡ More t → Closes t xs n → Closes s (x ∷ xs) (suc n)
some_step s t x xs n is h = record {
  some = omega arith;
  within = omega (arith, h.within);
  closed = rw is h.closed;
  only = only;
  quote = let next : suc n - 1 ≡ suc (n - 1) = omega (arith, h.some) in rw next h.quote;
}
  where
    only : (m : ℕ) → suc n < m → m ≤ length (x ∷ xs) → closes s (take m (x ∷ xs)) ≡ false
    only zero lt le = let never : ⊥ = omega arith in absurd never
    only (suc m) lt le = rw is (h.only m (omega arith) (omega arith))

some_end : (s : TextState) (x : ℕ) (xs : List ℕ) → text_step s x ≡ Ends → Closes s (x ∷ xs) 1
some_end s x xs is = record { some = omega arith; within = omega arith; closed = rw is refl; only = only xs; quote = ends_quote s x is }
  where
    only : (ys : List ℕ) (m : ℕ) → 1 < m → m ≤ length (x ∷ ys) → closes s (take m (x ∷ ys)) ≡ false
    only ys zero lt le = let never : ⊥ = omega arith in absurd never
    only ys (suc zero) lt le = let never : ⊥ = omega arith in absurd never
    only [] (suc (suc m)) lt le = let never : ⊥ = omega arith in absurd never
    only (y ∷ ys) (suc (suc m)) lt le = rw is refl

goes_on : (s t : TextState) (x : ℕ) (xs : List ℕ) → text_step s x ≡ More t → (o : Option ℕ) → IsTextLen t xs o → IsTextLen s (x ∷ xs) (option_map suc o)
goes_on s t x xs is None h = none_step s t x xs is h
goes_on s t x xs is (Some n) h = some_step s t x xs n is h

text_at : (s : TextState) (x : ℕ) (xs : List ℕ) (step : TextStep) → text_step s x ≡ step → ((t : TextState) → IsTextLen t xs (text_len t xs)) → IsTextLen s (x ∷ xs) (len_by step (λ t. text_len t xs))
text_at s x xs (More t) is h = goes_on s t x xs is (text_len t xs) (h t)
text_at s x xs Ends is h = some_end s x xs is
text_at s x xs Fails is h = none_fails s x xs is

text_len_is : (xs : List ℕ) (s : TextState) → IsTextLen s xs (text_len s xs)
unfolding text_len
text_len_is [] s = none_empty s
text_len_is (x ∷ xs) s = text_at s x xs (text_step s x) refl (text_len_is xs)

-- ---- the loop over a text

abbrev pub text_from : List ℕ → ℕ → TextState → Option ℕ
text_from bs i s = option_map (λ n. i + n) (text_len s (drop i bs))

module _ (bs : List ℕ) (i : ℕ) (s : TextState) (lt : i < length bs) where
  here : drop i bs ≡ get_or bs i 0 ∷ drop (suc i) bs
  here = drop-cons bs i 0 lt

  added : (o : Option ℕ) → option_map (λ n. i + n) (option_map suc o) ≡ option_map (λ n. suc i + n) o
  added None = refl
  added (Some n) = ap Some (omega arith)

  pub text_more : (t : TextState) → text_step s (get_or bs i 0) ≡ More t → text_from bs i s ≡ text_from bs (i + 1) t
  unfolding text_len
  text_more t is = rw (here, is, add-one) (added (text_len t (drop (suc i) bs)))

  pub text_ended : text_step s (get_or bs i 0) ≡ Ends → text_from bs i s ≡ Some (i + 1)
  unfolding text_len
  text_ended is = rw (here, is) refl

  pub text_failed : text_step s (get_or bs i 0) ≡ Fails → text_from bs i s ≡ None
  unfolding text_len
  text_failed is = rw (here, is) refl

pub text_out : (bs : List ℕ) (i : ℕ) (s : TextState) → length bs ≤ i → text_from bs i s ≡ None
unfolding text_len
text_out bs i s le = rw (drop_of_length-le bs le) refl

-- ---- the token

module _ (xs : List ℕ) where
  text_longer : (n : ℕ) → Closes Inside xs n → (m : ℕ) → suc n < m → m ≤ length (34 ∷ xs) → sort_of (take m (34 ∷ xs)) ≡ None
  text_longer n h zero lt le = let never : ⊥ = omega arith in absurd never
  text_longer n h (suc m) lt le = ap (λ b. sort_if b sorts.Text) (closes_is (take m xs) ∙ h.only m (omega arith) (omega arith))

  text_begins : (l : LineState) (n : ℕ) → Closes Inside xs n → begins_quotes (34 ∷ xs) ≡ false → Begins l (34 ∷ xs) (suc n) sorts.Text
  text_begins l n h single = record {
    no_bad_number = refl;
    no_quotes = single;
    no_comment = no_comment_at 34 xs refl;
    in_range = refl;
    token = record { within = omega (arith, h.within); spelled = ap (λ b. sort_if b sorts.Text) (closes_is (take n xs) ∙ h.closed); longest = text_longer n h };
  }

  text_edges : (n : ℕ) → Closes Inside xs n → Edges (34 ∷ xs) (suc n)
  text_edges n h = record {
    some = omega arith;
    within = omega (arith, h.within);
    first = omega arith;
    last = let k : suc n - 1 ≡ suc (n - 1) = omega (arith, h.some) in rw k (omega (arith, h.quote));
  }

  text_none : ((m : ℕ) → closes Inside (take m xs) ≡ false) → BeginsNone (34 ∷ xs)
  text_none h zero le = refl
  text_none h (suc m) le = ap (λ b. sort_if b sorts.Text) (closes_is (take m xs) ∙ h m)

  pub text_case : (l : LineState) (n : ℕ) → begins_quotes (34 ∷ xs) ≡ false → text_len Inside xs ≡ Some n → Begins l (34 ∷ xs) (n + 1) sorts.Text × Edges (34 ∷ xs) (n + 1)
  text_case l n single e =
      let c : Closes Inside xs n = rw e at (text_len_is xs Inside) in
      rw add-one (text_begins l n c single, text_edges n c)

  pub bad_text_case : text_len Inside xs ≡ None → NoneBegins (34 ∷ xs)
  bad_text_case e =
      let c : (m : ℕ) → closes Inside (take m xs) ≡ false = rw e at (text_len_is xs Inside) in
      nothing refl refl (no_comment_at 34 xs refl) (text_none c)
