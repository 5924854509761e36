-- Texts as they are shown: a character at a time, and that no character of them is hidden.
use Rattle.std.proofs.Common.{◌≡◌, ℕ, ◌/◌, ◌==◌, Bool, true, false, if◌then◌else◌, List, [], ◌∷◌, ◌++◌, length, Result, Ok, Err, OnOk, is_ok, append-nil, append_assoc, refl, sym, ap, ◌∙◌, arith}
use Rattle.std.proofs.Math.Utf8.{encode}
use Rattle.std.proofs.lemmas.Bool.Decides.{nat_tests}
use Rattle.std.proofs.lemmas.Str.{chars-nil, chars_past_char, encodes-append}
use Rattle.std.specs.List.{flat_map}
use Rattle.std.specs.Prelude.{chars, encode_utf8_all}
use Rattle.std.specs.Str.{IsUtf8, NonePass, NoCharPasses}
use Rattle.cs_place.specs.Shown.{is_hidden, last_digit, letter_or_digits, shown_by, shown, spelled_by}

-- a text whose first character is put
first_put : (f : ℕ → List ℕ) (rest later : List ℕ) (c : ℕ) → IsUtf8 rest → rest ≡ encode c ++ later → spelled_by f rest ≡ encode_utf8_all (f c) ++ spelled_by f later
first_put f rest later c text is =
    ap (λ cs. encode_utf8_all (flat_map f cs)) (chars_past_char rest later c text is) ∙ encodes-append (f c) (flat_map f (chars later))

-- one character more of a text
pub one_more : (f : ℕ → List ℕ) (old new rest later whole : List ℕ) (c : ℕ) → IsUtf8 rest → old ++ spelled_by f rest ≡ whole → rest ≡ encode c ++ later → new ≡ old ++ encode_utf8_all (f c) → new ++ spelled_by f later ≡ whole
one_more f old new rest later whole c text before is put =
    ap (λ n. n ++ spelled_by f later) put ∙ append_assoc old (encode_utf8_all (f c)) (spelled_by f later)
    ∙ ap (λ s. old ++ s) (sym (first_put f rest later c text is)) ∙ before

-- no character is left of a text
pub none_left : (f : ℕ → List ℕ) (now rest whole : List ℕ) → length rest ≡ 0 → now ++ spelled_by f rest ≡ whole → now ≡ whole
none_left f now [] whole empty before = sym (append-nil now) ∙ ap (λ cs. now ++ encode_utf8_all (flat_map f cs)) (sym chars-nil) ∙ before
none_left f now (x ∷ rest) whole empty before = absurd (omega (arith, empty))

-- the quote that ends a string
pub quote_put : {A E : Type 0} (r : Result A E) (old inside now new : List ℕ) → now ≡ old ++ 34 ∷ [] ++ inside → new ≡ (if is_ok r then now ++ 34 ∷ [] else now) → OnOk r (new ≡ old ++ 34 ∷ (inside ++ 34 ∷ []))
quote_put (Ok v) old inside now new before put =
    put ∙ ap (λ t. t ++ 34 ∷ []) before ∙ append_assoc (old ++ 34 ∷ []) inside (34 ∷ []) ∙ append_assoc old (34 ∷ []) (inside ++ 34 ∷ [])
quote_put (Err e) old inside now new before put = tt

-- ---- nothing is hidden

choose : (b : Bool) (xs ys : List ℕ) → NonePass is_hidden xs → NonePass is_hidden ys → NonePass is_hidden (if b then xs else ys)
choose true xs ys x y = x
choose false xs ys x y = y

digit_plain : (n : ℕ) → is_hidden (last_digit n) ≡ false
digit_plain n = grind (arith, nat_tests)

one_plain : (c : ℕ) → is_hidden c ≡ false → NonePass is_hidden (c ∷ [])
one_plain c is = (is, tt)

digits_plain : (c : ℕ) → NonePass is_hidden (117 ∷ last_digit (c / 4096) ∷ last_digit (c / 256) ∷ last_digit (c / 16) ∷ last_digit c ∷ [])
digits_plain c = (refl, (digit_plain (c / 4096), (digit_plain (c / 256), (digit_plain (c / 16), one_plain (last_digit c) (digit_plain c)))))

letter_plain : (c : ℕ) → NonePass is_hidden (letter_or_digits c)
letter_plain c = choose (c == 10) (110 ∷ []) _ (one_plain 110 refl) (choose (c == 13) (114 ∷ []) _ (one_plain 114 refl) (choose (c == 9) (116 ∷ []) _ (one_plain 116 refl) (digits_plain c)))

shown_by_test : (c : ℕ) (b : Bool) → is_hidden c ≡ b → NonePass is_hidden (if b then 92 ∷ letter_or_digits c else c ∷ [])
shown_by_test c true is = (refl, letter_plain c)
shown_by_test c false is = (is, tt)

both_plain : (xs ys : List ℕ) → NonePass is_hidden xs → NonePass is_hidden ys → NonePass is_hidden (xs ++ ys)
both_plain [] ys x y = y
both_plain (c ∷ xs) ys x y = (x.0, both_plain xs ys x.1 y)

all_plain : (cs : List ℕ) → NonePass is_hidden (flat_map shown_by cs)
all_plain [] = tt
all_plain (c ∷ cs) = both_plain (shown_by c) (flat_map shown_by cs) (shown_by_test c (is_hidden c) refl) (all_plain cs)

pub shown_plain : (text : List ℕ) → NoCharPasses is_hidden (shown text)
shown_plain text = (flat_map shown_by (chars text), refl, all_plain (chars text))
