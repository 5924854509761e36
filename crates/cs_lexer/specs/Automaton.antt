-- How the lexer goes over a text, byte by byte. `text_value` says what a text is, and the proofs show that the two agree.
use Rattle.std.specs.Prelude.{ℕ, suc, ◌+◌, ◌-◌, ◌*◌, List, [], ◌∷◌, ◌++◌, Bool, false, ◌==◌, nat_le, nat_lt, if◌then◌else◌, Option, Some, None, is_some, encode_utf8}
use Rattle.std.specs.Option.{option_map, unwrap_or}
use Rattle.cs_grammar.specs.Spelling.{digit_value, escape_value, is_character, is_hex_digit, is_nothing}
use Rattle.cs_lexer.specs.declared.text.TextState.{TextState}
use Rattle.cs_lexer.specs.declared.text.TextState.TheVariants.{Inside, Escaped, Digits}
use Rattle.cs_lexer.specs.declared.text.TextStep.{TextStep}
use Rattle.cs_lexer.specs.declared.text.TextStep.TheVariants.{More, Ends, Fails}

-- ---- one byte

-- what a digit does within an escape by number: n is the number with it
abbrev pub number_step : ℕ → ℕ → TextStep
number_step left n =
    if nat_lt 1 left then (if nat_le n 1114111 then More (Digits (left - 1) n) else Fails) else
    (if is_character n then More Inside else Fails)

-- What a byte does in a text: the text goes on, ends or is none. It is behind whole characters (`Inside`), behind a backslash (`Escaped`), or behind `\u` or `\U` and some digits (`Digits`: how many are still to come, and their number so far).
abbrev pub text_step : TextState → ℕ → TextStep
text_step Inside x = if x == 34 then Ends else (if x == 92 then More Escaped else (if x == 10 then Fails else More Inside))
text_step Escaped x = if x == 117 then More (Digits 4 0) else (if x == 85 then More (Digits 8 0) else (if is_some (escape_value x) then More Inside else Fails))
text_step (Digits left n) x = if is_hex_digit x then number_step left (n * 16 + digit_value x) else Fails

-- the UTF-8 of the character that a byte of a text ends, if it ends one
abbrev pub character_at : TextState → ℕ → List ℕ
character_at Inside x = if x == 92 then [] else x ∷ []
character_at Escaped x = if x == 117 then [] else (if x == 85 then [] else unwrap_or (escape_value x) 0 ∷ [])
character_at (Digits left n) x = if nat_lt 1 left then [] else encode_utf8 (n * 16 + digit_value x)

-- ---- the bytes behind the first quote

abbrev pub closes_by : TextStep → List ℕ → (TextState → Bool) → Bool
closes_by (More s) xs again = again s
closes_by Ends xs again = is_nothing xs
closes_by Fails xs again = false

-- whether they are the rest of a text
abbrev pub closes : TextState → List ℕ → Bool
closes s [] = false
closes s (x ∷ xs) = closes_by (text_step s x) xs (λ t. closes t xs)

abbrev pub characters_by : TextStep → (TextState → List ℕ) → List ℕ → List ℕ
characters_by (More s) again cs = cs ++ again s
characters_by Ends again cs = []
characters_by Fails again cs = []

-- the characters up to its end
abbrev pub characters : TextState → List ℕ → List ℕ
characters s [] = []
characters s (x ∷ xs) = characters_by (text_step s x) (λ t. characters t xs) (character_at s x)

-- the characters up to its end, where they are the rest of a text
abbrev pub value_from : TextState → List ℕ → List ℕ
value_from s xs = if closes s xs then characters s xs else []

abbrev pub len_by : TextStep → (TextState → Option ℕ) → Option ℕ
len_by (More s) again = option_map suc (again s)
len_by Ends again = Some 1
len_by Fails again = None

-- how many there are up to the last quote of a text and with it
unfoldable pub text_len : TextState → List ℕ → Option ℕ
text_len s [] = None
text_len s (x ∷ xs) = len_by (text_step s x) (λ t. text_len t xs)
