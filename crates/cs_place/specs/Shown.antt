-- How texts that users wrote are shown to people: on their line, with nothing that a terminal obeys or that changes how what is around
-- them looks (own rule).
use Rattle.std.specs.Prelude.{ℕ, ◌/◌, ◌%◌, ◌==◌, ◌||◌, ◌&&◌, if◌then◌else◌, nat_le, Bool, List, [], ◌∷◌, ◌++◌, chars, encode_utf8_all, codes, decimal}
use Rattle.std.specs.List.{flat_map}
use Rattle.std.specs.Char.{digit_char}

abbrev pub between : ℕ → ℕ → ℕ → Bool
between low high c = nat_le low c && nat_le c high

-- the control characters of ASCII and those from 128 to 159; the marks, embeddings, overrides and isolates of directions; the
-- separators of lines and paragraphs; and what has no width
abbrev pub is_hidden : ℕ → Bool
is_hidden c = between 0 31 c || between 127 159 c || c == 1564 || between 8203 8207 c || between 8232 8238 c || c == 8288 || between 8294 8297 c || c == 65279

-- the digit of a number's last four bits
abbrev pub last_digit : ℕ → ℕ
last_digit n = digit_char (n % 16)

-- what follows the backslash of an escape: a letter, or the number in four digits (RFC 8259, section 7)
abbrev pub letter_or_digits : ℕ → List ℕ
letter_or_digits c = if c == 10 then 110 ∷ [] else if c == 13 then 114 ∷ [] else if c == 9 then 116 ∷ [] else 117 ∷ last_digit (c / 4096) ∷ last_digit (c / 256) ∷ last_digit (c / 16) ∷ last_digit c ∷ []

-- the characters that a character is shown by
abbrev pub shown_by : ℕ → List ℕ
shown_by c = if is_hidden c then 92 ∷ letter_or_digits c else c ∷ []

-- those in a string of JSON
abbrev pub quoted_by : ℕ → List ℕ
quoted_by c = if c == 34 then 92 ∷ 34 ∷ [] else if c == 92 then 92 ∷ 92 ∷ [] else shown_by c

-- a text with each of its characters in place of others
abbrev pub spelled_by : (ℕ → List ℕ) → List ℕ → List ℕ
spelled_by f text = encode_utf8_all (flat_map f (chars text))

-- a text as it is shown
abbrev pub shown : List ℕ → List ℕ
shown text = spelled_by shown_by text

-- a text as a string of JSON that is shown
abbrev pub quoted : List ℕ → List ℕ
quoted text = codes "\"" ++ spelled_by quoted_by text ++ codes "\""

-- a place in a text of that name
abbrev pub place_text : List ℕ → ℕ → ℕ → List ℕ
place_text name line column = shown name ++ codes ":" ++ decimal line ++ codes ":" ++ decimal column
