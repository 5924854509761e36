-- Which texts are tokens, and of which sort (CUE, lexical elements). Nothing here goes over a source: a text is a token or isn't one.
use Rattle.std.specs.Prelude.{ℕ, ◌+◌, ◌-◌, ◌*◌, List, [], ◌∷◌, ◌++◌, Bool, true, false, ◌==◌, ◌&&◌, ◌||◌, nat_le, nat_lt, if◌then◌else◌, Option, Some, None, is_some, codes, encode_utf8}
use Rattle.std.specs.List.{list_all, list_any}
use Rattle.std.specs.Option.{option_map}
use Rattle.std.specs.Str.{bytes_eq}
use Rattle.cs_grammar.specs.declared.token.Sort.{Sort}
use Rattle.cs_grammar.specs.declared.token.Sort.TheVariants as sorts

-- ---- classes of bytes (CUE, letters and digits)

abbrev pub between : ℕ → ℕ → ℕ → Bool
between low high x = nat_le low x && nat_le x high

-- A to Z, a to z and `$`
abbrev pub is_letter : ℕ → Bool
is_letter x = between 65 90 x || between 97 122 x || x == 36

abbrev pub is_digit : ℕ → Bool
is_digit x = between 48 57 x

-- a letter, a digit or `_`
abbrev pub is_name_byte : ℕ → Bool
is_name_byte x = is_letter x || is_digit x || x == 95

-- a letter or `_`
abbrev pub begins_definition : ℕ → Bool
begins_definition x = is_letter x || x == 95

-- A to Z, a to z, a digit, `_` or `.`
abbrev pub is_run_byte : ℕ → Bool
is_run_byte x = between 65 90 x || between 97 122 x || is_digit x || x == 95 || x == 46

-- 0 to 9, A to F, a to f
abbrev pub is_hex_digit : ℕ → Bool
is_hex_digit x = is_digit x || between 65 70 x || between 97 102 x

-- the value of a digit of either base
abbrev pub digit_value : ℕ → ℕ
digit_value x = if is_digit x then x - 48 else (if between 65 70 x then x - 55 else (if between 97 102 x then x - 87 else 0))

abbrev pub is_nothing : List ℕ → Bool
is_nothing [] = true
is_nothing (x ∷ xs) = false

-- ---- integers (CUE, numeric literals)

abbrev pub begins_digit : List ℕ → Bool
begins_digit [] = false
begins_digit (x ∷ xs) = is_digit x

-- a digit, or an underscore before a digit
abbrev pub begins_piece : List ℕ → Bool
begins_piece [] = false
begins_piece (x ∷ xs) = is_digit x || (x == 95 && begins_digit xs)

-- digits, and underscores that each are before a digit
abbrev pub is_separated : List ℕ → Bool
is_separated [] = true
is_separated (x ∷ xs) = begins_piece (x ∷ xs) && is_separated xs

-- what is behind the `0` of a hexadecimal integer: `x`, and one or more digits
abbrev pub is_hex_rest : List ℕ → Bool
is_hex_rest [] = false
is_hex_rest (x ∷ []) = false
is_hex_rest (x ∷ y ∷ ys) = x == 120 && list_all is_hex_digit (y ∷ ys)

-- `0`; or a digit 1 to 9, and then digits with single underscores between digits; or `0x` and hexadecimal digits
unfoldable pub is_integer : List ℕ → Bool
is_integer [] = false
is_integer (x ∷ xs) = if x == 48 then is_nothing xs || is_hex_rest xs else is_digit x && is_separated xs

-- ---- texts (CUE, string and byte sequence literals)

-- the character that a letter behind a backslash stands for: `\a`, `\b`, `\f`, `\n`, `\r`, `\t`, `\v`, `\/`, `\\` and `\"`
abbrev pub escape_value : ℕ → Option ℕ
escape_value x =
    if x == 97 then Some 7 else (
    if x == 98 then Some 8 else (
    if x == 102 then Some 12 else (
    if x == 110 then Some 10 else (
    if x == 114 then Some 13 else (
    if x == 116 then Some 9 else (
    if x == 118 then Some 11 else (
    if x == 47 then Some 47 else (
    if x == 92 then Some 92 else (
    if x == 34 then Some 34 else
    None)))))))))

-- the numbers of characters: at most 10FFFF, and no surrogates
abbrev pub is_character : ℕ → Bool
is_character v = nat_lt v 55296 || between 57344 1114111 v

-- the number of hexadecimal digits behind those of the number n
abbrev pub hex_number : ℕ → List ℕ → ℕ
hex_number n [] = n
hex_number n (x ∷ xs) = hex_number (n * 16 + digit_value x) xs

-- the UTF-8 of the character whose number these are, if they are hexadecimal digits and it is one
abbrev pub numbered : List ℕ → Option (List ℕ)
numbered ds = if list_all is_hex_digit ds && is_character (hex_number 0 ds) then Some (encode_utf8 (hex_number 0 ds)) else None

-- a character and those that follow it, if both are there
abbrev pub followed : Option (List ℕ) → Option (List ℕ) → Option (List ℕ)
followed None rest = None
followed (Some c) None = None
followed (Some c) (Some cs) = Some (c ++ cs)

unfoldable mutual
  -- The characters of what is behind the first quote of a text, by their UTF-8: characters other than newline (10), `"` (34) and `\` (92), or escapes, and then the last quote. There are none where anything else stands.
  pub text_value : List ℕ → Option (List ℕ)
  text_value [] = None
  text_value (x ∷ xs) =
      if x == 34 then (if is_nothing xs then Some [] else None) else (
      if x == 92 then escaped_value xs else (
      if x == 10 then None else
      followed (Some (x ∷ [])) (text_value xs)))

  -- the same from behind a backslash: a letter, or `u` (117) and four hexadecimal digits, or `U` (85) and eight
  pub escaped_value : List ℕ → Option (List ℕ)
  escaped_value [] = None
  escaped_value (x ∷ xs) =
      if x == 117 then four_digits_value xs else (
      if x == 85 then eight_digits_value xs else
      followed (option_map (λ c. c ∷ []) (escape_value x)) (text_value xs))

  pub four_digits_value : List ℕ → Option (List ℕ)
  four_digits_value (a ∷ b ∷ c ∷ d ∷ xs) = followed (numbered (a ∷ b ∷ c ∷ d ∷ [])) (text_value xs)
  four_digits_value _ = None

  pub eight_digits_value : List ℕ → Option (List ℕ)
  eight_digits_value (a ∷ b ∷ c ∷ d ∷ e ∷ f ∷ g ∷ h ∷ xs) = followed (numbered (a ∷ b ∷ c ∷ d ∷ e ∷ f ∷ g ∷ h ∷ [])) (text_value xs)
  eight_digits_value _ = None

-- ---- names and marks (CUE, identifiers, operators and punctuation)

-- what is behind the `#` of a definition's name: a letter or `_`, then letters, digits and `_`
abbrev pub is_definition_rest : List ℕ → Bool
is_definition_rest [] = false
is_definition_rest (x ∷ xs) = begins_definition x && list_all is_name_byte xs

-- the marks of the grammar
abbrev pub used_marks : List (List ℕ)
used_marks = codes "{" ∷ codes "}" ∷ codes "[" ∷ codes "]" ∷ codes "(" ∷ codes ")" ∷ codes "," ∷ codes ":" ∷ codes "?" ∷ codes "!" ∷ codes "&" ∷ codes "|" ∷ codes "..." ∷ codes "<" ∷ codes "<=" ∷ codes ">" ∷ codes ">=" ∷ codes "!=" ∷ codes "-" ∷ []

-- the marks of CUE that the profile leaves out
abbrev pub left_out_marks : List (List ℕ)
left_out_marks = codes "+" ∷ codes "*" ∷ codes "/" ∷ codes "." ∷ codes "=" ∷ codes "==" ∷ codes "=~" ∷ codes "!~" ∷ codes "&&" ∷ codes "||" ∷ []

abbrev pub mark_sort : List ℕ → Option Sort
mark_sort t = if list_any (bytes_eq t) used_marks then Some sorts.Mark else (if list_any (bytes_eq t) left_out_marks then Some sorts.LeftOut else None)

abbrev pub sort_if : Bool → Sort → Option Sort
sort_if true s = Some s
sort_if false s = None

-- a token that begins with `_`, by what is behind it: `_`, a hidden name, which may have a `#` (35) behind its `_`, or `_|_`
abbrev pub underscore_sort : List ℕ → Option Sort
underscore_sort [] = Some sorts.Top
underscore_sort (y ∷ ys) =
    if is_name_byte y then sort_if (list_all is_name_byte ys) sorts.Hidden else (
    if y == 35 then sort_if (is_definition_rest ys) sorts.Hidden else
    sort_if (bytes_eq (y ∷ ys) (codes "|_")) sorts.Bottom)

-- ---- the sort of the token that a text is

-- its first byte tells which sort it may be (35 is `#`, 95 is `_` and 34 is `"`)
abbrev pub sort_of : List ℕ → Option Sort
sort_of [] = None
sort_of (x ∷ xs) =
    if is_letter x then sort_if (list_all is_name_byte xs) sorts.Name else (
    if x == 35 then sort_if (is_definition_rest xs) sorts.Definition else (
    if x == 95 then underscore_sort xs else (
    if is_digit x then sort_if (is_integer (x ∷ xs)) sorts.Integer else (
    if x == 34 then sort_if (is_some (text_value xs)) sorts.Text else
    mark_sort (x ∷ xs)))))
