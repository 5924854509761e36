-- What the texts of tokens stand for (CUE, lexical elements).
use Rattle.std.specs.Prelude.{ℕ, ◌+◌, ◌*◌, List, [], ◌∷◌, drop, Bool, false, ◌==◌, if◌then◌else◌}
use Rattle.std.specs.Option.{unwrap_or}
use Rattle.cs_grammar.specs.Spelling.{digit_value, text_value}

-- ---- integers (CUE, numeric literals)

-- the digits of xs in that base behind those of the number n; underscores count nothing
abbrev pub digits_after : ℕ → ℕ → List ℕ → ℕ
digits_after base n [] = n
digits_after base n (x ∷ xs) = if x == 95 then digits_after base n xs else digits_after base (n * base + digit_value x) xs

-- `x` behind the first byte
abbrev pub is_hexadecimal : List ℕ → Bool
is_hexadecimal (x ∷ y ∷ xs) = y == 120
is_hexadecimal xs = false

-- the value of an integer
unfoldable pub integer_value : List ℕ → ℕ
integer_value xs = if is_hexadecimal xs then digits_after 16 0 (drop 2 xs) else digits_after 10 0 xs

-- ---- texts (CUE, string and byte sequence literals)

-- the characters of a text, by their UTF-8
unfoldable pub unescaped : List ℕ → List ℕ
unescaped xs = unwrap_or (text_value (drop 1 xs)) []
