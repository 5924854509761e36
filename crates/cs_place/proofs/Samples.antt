-- Lines and columns, and texts as they are shown, by the definitions.
use Rattle.std.proofs.Common.{◌≡◌, ℕ, ◌++◌, true, false, List, [], ◌∷◌, map, codes, refl}
use Rattle.std.proofs.Math.Utf8.{encode}
use Rattle.std.specs.Fmt.{digits}
use Rattle.std.specs.Str.{chars}
use Rattle.cs_place.specs.declared.position.Position.{Position}
use Rattle.cs_place.specs.Positions.{position_at}
use Rattle.cs_place.specs.Shown.{is_hidden, shown, quoted, place_text}

abbrev at : ℕ → ℕ → Position
at l c = record { line = l; column = c }

-- two lines, the second with é (195, 169), and a newline at the end
abbrev lines : List ℕ
lines = codes "ab" ++ (10 ∷ codes "c") ++ (195 ∷ 169 ∷ codes "d") ++ (10 ∷ [])

first_byte : position_at lines 0 ≡ at 1 1
first_byte = refl

second_byte : position_at lines 1 ≡ at 1 2
second_byte = refl

-- a newline ends its own line
newline : position_at lines 2 ≡ at 1 3
newline = refl

behind_newline : position_at lines 3 ≡ at 2 1
behind_newline = refl

-- a character of two bytes takes one column
wide : position_at lines 4 ≡ at 2 2
wide = refl

behind_wide : position_at lines 6 ≡ at 2 3
behind_wide = refl

end : position_at lines 8 ≡ at 3 1
end = refl

past_end : position_at lines 100 ≡ at 3 1
past_end = refl

-- a carriage return is a character of its line
carriage_return : position_at (97 ∷ 13 ∷ 10 ∷ 98 ∷ []) 2 ≡ at 1 3
carriage_return = refl

behind_carriage_return : position_at (97 ∷ 13 ∷ 10 ∷ 98 ∷ []) 3 ≡ at 2 1
behind_carriage_return = refl

empty_lines : position_at (10 ∷ 10 ∷ []) 2 ≡ at 3 1
empty_lines = refl

empty : position_at [] 0 ≡ at 1 1
empty = refl

-- ---- texts as they are shown

-- the first and the last of each range, and what is next to them
hidden_below : map is_hidden (0 ∷ 31 ∷ 32 ∷ 126 ∷ 127 ∷ 128 ∷ 159 ∷ 160 ∷ []) ≡ true ∷ true ∷ false ∷ false ∷ true ∷ true ∷ true ∷ false ∷ []
hidden_below = refl

hidden_mark : map is_hidden (1563 ∷ 1564 ∷ 1565 ∷ []) ≡ false ∷ true ∷ false ∷ []
hidden_mark = refl

hidden_widths : map is_hidden (8202 ∷ 8203 ∷ 8207 ∷ 8208 ∷ 8287 ∷ 8288 ∷ 8289 ∷ 65278 ∷ 65279 ∷ 65280 ∷ []) ≡ false ∷ true ∷ true ∷ false ∷ false ∷ true ∷ false ∷ false ∷ true ∷ false ∷ []
hidden_widths = refl

hidden_directions : map is_hidden (8231 ∷ 8232 ∷ 8238 ∷ 8239 ∷ 8293 ∷ 8294 ∷ 8297 ∷ 8298 ∷ []) ≡ false ∷ true ∷ true ∷ false ∷ false ∷ true ∷ true ∷ false ∷ []
hidden_directions = refl

-- a newline, an escape and a delete; U+202E, and é
shown_controls : shown (97 ∷ 10 ∷ 27 ∷ 127 ∷ []) ≡ codes "a\\n\\u001b\\u007f"
unfolding chars encode
shown_controls = refl

shown_wide : shown (226 ∷ 128 ∷ 174 ∷ 195 ∷ 169 ∷ []) ≡ codes "\\u202e" ++ (195 ∷ 169 ∷ [])
unfolding chars encode
shown_wide = refl

-- a backslash stays, but in a string of JSON
shown_backslash : shown (codes "\\") ≡ codes "\\"
unfolding chars encode
shown_backslash = refl

quoted_marks : quoted (codes "\"\\") ≡ codes "\"\\\"\\\\\""
unfolding chars encode
quoted_marks = refl

shown_place : place_text (120 ∷ 13 ∷ 9 ∷ []) 3 12 ≡ codes "x\\r\\t:3:12"
unfolding chars encode digits
shown_place = refl
