-- The line and the column of an offset in a text. Lines end with newlines and are counted from 1; columns are counted in
-- characters from 1 (own rule, as compilers have it).
use Rattle.std.specs.Prelude.{ℕ, ◌+◌, ◌==◌, ◌||◌, Bool, List, take, count_by}
use Rattle.std.specs.List.{after_last}
use Rattle.std.specs.Prelude.{nat_lt}
use Rattle.cs_place.specs.declared.position.Position.{Position}

abbrev pub ends_line : ℕ → Bool
ends_line b = b == 10

-- a byte that begins a character of UTF-8, and not one of its later bytes, which are from 128 to 191 (RFC 3629, section 3)
abbrev pub begins_character : ℕ → Bool
begins_character b = nat_lt b 128 || nat_lt 191 b

-- the place behind bytes: behind the newlines among them, and on its line behind the characters since the last one
abbrev pub position_behind : List ℕ → Position
position_behind bytes = record {
  line = 1 + count_by ends_line bytes;
  column = 1 + count_by begins_character (after_last ends_line bytes);
}

abbrev pub position_at : List ℕ → ℕ → Position
position_at text offset = position_behind (take offset text)
