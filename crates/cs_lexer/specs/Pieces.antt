-- What the lexer says of the front of a text.
use Rattle.std.specs.Prelude.{◌≡◌, ℕ, ◌-◌, ◌<◌, ◌≤◌, List, [], ◌∷◌, length, take, Bool, true, false, ◌==◌, ◌&&◌, nat_le, slice_index, if◌then◌else◌, Option, None}
use Rattle.std.specs.Option.{option_map, option_or}
use Rattle.cs_grammar.specs.declared.token.Sort.{Sort}
use Rattle.cs_grammar.specs.declared.line.LineState.{LineState}
use Rattle.cs_lexer.specs.declared.piece.Piece.{Piece}
use Rattle.cs_lexer.specs.declared.piece.Piece.TheVariants as pieces
use Rattle.cs_grammar.specs.Spelling.{is_name_byte, begins_definition, mark_sort}
use Rattle.cs_grammar.specs.Cut.{Begins, is_space, begins_comment, line_len}
use Rattle.cs_grammar.specs.Stuck.{NoneBegins, TooLarge}

-- the bytes at both ends of a token are ASCII
pub record Edges (bs : List ℕ) (n : ℕ) : Type 0 where
  pub some : 0 < n
  pub within : n ≤ length bs
  pub first : slice_index bs 0 < 128
  pub last : slice_index bs (n - 1) < 128

abbrev pub IsPiece : LineState → List ℕ → Piece → Type 0
IsPiece l bs pieces.Space = is_space (slice_index bs 0) ≡ true
IsPiece l bs pieces.NewLine = (slice_index bs 0 == 10) ≡ true
IsPiece l bs (pieces.Comment n) = (begins_comment bs ≡ true) × (n ≡ line_len bs)
IsPiece l bs (pieces.Token s n) = Begins l bs n s × Edges bs n
IsPiece l bs pieces.NoToken = NoneBegins bs
IsPiece l bs pieces.TooLarge = (n : ℕ) × TooLarge l bs n

-- a byte of a name
abbrev pub begins_name : List ℕ → Bool
begins_name [] = false
begins_name (x ∷ xs) = is_name_byte x

-- `#` (35), and what the name of a definition begins with
abbrev pub begins_definition_name : List ℕ → Bool
begins_definition_name (x ∷ y ∷ xs) = x == 35 && begins_definition y
begins_definition_name _ = false

-- `|_`
abbrev pub begins_bottom_rest : List ℕ → Bool
begins_bottom_rest (x ∷ y ∷ xs) = x == 124 && y == 95
begins_bottom_rest _ = false

-- the longest of three, two and one bytes that are a mark
abbrev pub mark_of : ℕ → List ℕ → Option (Sort × ℕ)
mark_of n bs = if nat_le n (length bs) then option_map (λ s. (s, n)) (mark_sort (take n bs)) else None

abbrev pub longest_mark : List ℕ → Option (Sort × ℕ)
longest_mark bs = option_or (mark_of 3 bs) (option_or (mark_of 2 bs) (mark_of 1 bs))
