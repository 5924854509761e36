-- What begins at a place besides a token (CUE, comments, string and byte sequence literals).
use Rattle.std.specs.Prelude.{ℕ, List, ◌∷◌, Bool, false, ◌==◌, ◌&&◌}

-- three quotes
abbrev pub begins_quotes : List ℕ → Bool
begins_quotes (x ∷ y ∷ z ∷ xs) = x == 34 && (y == 34 && z == 34)
begins_quotes _ = false

-- `//`
abbrev pub begins_comment : List ℕ → Bool
begins_comment (x ∷ y ∷ xs) = x == 47 && y == 47
begins_comment _ = false
