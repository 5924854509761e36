-- Texts that begin with a quote.
use Rattle.std.specs.Prelude.{ℕ, List, [], ◌∷◌, Bool, true, false, ◌==◌, ◌&&◌}
use Rattle.cs_grammar.specs.declared.token.Sort.{Sort}
use Rattle.cs_grammar.specs.declared.token.Sort.TheVariants as sorts
use Rattle.cs_grammar.specs.Cut.{Lexeme, lexeme}

abbrev pub begins_quote : List ℕ → Bool
begins_quote [] = false
begins_quote (x ∷ xs) = x == 34

-- for private contracts alone
abbrev pub is_quoted : Sort → List ℕ → Bool
is_quoted sorts.Text t = begins_quote t
is_quoted s t = true

-- each text of these tokens begins with a quote; for private contracts alone
abbrev pub are_quoted : List Lexeme → Bool
are_quoted [] = true
are_quoted (lexeme s t o ∷ ks) = is_quoted s t && are_quoted ks
