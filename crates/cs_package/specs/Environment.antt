-- The definitions of a package, by name (CUE language specification, "Definitions and hidden fields").
use Rattle.std.specs.Prelude.{◌≡◌, ℕ, List, [], ◌∷◌, ◌++◌, Option, Some, None, IsSome, IsTrue, codes, map, slice_get, if◌then◌else◌}
use Rattle.std.specs.Option.{option_map}
use Rattle.std.specs.Str.{bytes_eq}
use Rattle.cs_grammar.specs.Spelling.{is_definition_rest}
use Rattle.cs_package.specs.Expression.{Expression}

-- each declared name, without `#`, with all its bodies, in order of first declaration
abbrev pub Environment : Type 0
Environment = List (List ℕ × List Expression)

abbrev pub declared_names : Environment → List (List ℕ)
declared_names E = map (λ d. d.0) E

-- the bodies of a name, where it is declared
abbrev pub bodies : Environment → List ℕ → Option (List Expression)
bodies [] n = None
bodies (d ∷ E) n = if bytes_eq n d.0 then Some d.1 else bodies E n

-- the name at a place, and its bodies
abbrev pub name_at : Environment → ℕ → Option (List ℕ)
name_at E i = option_map (λ d. d.0) (slice_get E i)

abbrev pub bodies_at : Environment → ℕ → Option (List Expression)
bodies_at E i = option_map (λ d. d.1) (slice_get E i)

-- a letter, `_` or `$`, then letters, digits, `_` and `$`
abbrev pub IsDefinitionName : List ℕ → Type 0
IsDefinitionName n = IsTrue (is_definition_rest n)

-- a name as CUE writes it
abbrev pub written : List ℕ → List ℕ
written n = codes "#" ++ n

-- the text is n as CUE writes it, and n is declared
pub record Names (E : Environment) (t n : List ℕ) : Type 0 where
  pub text : t ≡ written n
  pub declared : IsSome (bodies E n)
