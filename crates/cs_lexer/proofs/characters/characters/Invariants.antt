use Rattle.std.proofs.Common.{◌≡◌, ◌++◌, [], ◌∷◌, string_bytes}
use Rattle.std.specs.Str.Iter.{chars_rest}
use Rattle.cs_lexer.specs.declared.text.TextState.TheVariants.{Inside}
use Rattle.cs_lexer.specs.Automaton.{value_from}
use Rattle.cs_lexer.proofs.CharacterSteps.{value_behind}
use Rattle.cs_lexer.proofs.characters.characters.Given as goal

abbrev pub invariant-text : goal.invariant-text
invariant-text l = value_from Inside (l.inside ++ 34 ∷ []) ≡ value_behind (string_bytes l.found) l.state (chars_rest l.character-iterator ++ 34 ∷ [])
