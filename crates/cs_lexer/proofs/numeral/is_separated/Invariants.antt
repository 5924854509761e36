use Rattle.std.proofs.Common.{◌≡◌, drop}
use Rattle.cs_grammar.specs.Spelling.{is_separated}
use Rattle.cs_lexer.proofs.numeral.is_separated.Given as goal

abbrev pub invariant-loop-i : goal.invariant-loop-i
invariant-loop-i l = is_separated (drop l.i l.text) ≡ is_separated l.text
