use Rattle.std.proofs.Common.{◌≡◌, ◌<◌, ◌^◌, drop}
use Rattle.cs_grammar.specs.Values.{digits_after}
use Rattle.cs_lexer.proofs.numeral.digits_value.Given as goal

abbrev pub invariant-loop-x : goal.invariant-loop-x
invariant-loop-x l = record { fits : l.value < 2 ^ 64; so_far : digits_after l.base l.value (drop l.x-index l.digits) ≡ digits_after l.base 0 l.digits }
