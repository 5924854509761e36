use Rattle.std.proofs.Common.{◌≡◌}
use Rattle.cs_lexer.specs.declared.text.TextState.TheVariants.{Inside}
use Rattle.cs_lexer.specs.Automaton.{text_len}
use Rattle.cs_lexer.proofs.Texts.{text_from}
use Rattle.cs_lexer.proofs.text.text_len.Given as goal

abbrev pub invariant-text : goal.invariant-text
invariant-text l = text_from l.bytes l.i l.state ≡ text_len Inside l.bytes
