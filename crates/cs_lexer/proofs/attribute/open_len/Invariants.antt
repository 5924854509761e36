use Rattle.std.proofs.Common.{◌≡◌, [], reverse}
use Rattle.cs_grammar.specs.Attribute.{open_len}
use Rattle.cs_grammar.specs.declared.attribute.Opened.TheVariants as opened
use Rattle.cs_lexer.proofs.Attributes.{open_from}
use Rattle.cs_lexer.proofs.attribute.open_len.Given as goal

abbrev pub invariant-attribute : goal.invariant-attribute
invariant-attribute l = open_from l.bytes l.i l.innermost (reverse l.outer.items) ≡ open_len opened.Paren [] l.bytes
