use Rattle.std.proofs.Common.{◌≡◌, ◌++◌, map}
use Rattle.cs_grammar.specs.View.{field_view}
use Rattle.cs_syntax.proofs.Declared.{fields_in}
use Rattle.cs_syntax.proofs.parser.literal.fields_among.Given as goal

abbrev pub invariant-loop-declaration : goal.invariant-loop-declaration
invariant-loop-declaration l = map field_view l.fields.items ++ fields_in l.declaration-iterator.rest.items ≡ fields_in l.fn.declarations.items
