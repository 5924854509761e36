use Rattle.std.proofs.Common.{◌≡◌, drop}
use Rattle.cs_syntax.proofs.Declared.{are_fields}
use Rattle.cs_syntax.proofs.parser.literal.are_fields.Given as goal

abbrev pub invariant-loop-declaration : goal.invariant-loop-declaration
invariant-loop-declaration l = are_fields (drop l.declaration-index l.declarations) ≡ are_fields l.declarations
