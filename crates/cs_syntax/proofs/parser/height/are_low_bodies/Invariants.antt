use Rattle.std.proofs.Common.{◌≡◌, map, drop}
use Rattle.std.specs.Prelude.{nat_le}
use Rattle.cs_grammar.specs.View.{definition_view}
use Rattle.cs_grammar.specs.Height.{height_definitions}
use Rattle.cs_syntax.proofs.parser.height.are_low_bodies.Given as goal

abbrev pub invariant-loop-definition : goal.invariant-loop-definition
invariant-loop-definition l = nat_le (height_definitions (map definition_view (drop l.definition-index l.definition-items))) l.limit ≡ nat_le (height_definitions (map definition_view l.definition-items)) l.limit
