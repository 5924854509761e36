use Rattle.std.proofs.Common.{◌≡◌, map, drop}
use Rattle.std.specs.Prelude.{nat_le}
use Rattle.cs_grammar.specs.View.{name_view}
use Rattle.cs_grammar.specs.Height.{height_names}
use Rattle.cs_syntax.proofs.parser.height.are_low_names.Given as goal

abbrev pub invariant-loop-name : goal.invariant-loop-name
invariant-loop-name l = nat_le (height_names (map name_view (drop l.name-index l.name-items))) l.limit ≡ nat_le (height_names (map name_view l.name-items)) l.limit
