use Rattle.std.proofs.Common.{map}
use Rattle.std.specs.List.{flat_map}
use Rattle.cs_grammar.specs.Tree.{definitions}
use Rattle.cs_grammar.specs.View.{file_view}
use Rattle.cs_conditions.specs.Checks.{TellsKinds}
use Rattle.cs_conditions.specs.Kinds.{kinds_within}
use Rattle.cs_conditions.proofs.kinds.KindTable.of.Given as goal

abbrev pub invariant-loop-passed : goal.invariant-loop-passed
invariant-loop-passed l = TellsKinds l.known (kinds_within (flat_map definitions (map file_view l.files)) l.passed)
