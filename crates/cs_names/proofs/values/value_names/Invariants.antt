use Rattle.std.proofs.Common.{map, take}
use Rattle.cs_names.specs.Checks.{lifted_view}
use Rattle.cs_names.specs.Named as Spec
use Rattle.cs_plain.specs.References.{TellsTexts}
use Rattle.cs_names.proofs.values.value_names.Given as goal

abbrev pub invariant-loop-lifted : goal.invariant-loop-lifted
invariant-loop-lifted l = TellsTexts l.names (Spec.value_names (map lifted_view (take l.lifted-index l.lifted-items)))
