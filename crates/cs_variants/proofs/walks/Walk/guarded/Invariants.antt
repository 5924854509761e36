use Rattle.cs_package.specs.View.{IsTable}
use Rattle.cs_variants.proofs.walks.Walk.guarded.Given as goal

abbrev pub invariant-loop-definition : goal.invariant-loop-definition
invariant-loop-definition l = IsTable l.names.entries
