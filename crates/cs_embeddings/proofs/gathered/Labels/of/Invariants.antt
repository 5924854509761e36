use Rattle.std.proofs.Common.{List, [], map, take}
use Rattle.cs_grammar.specs.Tree.{DefinitionTree}
use Rattle.cs_embeddings.specs.GatheredTable.{declared_view, TellsLabels}
use Rattle.cs_embeddings.proofs.gathered.Labels.of.Given as goal

abbrev pub invariant-loop-declared : goal.invariant-loop-declared
invariant-loop-declared l = (ds : List DefinitionTree) → TellsLabels l.labels ds (map declared_view (take l.declared-index l.declarations)) []
