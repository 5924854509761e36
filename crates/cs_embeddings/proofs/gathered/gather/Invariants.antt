use Rattle.std.proofs.Common.{List, map, take, drop}
use Rattle.cs_grammar.specs.Tree.{DefinitionTree}
use Rattle.cs_embeddings.specs.Checks.{TellsTables}
use Rattle.cs_embeddings.specs.GatheredTable.{declared_view, TellsLabels}
use Rattle.cs_embeddings.proofs.Gathering.{GathersSoFar}
use Rattle.cs_embeddings.proofs.gathered.gather.Given as goal

abbrev pub invariant-loop-declared : goal.invariant-loop-declared
invariant-loop-declared l = (ds : List DefinitionTree) → TellsTables l.embeddable ds
    → TellsLabels l.labels ds (map declared_view l.declarations) (map declared_view (take l.declared-index l.declarations))
    × GathersSoFar l.gathered.items ds (map declared_view l.declarations) (map declared_view (take l.declared-index l.declarations))
    (map declared_view (drop l.declared-index l.declarations))
