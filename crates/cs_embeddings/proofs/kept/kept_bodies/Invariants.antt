use Rattle.std.proofs.Common.{List, ◌++◌, map, take, drop}
use Rattle.cs_grammar.specs.Tree.{DefinitionTree}
use Rattle.cs_embeddings.specs.Alternatives.{Brought}
use Rattle.cs_embeddings.specs.Bodies.{as_declared}
use Rattle.cs_embeddings.specs.Checks.{TellsTables}
use Rattle.cs_embeddings.specs.GatheredTable.{declared_view, TellsLabels}
use Rattle.cs_embeddings.proofs.Keeping.{KeepsSoFar}
use Rattle.cs_embeddings.proofs.kept.kept_bodies.Given as goal

abbrev pub invariant-loop-body : goal.invariant-loop-body
invariant-loop-body l = (ds : List DefinitionTree) (before : List Brought) → TellsTables l.embeddable ds → TellsLabels l.initial.labels ds (map as_declared ds) before
    → TellsLabels l.labels ds (map as_declared ds) (before ++ map declared_view (take l.body-index l.body-items))
    × KeepsSoFar l.kept.items ds (map declared_view l.body-items) before (before ++ map declared_view (take l.body-index l.body-items))
    (map declared_view (drop l.body-index l.body-items))
