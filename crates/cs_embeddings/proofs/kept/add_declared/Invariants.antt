use Rattle.std.proofs.Common.{◌≡◌, ◌++◌, map, take}
use Rattle.cs_embeddings.specs.GatheredTable.{declared_view}
use Rattle.cs_embeddings.proofs.Listed.{own_declared}
use Rattle.cs_embeddings.proofs.kept.add_declared.Given as goal

abbrev pub invariant-loop-definition : goal.invariant-loop-definition
invariant-loop-definition l =
    map declared_view l.all.items ≡ map declared_view l.initial.all.items ++ map own_declared (take l.definition-index l.definitions)
