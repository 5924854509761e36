use Rattle.std.proofs.Common.{◌≡◌, ◌++◌}
use Rattle.std.specs.Vec.Iter.{into_iter_items}
use Rattle.cs_embeddings.specs.Views.{alternatives_view}
use Rattle.cs_embeddings.proofs.found.Found.append.Given as goal

abbrev pub invariant-loop-alternative : goal.invariant-loop-alternative
invariant-loop-alternative l =
    alternatives_view l.self.alternatives.items ++ alternatives_view (into_iter_items l.alternative-iterator)
    ≡ alternatives_view l.fn.self.alternatives.items ++ alternatives_view l.fn.further.alternatives.items
