use Rattle.std.proofs.Common.{◌≡◌, ◌++◌, map}
use Rattle.std.specs.Vec.Iter.{into_iter_items}
use Rattle.cs_embeddings.specs.Alternatives as Spec
use Rattle.cs_embeddings.specs.Views.{alternatives_view}
use Rattle.cs_embeddings.proofs.joining.Joining.meet.Given as goal

abbrev pub invariant-loop-alternative : goal.invariant-loop-alternative
invariant-loop-alternative l =
    alternatives_view l.found.alternatives.items ++ map (Spec.meet l.name) (alternatives_view (into_iter_items l.alternative-iterator))
    ≡ map (Spec.meet l.name) (alternatives_view l.fn.before.alternatives.items)
