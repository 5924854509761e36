use Rattle.std.proofs.Common.{◌≡◌, ◌++◌, map}
use Rattle.std.specs.Vec.Iter.{into_iter_items}
use Rattle.cs_grammar.specs.View.{field_view}
use Rattle.cs_embeddings.specs.Views.{origin_view, alternatives_view, with_field}
use Rattle.cs_embeddings.proofs.joining.Joining.join_field.Given as goal

abbrev pub invariant-loop-alternative : goal.invariant-loop-alternative
invariant-loop-alternative l =
    alternatives_view l.found.alternatives.items
    ++ map (with_field (origin_view l.origin) (field_view l.field)) (alternatives_view (into_iter_items l.alternative-iterator))
    ≡ map (with_field (origin_view l.origin) (field_view l.field)) (alternatives_view l.fn.before.alternatives.items)
