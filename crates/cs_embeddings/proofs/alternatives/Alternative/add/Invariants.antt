use Rattle.std.proofs.Common.{◌≡◌, drop}
use Rattle.cs_grammar.specs.View.{fields_view}
use Rattle.cs_embeddings.specs.Alternatives as Spec
use Rattle.cs_embeddings.specs.Views.{origin_view, alternative_view}
use Rattle.cs_embeddings.proofs.alternatives.Alternative.add.Given as goal

abbrev pub invariant-loop-field : goal.invariant-loop-field
invariant-loop-field l = Spec.with_fields (origin_view l.fn.origin) (fields_view l.fn.fields) (alternative_view l.fn.self) ≡ Spec.with_fields (origin_view l.origin)
    (fields_view (drop l.field-index l.fields)) (alternative_view l.self)
