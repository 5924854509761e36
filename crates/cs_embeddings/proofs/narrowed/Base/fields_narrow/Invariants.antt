use Rattle.std.proofs.Common.{◌≡◌, drop}
use Rattle.cs_grammar.specs.View.{fields_view}
use Rattle.cs_embeddings.specs.Narrowed as Spec
use Rattle.cs_embeddings.specs.NarrowedTable.{base_has}
use Rattle.cs_embeddings.proofs.narrowed.Base.fields_narrow.Given as goal

abbrev pub invariant-loop-field : goal.invariant-loop-field
invariant-loop-field l =
    Spec.fields_narrow (base_has l.self) (fields_view l.fields) ≡ Spec.fields_narrow (base_has l.self) (fields_view (drop l.field-index l.fields))
