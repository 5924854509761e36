use Rattle.std.proofs.Common.{drop}
use Rattle.cs_grammar.specs.View.{fields_view}
use Rattle.cs_embeddings.specs.Narrowed.{has_field}
use Rattle.cs_embeddings.specs.NarrowedTable.{IsRow}
use Rattle.cs_embeddings.proofs.LabelSteps.{Goes}
use Rattle.cs_embeddings.proofs.labels.add_fields.Given as goal

abbrev pub invariant-loop-field : goal.invariant-loop-field
invariant-loop-field l = IsRow l.initial.numbers l.initial.row.items
    → Goes l.initial.numbers l.numbers l.initial.row.items l.row.items (λ s. has_field s (fields_view l.fields))
    (λ s. has_field s (fields_view (drop l.field-index l.fields)))
