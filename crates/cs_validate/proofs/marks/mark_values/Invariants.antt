use Rattle.std.proofs.Common.{map, drop}
use Rattle.cs_document.specs.View.{doc_view}
use Rattle.cs_rules.specs.Alike.{Compared}
use Rattle.cs_validate.specs.Marked.{AddsScalars}
use Rattle.cs_validate.proofs.marks.mark_values.Given as goal

abbrev pub invariant-loop-value : goal.invariant-loop-value
invariant-loop-value l = (n : Compared) → AddsScalars (map doc_view (drop l.value-index l.values)) l.marks n → AddsScalars (map doc_view l.values) l.initial.marks n
