use Rattle.std.proofs.Common.{take}
use Rattle.cs_grammar.specs.View.{fields_view}
use Rattle.cs_resolve.specs.Around.{HoldsLabels}
use Rattle.cs_resolve.specs.Scopes.{labels}
use Rattle.cs_resolve.proofs.shapes.labels_of.Given as goal

abbrev pub invariant-loop-field : goal.invariant-loop-field
invariant-loop-field l = HoldsLabels l.labels (labels (fields_view (take l.field-index l.field-items)))
