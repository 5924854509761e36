use Rattle.std.proofs.Common.{take}
use Rattle.cs_grammar.specs.View.{fields_view}
use Rattle.cs_resolve.specs.Narrowed.{HoldsTexts}
use Rattle.cs_resolve.specs.Refinement.{texts}
use Rattle.cs_resolve.proofs.refinement.field_labels.Given as goal

abbrev pub invariant-loop-field : goal.invariant-loop-field
invariant-loop-field l = HoldsTexts l.labels (texts (fields_view (take l.field-index l.field-items)))
