use Rattle.std.proofs.Common.{◌≡◌, drop}
use Rattle.cs_grammar.specs.View.{fields_view}
use Rattle.cs_defaults.specs.Absent as Spec
use Rattle.cs_defaults.proofs.absent.has_every.Given as goal

abbrev pub invariant-loop-field : goal.invariant-loop-field
invariant-loop-field l = Spec.has_every (fields_view l.fields) ≡ Spec.has_every (fields_view (drop l.field-index l.fields))
