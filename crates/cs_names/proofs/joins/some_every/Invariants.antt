use Rattle.std.proofs.Common.{◌≡◌, drop}
use Rattle.cs_grammar.specs.View.{fields_view}
use Rattle.cs_names.specs.Joined as Spec
use Rattle.cs_names.proofs.joins.some_every.Given as goal

abbrev pub invariant-loop-field : goal.invariant-loop-field
invariant-loop-field l = Spec.some_every (fields_view l.fields) ≡ Spec.some_every (fields_view (drop l.field-index l.fields))
