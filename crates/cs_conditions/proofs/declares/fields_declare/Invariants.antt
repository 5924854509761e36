use Rattle.std.proofs.Common.{◌≡◌, drop}
use Rattle.cs_grammar.specs.View.{fields_view}
use Rattle.cs_conditions.specs.Faults.{fields_declare}
use Rattle.cs_conditions.proofs.declares.fields_declare.Given as goal

abbrev pub invariant-loop-field : goal.invariant-loop-field
invariant-loop-field l = fields_declare l.with_default l.label (fields_view l.fields) ≡ fields_declare l.with_default l.label (fields_view (drop l.field-index l.fields))
