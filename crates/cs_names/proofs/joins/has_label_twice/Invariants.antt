use Rattle.std.proofs.Common.{◌≡◌, [], take, drop}
use Rattle.cs_grammar.specs.View.{fields_view}
use Rattle.cs_plain.specs.References.{TellsTexts}
use Rattle.cs_names.specs.Joined as Spec
use Rattle.cs_names.proofs.joins.has_label_twice.Given as goal

abbrev pub invariant-loop-field : goal.invariant-loop-field
invariant-loop-field l = (TellsTexts l.seen (Spec.labels (fields_view (take l.field-index l.fields)))) × (Spec.repeats [] (Spec.labels (fields_view l.fields)) ≡ Spec.repeats (Spec.labels (fields_view (take l.field-index l.fields))) (Spec.labels (fields_view (drop l.field-index l.fields))))
