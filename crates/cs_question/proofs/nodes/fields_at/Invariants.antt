use Rattle.std.proofs.Common.{◌≡◌, map, take}
use Rattle.cs_instance.specs.Steps.{numbered_fields, field_of}
use Rattle.cs_question.proofs.nodes.fields_at.Given as goal

abbrev pub invariant-loop-field : goal.invariant-loop-field
invariant-loop-field l = map field_of l.all.items ≡ numbered_fields l.inner (take l.field-index l.fields)
