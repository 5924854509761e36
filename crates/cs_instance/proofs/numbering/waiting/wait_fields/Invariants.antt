use Rattle.std.proofs.Common.{take}
use Rattle.cs_instance.specs.Placing.{FieldsWait}
use Rattle.cs_instance.proofs.numbering.waiting.wait_fields.Given as goal

abbrev pub invariant-loop-part : goal.invariant-loop-part
invariant-loop-part l = FieldsWait (take l.part-index l.parts) l.initial.numberer l.numberer l.fields.items
