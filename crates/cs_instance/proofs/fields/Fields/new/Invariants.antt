use Rattle.std.proofs.Common.{◌≡◌, map, take}
use Rattle.cs_flat.specs.View.{text_of}
use Rattle.cs_instance.specs.declared.rules.Field.{Field}
use Rattle.cs_instance.proofs.fields.Fields.new.Given as goal

abbrev pub invariant-loop-field : goal.invariant-loop-field
invariant-loop-field l = map text_of l.labels.items ≡ map (λ (f : Field). f.label.now) (take l.field-index l.field-items)
