use Rattle.std.proofs.Common.{◌≡◌, drop}
use Rattle.std.specs.List.{list_any}
use Rattle.cs_package.specs.Expression.{is_every}
use Rattle.cs_package.specs.View.{mark_of}
use Rattle.cs_instance.specs.declared.rules.Field.{Field}
use Rattle.cs_instance.proofs.fields.has_every.Given as goal

abbrev pub invariant-loop-field : goal.invariant-loop-field
invariant-loop-field l =
    let for_every = λ (f : Field). is_every (mark_of f.mark) in
    list_any for_every l.fields ≡ list_any for_every (drop l.field-index l.fields)
