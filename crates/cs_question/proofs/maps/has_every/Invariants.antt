use Rattle.std.proofs.Common.{◌≡◌, map, drop}
use Rattle.std.specs.List.{list_any}
use Rattle.cs_package.specs.Expression.{is_every, Declaration}
use Rattle.cs_instance.specs.Steps.{field_of}
use Rattle.cs_question.proofs.maps.has_every.Given as goal

abbrev pub invariant-loop-field : goal.invariant-loop-field
invariant-loop-field l = list_any (λ d. is_every d.mark) (map field_of l.fields) ≡ list_any (λ d. is_every d.mark) (map field_of (drop l.field-index l.fields))
