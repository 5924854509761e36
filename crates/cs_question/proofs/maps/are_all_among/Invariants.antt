use Rattle.std.proofs.Common.{◌≡◌, ℕ, true, List, map, take}
use Rattle.std.specs.List.{list_any}
use Rattle.cs_instance.specs.Constraint.{allows}
use Rattle.cs_instance.specs.Steps.{field_of}
use Rattle.cs_question.specs.Spread.{is_among}
use Rattle.cs_question.proofs.maps.are_all_among.Given as goal

abbrev pub invariant-loop-field : goal.invariant-loop-field
invariant-loop-field l = (k : List ℕ) → list_any (λ d. allows d k) (map field_of (take l.field-index l.fields)) ≡ true → is_among l.labels k ≡ true
