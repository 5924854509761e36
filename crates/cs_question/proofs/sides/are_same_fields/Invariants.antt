use Rattle.std.proofs.Common.{◌≡◌, ℕ, ◌<◌, map}
use Rattle.std.specs.Prelude.{slice_get}
use Rattle.cs_instance.specs.Steps.{field_of}
use Rattle.cs_question.proofs.sides.are_same_fields.Given as goal

abbrev pub invariant-loop-i : goal.invariant-loop-i
invariant-loop-i l = (k : ℕ) → k < l.i → slice_get (map field_of l.first) k ≡ slice_get (map field_of l.second) k
