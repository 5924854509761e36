use Rattle.std.proofs.Common.{◌≡◌, ℕ, true, Some, length}
use Rattle.std.specs.Prelude.{slice_get, slice_index}
use Rattle.cs_question.specs.Truth.{IsMetByNone}
use Rattle.cs_question.proofs.questions.unmet.Given as goal

abbrev pub invariant-loop-place : goal.invariant-loop-place
invariant-loop-place l = record {
  long : length l.all.items ≡ l.place;
  none : (i : ℕ) → slice_get l.all.items i ≡ Some true → IsMetByNone l.table.entries.items (slice_index l.rules i);
}
