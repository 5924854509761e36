use Rattle.std.proofs.Common.{◌≡◌, map, take, slice_index}
use Rattle.cs_question.proofs.nodes.numbers_at.Given as goal

abbrev pub invariant-loop-place : goal.invariant-loop-place
invariant-loop-place l = l.numbers.items ≡ map (slice_index l.inner) (take l.place-index l.places)
