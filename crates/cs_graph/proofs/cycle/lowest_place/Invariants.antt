use Rattle.std.proofs.Common.{ℕ, ◌<◌, ◌≤◌, get_or}
use Rattle.cs_graph.proofs.cycle.lowest_place.Given as goal

abbrev pub invariant-loop-place : goal.invariant-loop-place
invariant-loop-place l = record {
  inside : l.lowest < l.place;
  lowest : (k d : ℕ) → k < l.place → get_or l.numbers l.lowest 0 ≤ get_or l.numbers k d;
}
