use Rattle.std.proofs.Common.{ℕ, ◌≤◌, List, [], length, drop}
use Rattle.std.specs.List.{flat_map}
use Rattle.cs_package.specs.Environment.{Environment}
use Rattle.cs_instance.specs.Instance.{Rule}
use Rattle.cs_instance.specs.Rules.{subexpressions}
use Rattle.cs_instance.specs.Placing.{waiting, AreNumberedBy, AreKnownIn, PlacesWaiting}
use Rattle.cs_instance.proofs.numbering.inner.place_waiting.Given as goal

abbrev pub invariant-loop-alloc : goal.invariant-loop-alloc
invariant-loop-alloc l = record {
  most : length l.inner.items ≤ length l.numberer.pending.items;
  placed : (E : Environment) (names : List (List ℕ)) (placed : List Rule) → AreNumberedBy E names placed l.initial.numberer → AreKnownIn names l.numbers placed (waiting names l.initial.numberer)
      → PlacesWaiting E names l.numbers placed l.initial.numberer l.numberer l.inner.items;
}

abbrev pub decreases-loop-alloc : goal.decreases-loop-alloc
decreases-loop-alloc l = length (flat_map subexpressions (drop (length l.inner.items) (waiting [] l.numberer)))
