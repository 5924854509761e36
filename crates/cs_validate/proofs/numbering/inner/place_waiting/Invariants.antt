use Rattle.std.proofs.Common.{ℕ, ◌≤◌, List, length, drop}
use Rattle.cs_document.specs.Document.{Document}
use Rattle.cs_validate.specs.Placing.{waiting, AreNumberedBy, IsKnown}
use Rattle.cs_validate.specs.Ranked.{PlacesWaiting}
use Rattle.cs_validate.proofs.Whole.{inside}
use Rattle.cs_validate.proofs.numbering.inner.place_waiting.Given as goal

abbrev pub invariant-loop-alloc : goal.invariant-loop-alloc
invariant-loop-alloc l = record {
  most : length l.inner.items ≤ length l.numberer.pending.items;
  placed : (R : Document) (placed : List Document)
      → AreNumberedBy R placed l.initial.numberer
      → ((n : List ℕ) → IsKnown R l.numbers placed n)
      → PlacesWaiting R placed (waiting l.initial.numberer.pending.items) l.numberer l.inner.items;
}

abbrev pub decreases-loop-alloc : goal.decreases-loop-alloc
decreases-loop-alloc l = length (inside (drop (length l.inner.items) (waiting l.numberer.pending.items)))
