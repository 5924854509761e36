use Rattle.std.proofs.Common.{◌≡◌, true, take}
use Rattle.cs_question.specs.Spread.{Spread, SomeOf, HoldsPlaces, HoldsState, IsTaken, IsBehind}
use Rattle.cs_question.specs.Truth.{Truth}
use Rattle.cs_question.proofs.places.push_open.Given as goal

abbrev pub invariant-loop-way : goal.invariant-loop-way
invariant-loop-way l = l.table.is_final ≡ true → (t : Truth l.table.entries.items) (s : Spread)
    → (SomeOf (HoldsState t.J s) l.initial.states.items → SomeOf (HoldsState t.J s) l.states.items)
    × (HoldsPlaces t.J t.n s l.places → HoldsState t.J s l.state → SomeOf (λ way. (IsBehind way → ⊥) × IsTaken t.J s way) (take l.way-index l.ways) → SomeOf (HoldsState t.J s) l.states.items)
