use Rattle.std.proofs.Common.{ℕ, take}
use Rattle.std.specs.List.{AllByRecursion as Each}
use Rattle.cs_question.specs.Nodes.{Judgement}
use Rattle.cs_question.specs.Spread.{Spread, HoldsPlaces, IsTaken}
use Rattle.cs_question.proofs.places.places_after.Given as goal

abbrev pub invariant-loop-way : goal.invariant-loop-way
invariant-loop-way l = (J : Judgement) (n : ℕ) (s : Spread) → HoldsPlaces J n s l.places → Each (IsTaken J s) (take l.way-index l.chosen) → HoldsPlaces J n s l.all.items
