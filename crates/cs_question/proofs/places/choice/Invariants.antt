use Rattle.std.proofs.Common.{◌≡◌, true}
use Rattle.std.specs.List.{AllByRecursion as Each}
use Rattle.cs_question.specs.Spread.{Spread, SomeOf, HoldsPlaces, HoldsState, HoldsFurther, AreTaken}
use Rattle.cs_question.specs.Truth.{Truth}
use Rattle.cs_question.proofs.places.choice.Given as goal

abbrev pub invariant-loop : goal.invariant-loop
invariant-loop l = l.table.is_final ≡ true → (t : Truth l.table.entries.items) (s : Spread) → HoldsPlaces t.J t.n s l.demands.places.items → HoldsFurther t.J t.n s l.demands.further → Each (λ w. AreTaken t.J s w.items) l.demands.rules.items → SomeOf (HoldsState t.J s) l.states.items
