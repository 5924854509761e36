use Rattle.std.proofs.Common.{◌≡◌, true, take}
use Rattle.cs_question.specs.Spread.{Spread, SomeOf, HoldsFurther, IsTaken, IsBehind}
use Rattle.cs_question.specs.Truth.{Truth}
use Rattle.cs_question.proofs.places.first_free.Given as goal

abbrev pub invariant-loop-way : goal.invariant-loop-way
invariant-loop-way l = l.table.is_final ≡ true → (t : Truth l.table.entries.items) (s : Spread) → HoldsFurther t.J t.n s l.further → SomeOf (λ way. IsBehind way × IsTaken t.J s way) (take l.way-index l.ways) → ⊥
