use Rattle.std.proofs.Common.{◌≡◌, ◌<◌, ◌≤◌, ℕ, true, false, List, Some, length, take, drop}
use Rattle.std.specs.Prelude.{slice_get}
use Rattle.std.specs.List.{AllByRecursion as Each}
use Rattle.cs_document.specs.Document.{Document, Documents, list, elements}
use Rattle.cs_question.specs.Asked.{meets_all}
use Rattle.cs_question.specs.Elements.{element_at, fits}
use Rattle.cs_question.specs.Nodes.{Judgement, IsMeaning, end_of}
use Rattle.cs_question.specs.Spread.{HoldsPlaces, IsFurther, AreTaken, spread_list}
use Rattle.cs_question.specs.Truth.{IsInner}
use Rattle.cs_question.proofs.lists.list_ways.Given as goal

abbrev pub invariant-loop-place : goal.invariant-loop-place
invariant-loop-place l = (J : Judgement) (ys : List Document) (i : ℕ) (y : Document) → i < l.place → slice_get ys i ≡ Some y → fits (λ z p. J l.literal.side p z) (element_at l.front (end_of l.end) i) y ≡ false → AreTaken J (spread_list l.count ys) l.ways.items
