use Rattle.std.proofs.Common.{◌≡◌, ◌<◌, ◌≤◌, ℕ, true, false, List, Some, length, take, drop}
use Rattle.std.specs.Prelude.{slice_get}
use Rattle.std.specs.List.{AllByRecursion as Each}
use Rattle.cs_document.specs.Document.{Document, Documents, list, elements}
use Rattle.cs_question.specs.Asked.{meets_all}
use Rattle.cs_question.specs.Elements.{element_at, fits}
use Rattle.cs_question.specs.Nodes.{Judgement, IsMeaning, end_of}
use Rattle.cs_question.specs.Spread.{HoldsPlaces, IsFurther, AreTaken, spread_list}
use Rattle.cs_question.specs.Truth.{IsInner}
use Rattle.cs_question.proofs.lists.places_of.Given as goal

abbrev pub invariant-loop-place : goal.invariant-loop-place
invariant-loop-place l = (J : Judgement) (n : ℕ) (ds : Documents) → IsMeaning l.nodes J → meets_all J (list ds) l.asked ≡ true → Each (IsInner n) (elements ds) → l.count ≤ length (elements ds) → HoldsPlaces J n (spread_list l.count (elements ds)) l.places.items
