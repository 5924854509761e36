use Rattle.std.proofs.Common.{◌≡◌, ◌≤◌, ℕ, true, List, [], map, take}
use Rattle.cs_document.specs.Document.{Document, Members, object, AreMembers, depth, entries}
use Rattle.cs_question.specs.Asked.{meets_all}
use Rattle.cs_question.specs.Nodes.{Judgement, IsMeaning}
use Rattle.cs_question.specs.Spread.{HoldsPlaces, spread_map}
use Rattle.cs_question.proofs.maps.empty_places.Given as goal

abbrev pub invariant-loop-label : goal.invariant-loop-label
invariant-loop-label l = (J : Judgement) (n : ℕ) (ms : Members) → AreMembers ms → depth (object ms) ≤ n → HoldsPlaces J n (spread_map [] (entries ms)) l.places.items
