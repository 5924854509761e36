use Rattle.std.proofs.Common.{◌≡◌, ◌<◌, ◌≤◌, ℕ, true, false, List, Some, length, take, drop}
use Rattle.std.specs.Prelude.{slice_get}
use Rattle.std.specs.List.{AllByRecursion as Each}
use Rattle.cs_document.specs.Document.{Document, Documents, list, elements}
use Rattle.cs_question.specs.Asked.{meets_all}
use Rattle.cs_question.specs.Elements.{element_at, fits}
use Rattle.cs_question.specs.Nodes.{Judgement, IsMeaning, end_of}
use Rattle.cs_question.specs.Spread.{HoldsPlaces, IsFurther, AreTaken, spread_list}
use Rattle.cs_question.specs.Truth.{IsInner}
use Rattle.cs_question.proofs.lists.rules_of.Given as goal

abbrev pub invariant-loop-literal : goal.invariant-loop-literal
invariant-loop-literal l = (J : Judgement) (ds : Documents) → IsMeaning l.nodes J → meets_all J (list ds) (take l.literal-index l.asked) ≡ true → l.count ≤ length (elements ds) → Each (λ w. AreTaken J (spread_list l.count (elements ds)) w.items) l.rules.items
