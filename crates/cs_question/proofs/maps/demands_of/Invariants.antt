use Rattle.std.proofs.Common.{◌≡◌, ◌≤◌, ℕ, true, false, [], take, Contains}
use Rattle.std.specs.List.{AllByRecursion as Each}
use Rattle.cs_document.specs.Document.{Document, Members, Entry, object, AreMembers, depth, entries}
use Rattle.cs_question.specs.Asked.{meets_all}
use Rattle.cs_question.specs.Nodes.{Judgement, IsMeaning}
use Rattle.cs_question.specs.Spread.{HoldsPlaces, IsFurther, AreTaken, is_among, spread_map}
use Rattle.cs_question.specs.Truth.{IsInner}
use Rattle.cs_question.proofs.maps.demands_of.Given as goal

abbrev pub invariant-loop-literal : goal.invariant-loop-literal
invariant-loop-literal l = record {
  places : (J : Judgement) (n : ℕ) (ms : Members) → IsMeaning l.nodes J → AreMembers ms → depth (object ms) ≤ n → meets_all J (object ms) (take l.literal-index l.asked) ≡ true → HoldsPlaces J n (spread_map [] (entries ms)) l.demands.places.items;
  further : (J : Judgement) (n : ℕ) (ms : Members) (m : Entry Document) → IsMeaning l.nodes J → meets_all J (object ms) (take l.literal-index l.asked) ≡ true → Contains (entries ms) m → is_among l.labels m.0 ≡ false → IsInner n m.1 → IsFurther J n l.demands.further m.1;
  rules : (J : Judgement) (ms : Members) → IsMeaning l.nodes J → AreMembers ms → meets_all J (object ms) (take l.literal-index l.asked) ≡ true → Each (λ w. AreTaken J (spread_map l.labels (entries ms)) w.items) l.demands.rules.items;
}
