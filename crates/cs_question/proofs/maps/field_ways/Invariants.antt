use Rattle.std.proofs.Common.{◌≡◌, ℕ, false, List, Bor, take}
use Rattle.std.specs.Prelude.{IsSomeAnd}
use Rattle.cs_document.specs.Document.{Document, Entry, under}
use Rattle.cs_question.specs.Nodes.{Judgement}
use Rattle.cs_question.specs.Spread.{SomeOf, AreTaken, AddsWays, spread_map}
use Rattle.cs_question.proofs.maps.field_ways.Given as goal

abbrev pub invariant-loop-label : goal.invariant-loop-label
invariant-loop-label l = record {
  kept : AddsWays l.initial.ways.items l.ways.items;
  taken : (J : Judgement) (ms : List (Entry Document)) (ls : List (Bor (List ℕ))) → SomeOf (λ k. IsSomeAnd (under k.now ms) (λ y. J l.value.side l.value.rule y ≡ false)) (take l.label-index l.labels) → AreTaken J (spread_map ls ms) l.ways.items;
}
