use Rattle.std.proofs.Common.{◌≡◌, ℕ, false, List, Bor, map, take}
use Rattle.std.specs.Prelude.{IsSome}
use Rattle.std.specs.List.{list_any}
use Rattle.cs_document.specs.Document.{Document, Entry, under}
use Rattle.cs_instance.specs.Constraint.{allows}
use Rattle.cs_instance.specs.Steps.{field_of}
use Rattle.cs_question.specs.Nodes.{Judgement}
use Rattle.cs_question.specs.Spread.{SomeOf, AreTaken, AddsWays, spread_map}
use Rattle.cs_question.proofs.maps.extra_ways.Given as goal

abbrev pub invariant-loop-label : goal.invariant-loop-label
invariant-loop-label l = record {
  kept : AddsWays l.initial.ways.items l.ways.items;
  taken : (J : Judgement) (ms : List (Entry Document)) (ls : List (Bor (List ℕ))) → SomeOf (λ k. IsSome (under k.now ms) × (list_any (λ d. allows d k.now) (map field_of l.fields.all.items) ≡ false)) (take l.label-index l.labels) → AreTaken J (spread_map ls ms) l.ways.items;
}
