use Rattle.std.proofs.Common.{◌≡◌, ℕ, true, List, [], map, take, Contains}
use Rattle.std.specs.List.{list_all}
use Rattle.cs_document.specs.Document.{Document, Entry}
use Rattle.cs_instance.specs.Constraint.{declaration_holds}
use Rattle.cs_instance.specs.Steps.{field_of}
use Rattle.cs_question.specs.Nodes.{Judgement}
use Rattle.cs_question.specs.Spread.{HoldsPlaces, IsFurther, spread_map}
use Rattle.cs_question.proofs.maps.ask_fields.Given as goal

abbrev pub invariant-loop-field : goal.invariant-loop-field
invariant-loop-field l = record {
  rules : l.demands.rules ≡ l.initial.demands.rules;
  places : (J : Judgement) (n : ℕ) (ms : List (Entry Document)) → list_all (λ d. declaration_holds (λ y p. J l.literal.side p y) d ms) (map field_of (take l.field-index l.fields)) ≡ true → HoldsPlaces J n (spread_map [] ms) l.initial.demands.places.items → HoldsPlaces J n (spread_map [] ms) l.demands.places.items;
  further : (J : Judgement) (n : ℕ) (ms : List (Entry Document)) (m : Entry Document) → list_all (λ d. declaration_holds (λ y p. J l.literal.side p y) d ms) (map field_of (take l.field-index l.fields)) ≡ true → Contains ms m → IsFurther J n l.initial.demands.further m.1 → IsFurther J n l.demands.further m.1;
}
