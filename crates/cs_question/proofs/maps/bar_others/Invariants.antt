use Rattle.std.proofs.Common.{◌≡◌, ℕ, true, List, [], Some, map, take}
use Rattle.std.specs.Prelude.{IfSome}
use Rattle.std.specs.List.{list_all, list_any}
use Rattle.cs_document.specs.Document.{Document, Entry, under}
use Rattle.cs_instance.specs.Constraint.{declaration_holds, allows}
use Rattle.cs_instance.specs.Steps.{field_of}
use Rattle.cs_question.specs.Nodes.{Judgement}
use Rattle.cs_question.specs.Spread.{HoldsPlaces, IsSuch, spread_map}
use Rattle.cs_question.proofs.maps.bar_others.Given as goal

abbrev pub invariant-loop-label : goal.invariant-loop-label
invariant-loop-label l = (J : Judgement) (n : ℕ) (ms : List (Entry Document)) → list_all (λ (m : Entry Document). list_any (λ d. allows d m.0) (map field_of l.fields.all.items)) ms ≡ true → HoldsPlaces J n (spread_map [] ms) l.initial.places.items → HoldsPlaces J n (spread_map [] ms) l.places.items
