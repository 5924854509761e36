use Rattle.std.proofs.Common.{◌≡◌, ℕ, true, List, [], Some, map, take}
use Rattle.std.specs.Prelude.{IfSome}
use Rattle.std.specs.List.{list_all, list_any}
use Rattle.cs_document.specs.Document.{Document, Entry, under}
use Rattle.cs_instance.specs.Constraint.{declaration_holds, allows}
use Rattle.cs_instance.specs.Steps.{field_of}
use Rattle.cs_question.specs.Nodes.{Judgement}
use Rattle.cs_question.specs.Spread.{HoldsPlaces, IsSuch, spread_map}
use Rattle.cs_question.proofs.maps.ask_field.Given as goal

abbrev pub invariant-loop-label : goal.invariant-loop-label
invariant-loop-label l = (J : Judgement) (n : ℕ) (ms : List (Entry Document)) → ((k : List ℕ) → IfSome (under k ms) (IsSuch J (Some l.value))) → HoldsPlaces J n (spread_map [] ms) l.initial.places.items → HoldsPlaces J n (spread_map [] ms) l.places.items
