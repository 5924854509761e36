use Rattle.std.proofs.Common.{◌≡◌, ◌≤◌, ℕ, true, false, List, [], map, take, Contains}
use Rattle.std.specs.List.{AllByRecursion as Each}
use Rattle.cs_document.specs.Document.{Document, Members, Entry, object, AreMembers, depth, entries, under}
use Rattle.cs_instance.specs.Constraint.{declaration_holds}
use Rattle.cs_question.specs.Asked.{meets_all}
use Rattle.cs_instance.specs.Steps.{field_of}
use Rattle.cs_question.specs.Nodes.{Judgement, IsMeaning}
use Rattle.cs_question.specs.Spread.{HoldsAt, HoldsPlaces, IsFurther, AreTaken, AddsWays, is_among, spread_map, name_of, label}
use Rattle.cs_question.specs.Spread.{SomeOf}
use Rattle.cs_question.proofs.maps.struct_ways.Given as goal

abbrev pub invariant-loop-field : goal.invariant-loop-field
invariant-loop-field l = (J : Judgement) (ms : Members) → AreMembers ms → SomeOf (λ d. declaration_holds (λ y p. J l.literal.side p y) d (entries ms) ≡ false) (map field_of (take l.field-index l.field-items)) → AreTaken J (spread_map l.labels (entries ms)) l.ways.items
