use Rattle.std.proofs.Common.{◌++◌, ℕ, List, map, take}
use Rattle.std.specs.List.{flat_map}
use Rattle.cs_grammar.specs.View.{definition_view}
use Rattle.cs_plain.specs.Placed.{kinds_of}
use Rattle.cs_plain.specs.References.{TellsTexts}
use Rattle.cs_plain.proofs.kinds.add_definitions.Given as goal

abbrev pub invariant-loop-definition : goal.invariant-loop-definition
invariant-loop-definition l = (ss ns : List (List ℕ)) → TellsTexts l.initial.found ss → TellsTexts l.names ns
    → TellsTexts l.found (ss ++ flat_map (kinds_of ns) (map definition_view (take l.definition-index l.definitions)))
