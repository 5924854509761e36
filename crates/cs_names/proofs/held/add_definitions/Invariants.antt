use Rattle.std.proofs.Common.{ℕ, List, ◌++◌, map, take}
use Rattle.cs_grammar.specs.View.{definition_view}
use Rattle.cs_plain.specs.References.{TellsTexts}
use Rattle.cs_names.specs.Joined as Spec
use Rattle.cs_names.proofs.held.add_definitions.Given as goal

abbrev pub invariant-loop-definition : goal.invariant-loop-definition
invariant-loop-definition l = (ss : List (List ℕ)) → TellsTexts l.initial.found ss → TellsTexts l.found (ss ++ Spec.holding_of (map definition_view (take l.definition-index l.definition-items)))
