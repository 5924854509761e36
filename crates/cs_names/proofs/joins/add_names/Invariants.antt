use Rattle.std.proofs.Common.{◌≡◌, ℕ, List, ◌++◌, map, take, drop}
use Rattle.cs_grammar.specs.View.{definition_view}
use Rattle.cs_grammar.specs.Tree.{defined_name}
use Rattle.cs_plain.specs.References.{TellsTexts}
use Rattle.cs_names.specs.Joined as Spec
use Rattle.cs_names.proofs.joins.add_names.Given as goal

abbrev pub invariant-loop-definition : goal.invariant-loop-definition
invariant-loop-definition l = (ss : List (List ℕ)) → TellsTexts l.initial.seen ss → (TellsTexts l.seen (ss ++ map defined_name (map definition_view (take l.definition-index l.definition-items)))) × (Spec.repeats ss (map defined_name (map definition_view l.definition-items)) ≡ Spec.repeats (ss ++ map defined_name (map definition_view (take l.definition-index l.definition-items))) (map defined_name (map definition_view (drop l.definition-index l.definition-items))))
