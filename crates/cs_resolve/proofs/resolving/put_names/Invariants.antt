use Rattle.std.proofs.Common.{ℕ, List, ◌++◌, map, take}
use Rattle.cs_grammar.specs.Tree.{defined_name}
use Rattle.cs_grammar.specs.View.{definition_view}
use Rattle.cs_resolve.specs.Steps.{HoldsNames}
use Rattle.cs_resolve.proofs.resolving.put_names.Given as goal

abbrev pub invariant-loop-definition : goal.invariant-loop-definition
invariant-loop-definition l = (ns : List (List ℕ)) → HoldsNames l.fn.names ns → HoldsNames l.names (ns ++ map defined_name (map definition_view (take l.definition-index l.definition-items)))
