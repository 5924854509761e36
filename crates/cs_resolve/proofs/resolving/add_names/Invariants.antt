use Rattle.std.proofs.Common.{◌≡◌, ℕ, List, ◌++◌, map, take}
use Rattle.cs_grammar.specs.Tree.{defined_name}
use Rattle.cs_grammar.specs.View.{definition_view}
use Rattle.cs_resolve.specs.Declarations.{distinct}
use Rattle.cs_package.specs.View.{names_of, IsTable}
use Rattle.cs_resolve.proofs.resolving.add_names.Given as goal

abbrev pub invariant-loop-definition : goal.invariant-loop-definition
invariant-loop-definition l = record {
  table : IsTable l.names.entries;
  added : (ns : List (List ℕ)) → names_of l.fn.names.entries ≡ distinct ns → names_of l.names.entries ≡ distinct (ns ++ map defined_name (map definition_view (take l.definition-index l.definition-items)));
}
