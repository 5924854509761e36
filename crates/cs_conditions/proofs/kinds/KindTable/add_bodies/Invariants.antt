use Rattle.std.proofs.Common.{ℕ, List, ◌++◌, map, take}
use Rattle.cs_grammar.specs.Tree.{DefinitionTree}
use Rattle.cs_grammar.specs.View.{definition_view}
use Rattle.cs_conditions.specs.Checks.{TellsKinds, TellsKindsOf}
use Rattle.cs_conditions.specs.declared.kinds.Kinds.{Kinds}
use Rattle.cs_conditions.proofs.kinds.KindTable.add_bodies.Given as goal

abbrev pub invariant-loop-definition : goal.invariant-loop-definition
invariant-loop-definition l = (known : List ℕ → Kinds) (ds : List DefinitionTree) → TellsKinds l.self known → TellsKindsOf l.initial.next known ds
    → TellsKindsOf l.next known (ds ++ map definition_view (take l.definition-index l.definition-items))
