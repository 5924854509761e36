use Rattle.std.proofs.Common.{◌≡◌, ◌+◌, ◌*◌, true, List, drop}
use Rattle.std.specs.List.{list_all}
use Rattle.cs_grammar.specs.Tree.{DefinitionTree}
use Rattle.cs_grammar.specs.View.{exprs_view}
use Rattle.cs_embeddings.specs.Checks.{bodies_view}
use Rattle.cs_embeddings.specs.Embedded.{can_be_embedded, all_embedded}
use Rattle.cs_embeddings.specs.Narrowed.{joins_well}
use Rattle.cs_embeddings.specs.NarrowedTable.{TellsNarrowing}
use Rattle.cs_embeddings.proofs.narrowed.Narrowing.+joins.Given as goal

abbrev pub decreases-joins_well : goal.decreases-joins_well
decreases-joins_well l = 3 * l.steps

abbrev pub decreases-all_join : goal.decreases-all_join
decreases-all_join l = 3 * l.steps + 1

abbrev pub decreases-bodies_join : goal.decreases-bodies_join
decreases-bodies_join l = 3 * l.steps + 1

abbrev pub decreases-definition_joins : goal.decreases-definition_joins
decreases-definition_joins l = 3 * l.steps + 2

abbrev pub invariant-all_join-loop-operand : goal.invariant-all_join-loop-operand
invariant-all_join-loop-operand l =
    (ds : List DefinitionTree) → TellsNarrowing l.self ds → all_embedded (can_be_embedded ds l.steps) (exprs_view l.operands) ≡ true
    → (all_embedded (can_be_embedded ds l.steps) (exprs_view (drop l.operand-index l.operands)) ≡ true)
    × (all_embedded (joins_well ds l.steps) (exprs_view l.operands) ≡ all_embedded (joins_well ds l.steps) (exprs_view (drop l.operand-index l.operands)))

abbrev pub invariant-bodies_join-loop-body : goal.invariant-bodies_join-loop-body
invariant-bodies_join-loop-body l =
    (ds : List DefinitionTree) → TellsNarrowing l.self ds → list_all (can_be_embedded ds l.steps) (bodies_view l.bodies) ≡ true
    → (list_all (can_be_embedded ds l.steps) (bodies_view (drop l.body-index l.bodies)) ≡ true)
    × (list_all (joins_well ds l.steps) (bodies_view l.bodies) ≡ list_all (joins_well ds l.steps) (bodies_view (drop l.body-index l.bodies)))
