use Rattle.std.proofs.Common.{◌≡◌, ◌+◌, ◌*◌, true, List, [], ◌∷◌, ◌++◌, drop}
use Rattle.std.specs.List.{flat_map, list_all}
use Rattle.std.specs.Vec.Iter.{into_iter_items}
use Rattle.cs_grammar.specs.Tree.{DefinitionTree}
use Rattle.cs_grammar.specs.View.{expr_view, exprs_view, declarations_view}
use Rattle.cs_embeddings.specs.Alternatives as Spec
use Rattle.cs_embeddings.specs.Checks.{TellsBodies, bodies_view}
use Rattle.cs_embeddings.specs.Embedded.{can_be_embedded, all_embedded, declarations_embed_well}
use Rattle.cs_embeddings.specs.Views.{origin_view, alternative_view, alternatives_view}
use Rattle.cs_embeddings.proofs.joining.Joining.+join.Given as goal

abbrev pub decreases-join : goal.decreases-join
decreases-join l = 5 * l.steps

abbrev pub decreases-join_declarations : goal.decreases-join_declarations
decreases-join_declarations l = 5 * l.steps + 2

abbrev pub decreases-join_definition : goal.decreases-join_definition
decreases-join_definition l = 5 * l.steps + 4

abbrev pub decreases-join_bodies : goal.decreases-join_bodies
decreases-join_bodies l = 5 * l.steps + 3

abbrev pub decreases-join_values : goal.decreases-join_values
decreases-join_values l = 5 * l.steps + 2

abbrev pub decreases-join_all : goal.decreases-join_all
decreases-join_all l = 5 * l.steps + 2

abbrev pub decreases-join_each : goal.decreases-join_each
decreases-join_each l = 5 * l.steps + 1

abbrev pub decreases-join_operands : goal.decreases-join_operands
decreases-join_operands l = 5 * l.steps + 1

abbrev pub invariant-join_declarations-loop-declaration : goal.invariant-join_declarations-loop-declaration
invariant-join_declarations-loop-declaration l =
    (ds : List DefinitionTree) → TellsBodies l.self.bodies.now ds
    → declarations_embed_well (can_be_embedded ds l.steps) (declarations_view l.declarations) ≡ true
    → (declarations_embed_well (can_be_embedded ds l.steps) (declarations_view (drop l.declaration-index l.declarations)) ≡ true)
    × (Spec.join_declarations (Spec.alternatives ds l.steps) (origin_view l.origin) (declarations_view (drop l.declaration-index l.declarations))
    (alternatives_view l.found.alternatives.items)
    ≡ Spec.join_declarations (Spec.alternatives ds l.steps) (origin_view l.origin) (declarations_view l.declarations) (alternative_view l.fn.before ∷ []))

abbrev pub invariant-join_values-loop-value : goal.invariant-join_values-loop-value
invariant-join_values-loop-value l =
    (ds : List DefinitionTree) → TellsBodies l.self.bodies.now ds
    → list_all (can_be_embedded ds l.steps) (bodies_view l.values) ≡ true
    → (list_all (can_be_embedded ds l.steps) (bodies_view (drop l.value-index l.values)) ≡ true)
    × (Spec.join_bodies (Spec.alternatives ds l.steps) (origin_view l.origin) (bodies_view (drop l.value-index l.values))
    (alternatives_view l.found.alternatives.items)
    ≡ Spec.join_bodies (Spec.alternatives ds l.steps) (origin_view l.origin) (bodies_view l.values) (alternative_view l.fn.before ∷ []))

abbrev pub invariant-join_each-loop-alternative : goal.invariant-join_each-loop-alternative
invariant-join_each-loop-alternative l =
    (goal.iterator-join_each-loop-alternative).can_next l.alternative-iterator
    × (goal.iterator-join_each-loop-alternative).is_finite l.alternative-iterator
    × ((ds : List DefinitionTree) → TellsBodies l.self.bodies.now ds → can_be_embedded ds l.steps (expr_view l.expr) ≡ true
    → alternatives_view l.found.alternatives.items
    ++ flat_map (Spec.alternatives ds l.steps (origin_view l.origin) (expr_view l.expr)) (alternatives_view (into_iter_items l.alternative-iterator))
    ≡ flat_map (Spec.alternatives ds l.steps (origin_view l.origin) (expr_view l.expr)) (alternatives_view l.fn.before.alternatives.items))

abbrev pub invariant-join_all-loop-operand : goal.invariant-join_all-loop-operand
invariant-join_all-loop-operand l =
    (ds : List DefinitionTree) → TellsBodies l.self.bodies.now ds → all_embedded (can_be_embedded ds l.steps) (exprs_view l.operands) ≡ true
    → (all_embedded (can_be_embedded ds l.steps) (exprs_view (drop l.operand-index l.operands)) ≡ true)
    × (Spec.join_all (Spec.alternatives ds l.steps) (origin_view l.origin) (exprs_view (drop l.operand-index l.operands))
    (alternatives_view l.found.alternatives.items)
    ≡ Spec.join_all (Spec.alternatives ds l.steps) (origin_view l.origin) (exprs_view l.operands) (alternative_view l.fn.before ∷ []))

abbrev pub invariant-join_operands-loop-operand : goal.invariant-join_operands-loop-operand
invariant-join_operands-loop-operand l =
    (ds : List DefinitionTree) → TellsBodies l.self.bodies.now ds → all_embedded (can_be_embedded ds l.steps) (exprs_view l.operands) ≡ true
    → (all_embedded (can_be_embedded ds l.steps) (exprs_view (drop l.operand-index l.operands)) ≡ true)
    × (alternatives_view l.found.alternatives.items
    ++ Spec.join_operands (Spec.alternatives ds l.steps) (origin_view l.origin) (exprs_view (drop l.operand-index l.operands)) (alternative_view l.before)
    ≡ alternatives_view l.fn.found.alternatives.items
    ++ Spec.join_operands (Spec.alternatives ds l.steps) (origin_view l.origin) (exprs_view l.operands) (alternative_view l.before))
