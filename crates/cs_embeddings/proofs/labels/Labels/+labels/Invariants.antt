use Rattle.std.proofs.Common.{◌≡◌, ◌+◌, ◌*◌, ℕ, Bool, true, List, drop}
use Rattle.std.specs.List.{list_all, list_any}
use Rattle.cs_grammar.specs.Tree.{DefinitionTree}
use Rattle.cs_grammar.specs.View.{exprs_view, declarations_view}
use Rattle.cs_embeddings.specs.Checks.{bodies_view}
use Rattle.cs_embeddings.specs.Embedded.{can_be_embedded, all_embedded, declarations_embed_well}
use Rattle.cs_embeddings.specs.Narrowed.{declares, has_declaration, some_declares}
use Rattle.cs_embeddings.specs.NarrowedTable.{IsRow, TellsLabels}
use Rattle.cs_embeddings.proofs.LabelSteps.{Goes, Meets}
use Rattle.cs_embeddings.proofs.labels.Labels.+labels.Given as goal

abbrev pub decreases-add : goal.decreases-add
decreases-add l = 5 * l.steps

abbrev pub decreases-row_of : goal.decreases-row_of
decreases-row_of l = 5 * l.steps + 1

abbrev pub decreases-add_declarations : goal.decreases-add_declarations
decreases-add_declarations l = 5 * l.steps + 1

abbrev pub decreases-add_all : goal.decreases-add_all
decreases-add_all l = 5 * l.steps + 1

abbrev pub decreases-add_bodies : goal.decreases-add_bodies
decreases-add_bodies l = 5 * l.steps + 1

abbrev pub decreases-add_alternatives : goal.decreases-add_alternatives
decreases-add_alternatives l = 5 * l.steps + 2

abbrev pub decreases-add_definition : goal.decreases-add_definition
decreases-add_definition l = 5 * l.steps + 2

abbrev pub invariant-add_declarations-loop-declaration : goal.invariant-add_declarations-loop-declaration
invariant-add_declarations-loop-declaration l =
    (ds : List DefinitionTree) → TellsLabels l.self l.initial.numbers ds → IsRow l.initial.numbers l.initial.row.items
    → declarations_embed_well (can_be_embedded ds l.steps) (declarations_view l.declarations) ≡ true
    → (declarations_embed_well (can_be_embedded ds l.steps) (declarations_view (drop l.declaration-index l.declarations)) ≡ true)
    × Goes l.initial.numbers l.numbers l.initial.row.items l.row.items (λ s. has_declaration (declares ds l.steps s) s (declarations_view l.declarations))
    (λ s. has_declaration (declares ds l.steps s) s (declarations_view (drop l.declaration-index l.declarations)))

abbrev pub invariant-add_all-loop-operand : goal.invariant-add_all-loop-operand
invariant-add_all-loop-operand l =
    (ds : List DefinitionTree) → TellsLabels l.self l.initial.numbers ds → IsRow l.initial.numbers l.initial.row.items
    → all_embedded (can_be_embedded ds l.steps) (exprs_view l.operands) ≡ true
    → (all_embedded (can_be_embedded ds l.steps) (exprs_view (drop l.operand-index l.operands)) ≡ true)
    × Goes l.initial.numbers l.numbers l.initial.row.items l.row.items (λ s. some_declares (declares ds l.steps s) (exprs_view l.operands))
    (λ s. some_declares (declares ds l.steps s) (exprs_view (drop l.operand-index l.operands)))

abbrev pub invariant-add_bodies-loop-body : goal.invariant-add_bodies-loop-body
invariant-add_bodies-loop-body l =
    (ds : List DefinitionTree) → TellsLabels l.self l.initial.numbers ds → IsRow l.initial.numbers l.initial.row.items
    → list_all (can_be_embedded ds l.steps) (bodies_view l.bodies) ≡ true
    → (list_all (can_be_embedded ds l.steps) (bodies_view (drop l.body-index l.bodies)) ≡ true)
    × Goes l.initial.numbers l.numbers l.initial.row.items l.row.items (λ s. list_any (declares ds l.steps s) (bodies_view l.bodies))
    (λ s. list_any (declares ds l.steps s) (bodies_view (drop l.body-index l.bodies)))

abbrev pub invariant-add_alternatives-loop-other : goal.invariant-add_alternatives-loop-other
invariant-add_alternatives-loop-other l =
    (ds : List DefinitionTree) (before : List ℕ → Bool) → TellsLabels l.self l.initial.numbers ds
    → all_embedded (can_be_embedded ds l.steps) (exprs_view l.others) ≡ true
    → Meets l.initial.numbers l.initial.numbers l.initial.met.items before (λ s. all_embedded (declares ds l.steps s) (exprs_view l.others))
    → (all_embedded (can_be_embedded ds l.steps) (exprs_view (drop l.other-index l.others)) ≡ true)
    × Meets l.initial.numbers l.numbers l.met.items before (λ s. all_embedded (declares ds l.steps s) (exprs_view (drop l.other-index l.others)))
