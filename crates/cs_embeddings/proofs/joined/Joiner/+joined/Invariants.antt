-- Each level has sixteen steps: what is inside of an expression goes a level below, and a mark is less than the expression with it.
use Rattle.std.proofs.Common.{◌≡◌, ℕ, ◌+◌, ◌*◌, ◌≤◌, true, List, take}
use Rattle.cs_grammar.specs.Tree.{DefinitionTree, conjunction, wide}
use Rattle.cs_grammar.specs.View.{expr_view, exprs_view, wide_view, trees_of}
use Rattle.cs_embeddings.proofs.JoinedParts.{AreJoined, AreBeside, AreBrought, AreLiterals}
use Rattle.cs_embeddings.specs.Alternatives.{most_steps}
use Rattle.cs_embeddings.specs.Checks.{TellsTables, AreWell, bodies_view}
use Rattle.cs_embeddings.specs.Clashes.{clashes_value}
use Rattle.cs_embeddings.specs.Embedded.{can_be_embedded, embed_well}
use Rattle.cs_embeddings.specs.Held.{holding}
use Rattle.cs_embeddings.specs.Joined.{joined_value}
use Rattle.cs_embeddings.specs.United.{unites}
use Rattle.cs_embeddings.specs.Made.{count_mark, IsWell}
use Rattle.cs_embeddings.specs.Views.{alternative_view, alternatives_view}
use Rattle.std.specs.List.{AllByRecursion}
use Rattle.cs_embeddings.proofs.joined.Joiner.+joined.Given as goal

abbrev pub decreases-joined : goal.decreases-joined
decreases-joined l = 16 * l.room.levels + (8 * count_mark (expr_view l.expr.now) + 5)

abbrev pub decreases-joined_form : goal.decreases-joined_form
decreases-joined_form l = 16 * l.room.levels + (8 * count_mark (wide (wide_view l.form.now)) + 4)

abbrev pub decreases-joined_list : goal.decreases-joined_list
decreases-joined_list l = 16 * l.room.levels + 4

abbrev pub decreases-joined_literal : goal.decreases-joined_literal
decreases-joined_literal l = 16 * l.room.levels + 3

abbrev pub decreases-joined_conjunction : goal.decreases-joined_conjunction
decreases-joined_conjunction l = 16 * l.room.levels + 4

abbrev pub decreases-joined_found : goal.decreases-joined_found
decreases-joined_found l = 16 * l.room.levels + 2

abbrev pub decreases-joined_alternatives : goal.decreases-joined_alternatives
decreases-joined_alternatives l = 16 * l.room.levels + 1

abbrev pub decreases-joined_alternative : goal.decreases-joined_alternative
decreases-joined_alternative l = 16 * l.room.levels

abbrev pub decreases-joined_together : goal.decreases-joined_together
decreases-joined_together l = 16 * l.room.levels + 3

abbrev pub decreases-joined_declaration : goal.decreases-joined_declaration
decreases-joined_declaration l = 16 * l.room.levels + 15

abbrev pub decreases-joined_standing : goal.decreases-joined_standing
decreases-joined_standing l = 16 * l.room.levels + 14

abbrev pub decreases-joined_beside : goal.decreases-joined_beside
decreases-joined_beside l = 16 * l.room.levels + 15

abbrev pub decreases-joined_operand : goal.decreases-joined_operand
decreases-joined_operand l = 16 * l.room.levels + 14

abbrev pub decreases-joined_each : goal.decreases-joined_each
decreases-joined_each l = 16 * l.room.levels + 14

abbrev pub decreases-joined_end : goal.decreases-joined_end
decreases-joined_end l = 16 * l.room.levels + 14

abbrev pub invariant-joined_each-loop-expr : goal.invariant-joined_each-loop-expr
invariant-joined_each-loop-expr l = (ds : List DefinitionTree) (n : ℕ) → TellsTables l.self.embeddable.now ds → AreWell ds → embed_well
    (can_be_embedded ds most_steps) (exprs_view l.exprs) ≡ true → l.room.levels ≤ n → AreJoined ds (joined_value ds n)
    (clashes_value ds n) l.room.place l.room.is_whole l.room.levels l.initial.nodes l.nodes (take l.expr-index l.exprs) l.joined.items

abbrev pub invariant-joined_beside-loop-operand : goal.invariant-joined_beside-loop-operand
invariant-joined_beside-loop-operand l = (ds : List DefinitionTree) (n : ℕ) → TellsTables l.self.embeddable.now ds → AreWell ds → embed_well
    (can_be_embedded ds most_steps) (exprs_view l.operands) ≡ true → trees_of (bodies_view l.held) ≡ holding (exprs_view l.operands)
    → unites ds (trees_of (bodies_view l.held)) ≡ true → l.room.levels ≤ n → AreBeside ds (joined_value ds n) (clashes_value ds n) l.room.is_whole l.room.place
    (conjunction (trees_of (bodies_view l.held))) l.room.levels l.initial.nodes l.nodes (take l.operand-index l.operand-items) l.joined.items

abbrev pub invariant-joined_alternatives-loop-alternative : goal.invariant-joined_alternatives-loop-alternative
invariant-joined_alternatives-loop-alternative l = (ds : List DefinitionTree) (n : ℕ) → TellsTables l.self.embeddable.now ds → AreWell ds → AllByRecursion
    (IsWell ds) (alternatives_view l.alternatives) → l.fn.room.levels ≤ n → AreLiterals ds (joined_value ds n)
    (clashes_value ds n) l.at l.embeds l.inside.levels l.initial.nodes l.nodes (take l.alternative-index l.alternatives) l.joined.items

abbrev pub invariant-joined_alternative-loop-declaration : goal.invariant-joined_alternative-loop-declaration
invariant-joined_alternative-loop-declaration l = (ds : List DefinitionTree) (n : ℕ) → TellsTables l.self.embeddable.now ds → AreWell ds → IsWell ds
    (alternative_view l.alternative) → l.fn.room.levels ≤ n → AreBrought ds (joined_value ds n) (clashes_value ds n) l.inside.levels l.initial.nodes l.nodes
    (take l.declaration-index l.declaration-items) l.fields.items
