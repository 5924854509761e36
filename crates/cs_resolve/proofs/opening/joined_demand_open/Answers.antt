use Rattle.std.proofs.Common.{◌&&◌, not, map, sym, ap, ◌∙◌}
use Rattle.cs_grammar.specs.View.{expr_view, exprs_view}
use Rattle.cs_resolve.specs.Unopened.{demands_open}
use Rattle.cs_resolve.proofs.Trees.{operands_of}
use Rattle.cs_resolve.proofs.opening.joined_demand_open.Goals as goal

pub returns-then-demands_open : goal.returns-then-demands_open
returns-then-demands_open c rs held =
    let es = c.args.operands.now.items in
    let asks = c.demands_open.ensures ∙ ap demands_open (sym (operands_of (map expr_view es))) in
    ap not (c.is_refinement.ensures held.labels held.held ∙ ap (λ r. r (exprs_view es)) held.same) ∙ ap (λ b. b && not (rs (exprs_view es))) (sym c.if-demands_open.true ∙ asks)

pub returns-else-demands_open : goal.returns-else-demands_open
returns-else-demands_open c rs held =
    let es = c.args.operands.now.items in
    let asks = c.demands_open.ensures ∙ ap demands_open (sym (operands_of (map expr_view es))) in
    c.if-demands_open.false ∙ ap (λ b. b && not (rs (exprs_view es))) (sym c.if-demands_open.false ∙ asks)
