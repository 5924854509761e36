use Rattle.std.proofs.Common.{map, refl}
use Rattle.std.proofs.lemmas.Result.{err_from_is_err_and}
use Rattle.std.specs.List.{flat_map}
use Rattle.cs_grammar.specs.Tree.{body}
use Rattle.cs_grammar.specs.View.{definition_view, expr_view}
use Rattle.cs_conditions.specs.Faults.{flaws}
use Rattle.cs_conditions.proofs.Found.{ends_here}
use Rattle.cs_conditions.proofs.Walks.{nothing_more, nothing_at_all}
use Rattle.cs_conditions.proofs.files.check_bodies.Goals as goal

pub returns-in_err-check : goal.returns-in_err-check
returns-in_err-check c known tells =
    let p = err_from_is_err_and c.from_residual.result c.from_residual.ensures.1 in
    rw (p.1, p.2) (ends_here (λ xs. flat_map (λ d. flaws known (body d)) (map definition_view xs)) (λ d. flaws known (expr_view d.body)) (λ d xs. refl) c.args.definitions.now c.loop-definition.definition-index
    c.definition-item.result c.loop-definition-test.true c.definition-item.is (c.loop-definition.invariant known tells) _ (c.in_err-check.ensures known tells))

pub loop-definition-preserved : goal.loop-definition-preserved
loop-definition-preserved c known tells =
    nothing_more (λ xs. flat_map (λ d. flaws known (body d)) (map definition_view xs)) (λ d. flaws known (expr_view d.body)) (λ d xs. refl) c.args.definitions.now c.loop-definition.definition-index
    c.definition-item.result c.loop-definition-test.true c.definition-item.is (c.loop-definition.invariant known tells) (c.in_ok-check.ensures known tells)

pub returns : goal.returns
returns c known tells =
    nothing_at_all (λ xs. flat_map (λ d. flaws known (body d)) (map definition_view xs)) c.args.definitions.now c.loop-definition.definition-index refl c.loop-definition-test.false (c.loop-definition.invariant known tells)
