use Rattle.std.proofs.Common.{map, refl}
use Rattle.std.proofs.lemmas.Result.{err_from_is_err_and}
use Rattle.std.specs.List.{flat_map}
use Rattle.cs_grammar.specs.Tree.{body}
use Rattle.cs_grammar.specs.View.{definition_view, expr_view}
use Rattle.cs_embeddings.specs.Flaws.{flaws}
use Rattle.cs_embeddings.proofs.Firsts.{first_here, none_more, all_none}
use Rattle.cs_embeddings.proofs.files.check_bodies.Goals as goal

pub returns-in_err-check : goal.returns-in_err-check
returns-in_err-check c ds tells =
    let p = err_from_is_err_and c.from_residual.result c.from_residual.ensures.1 in
    rw (p.1, p.2)
    (first_here (λ xs. flat_map (λ d. flaws ds (body d)) (map definition_view xs)) (λ d. flaws ds (expr_view d.body))
    (λ d xs. refl) c.args.definitions.now c.loop-definition.definition-index
    c.definition-item.result c.loop-definition-test.true c.definition-item.is (c.loop-definition.invariant ds tells) _ (c.in_err-check.ensures ds tells))

pub loop-definition-preserved : goal.loop-definition-preserved
loop-definition-preserved c ds tells =
    none_more (λ xs. flat_map (λ d. flaws ds (body d)) (map definition_view xs)) (λ d. flaws ds (expr_view d.body))
    (λ d xs. refl) c.args.definitions.now c.loop-definition.definition-index
    c.definition-item.result c.loop-definition-test.true c.definition-item.is (c.loop-definition.invariant ds tells) (c.in_ok-check.ensures ds tells)

pub returns : goal.returns
returns c ds tells =
    all_none (λ xs. flat_map (λ d. flaws ds (body d)) (map definition_view xs)) c.args.definitions.now c.loop-definition.definition-index refl
    c.loop-definition-test.false (c.loop-definition.invariant ds tells)
