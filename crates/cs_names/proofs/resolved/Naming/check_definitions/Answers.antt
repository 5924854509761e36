use Rattle.std.proofs.Common.{false, map, refl}
use Rattle.std.proofs.lemmas.Result.{err_from_is_err_and}
use Rattle.std.specs.List.{flat_map}
use Rattle.cs_grammar.specs.Tree.{body}
use Rattle.cs_grammar.specs.View.{expr_view, definition_view}
use Rattle.cs_names.specs.Flaws as Spec
use Rattle.cs_names.proofs.Found.{ends_here}
use Rattle.cs_plain.proofs.Walks.{nothing_more, nothing_at_all}
use Rattle.cs_names.proofs.resolved.Naming.check_definitions.Goals as goal

pub loop-definition-init : goal.loop-definition-init
loop-definition-init c all ts ss tells told =
    refl

pub returns-in_err-check : goal.returns-in_err-check
returns-in_err-check c all ts ss tells told =
    let p = err_from_is_err_and c.from_residual.result c.from_residual.ensures.1 in
    rw (p.1, p.2) (ends_here (λ ys. flat_map (λ d. Spec.flaws ts c.args.self.now.file false ss (body d)) (map definition_view ys)) (λ d. Spec.flaws ts c.args.self.now.file false ss (expr_view d.body)) (λ d ds. refl) c.args.definitions.now c.loop-definition.definition-index c.definition-item.result c.loop-definition-test.true c.definition-item.is (c.loop-definition.invariant all ts ss tells told) _ (c.in_err-check.ensures all ts ss tells told))

pub loop-definition-preserved : goal.loop-definition-preserved
loop-definition-preserved c all ts ss tells told =
    nothing_more (λ ys. flat_map (λ d. Spec.flaws ts c.args.self.now.file false ss (body d)) (map definition_view ys)) (λ d. Spec.flaws ts c.args.self.now.file false ss (expr_view d.body)) (λ d ds. refl) c.args.definitions.now c.loop-definition.definition-index c.definition-item.result c.loop-definition-test.true c.definition-item.is (c.loop-definition.invariant all ts ss tells told) (c.in_ok-check.ensures all ts ss tells told)

pub returns : goal.returns
returns c all ts ss tells told =
    nothing_at_all (λ ys. flat_map (λ d. Spec.flaws ts c.args.self.now.file false ss (body d)) (map definition_view ys)) c.args.definitions.now c.loop-definition.definition-index refl c.loop-definition-test.false (c.loop-definition.invariant all ts ss tells told)
