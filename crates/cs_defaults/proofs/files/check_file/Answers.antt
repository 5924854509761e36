use Rattle.std.proofs.Common.{map, refl}
use Rattle.std.proofs.lemmas.Result.{err_from_is_err_and}
use Rattle.std.specs.List.{flat_map}
use Rattle.cs_grammar.specs.Tree.{body}
use Rattle.cs_grammar.specs.View.{definition_view, expr_view}
use Rattle.cs_defaults.specs.Absent.{clashes}
use Rattle.cs_defaults.specs.Checks.{Fails}
use Rattle.cs_defaults.proofs.Found.{fails_left, none_more, whole_from}
use Rattle.cs_defaults.proofs.files.check_file.Goals as goal

pub returns-in_err-check : goal.returns-in_err-check
returns-in_err-check c has tells =
    let p = err_from_is_err_and c.from_residual.result c.from_residual.ensures.1 in
    let file = c.args.clashes.now.file in
    let e = c.in_err-check.field-0.0 in
    rw (p.1, p.2) (whole_from (λ ds. flat_map (λ d. clashes has (body d)) (map definition_view ds)) (λ d. clashes has (expr_view d.body)) (λ d ds. refl) c.args.definitions.now c.loop-definition.definition-index c.definition-item.result c.loop-definition-test.true c.definition-item.is (c.loop-definition.invariant has tells) (Fails e file) (fails_left e file) (c.in_err-check.ensures has tells))

pub loop-definition-preserved : goal.loop-definition-preserved
loop-definition-preserved c has tells = none_more (λ ds. flat_map (λ d. clashes has (body d)) (map definition_view ds)) (λ d. clashes has (expr_view d.body)) (λ d ds. refl) c.args.definitions.now c.loop-definition.definition-index c.definition-item.result c.loop-definition-test.true c.definition-item.is (c.loop-definition.invariant has tells) (c.in_ok-check.ensures has tells)
