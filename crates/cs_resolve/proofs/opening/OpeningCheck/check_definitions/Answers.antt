use Rattle.std.proofs.Common.{◌≡◌, ℕ, List, ◌∷◌, ◌++◌, map, refl, ap, ◌∙◌}
use Rattle.std.proofs.lemmas.Result.{err_from_is_err_and}
use Rattle.cs_grammar.specs.View.{expr_view, definition_view}
use Rattle.cs_grammar.specs.declared.ast.Definition.{Definition}
use Rattle.cs_resolve.specs.Opening.{one, Named, values}
use Rattle.cs_resolve.specs.Unopened.{demands_open, unopened, unopened_definitions}
use Rattle.cs_resolve.specs.Refinement.{Refinements}
use Rattle.cs_resolve.specs.declared.fault.ResolveFault.TheVariants.{NotOpened}
use Rattle.cs_resolve.proofs.Refusals.{same_first, first_here}
use Rattle.std.proofs.Common.{string_bytes}
use Rattle.cs_resolve.proofs.opening.OpeningCheck.check_definitions.Goals as goal

abbrev faults : Refinements → List Named → Definition → List ℕ
faults rs all d = unopened rs (demands_open (values (one (string_bytes d.name)) all)) (expr_view d.body)

parts : (rs : Refinements) (all : List Named) (d : Definition) (ds : List Definition) → unopened_definitions rs all (map definition_view (d ∷ ds)) ≡ faults rs all d ++ unopened_definitions rs all (map definition_view ds)
parts rs all d ds = refl

pub returns-in_err-check_expr : goal.returns-in_err-check_expr
returns-in_err-check_expr c all told rs held =
    let ds = c.deref-definition-items.result.now in
    let d = c.definition-item.result in
    let p = err_from_is_err_and c.from_residual.result c.from_residual.ensures.1 in
    let demanded = c.name_demands_open-demanded.ensures all told ∙ ap (λ t. demands_open (values (one t) all)) c.as_str.ensures.value in
    let here = same_first (NotOpened c.args.self.now.file) _ _ _ (ap (λ a. unopened rs a (expr_view d.body)) demanded) (c.in_err-check_expr.ensures rs held) in
    let whole = first_here (λ es. unopened_definitions rs all (map definition_view es)) (faults rs all) (parts rs all) (NotOpened c.args.self.now.file) _ ds c.loop-definition.definition-index d c.loop-definition-test.true c.definition-item.is (c.loop-definition.invariant all told rs held) here in
    rw (p.1, p.2) (same_first (NotOpened c.args.self.now.file) _ _ _ (ap (λ es. unopened_definitions rs all (map definition_view es)) c.deref-definition-items.ensures.value) whole)
