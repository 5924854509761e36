use Rattle.std.proofs.Common.{map, true, refl}
use Rattle.std.proofs.lemmas.Result.{err_from_is_err_and}
use Rattle.std.specs.List.{flat_map}
use Rattle.cs_grammar.specs.Tree.{body}
use Rattle.cs_grammar.specs.View.{definition_view, expr_view}
use Rattle.cs_defaults.specs.Marks.{misplaced}
use Rattle.cs_defaults.proofs.Found.{first_here}
use Rattle.cs_defaults.proofs.files.check_bodies.Goals as goal

pub returns-in_err-check_marks : goal.returns-in_err-check_marks
returns-in_err-check_marks c =
    let p = err_from_is_err_and c.from_residual.result c.from_residual.ensures.1 in
    rw (p.1, p.2) (first_here (λ ds. flat_map (λ d. misplaced true (body d)) (map definition_view ds)) (λ d. misplaced true (expr_view d.body)) (λ d ds. refl) c.args.definitions.now c.loop-definition.definition-index c.definition-item.result c.loop-definition-test.true c.definition-item.is c.loop-definition.invariant _ c.in_err-check_marks.ensures)
