use Rattle.std.proofs.Common.{◌+◌, ◌*◌, FitsSigned, w64, to_z, of_z, sym, ap, ◌∙◌, subst, rules}
use Rattle.std.specs.List.Sorted.{IsSorted}
use Rattle.std.specs.Ordering.{int_cmp}
use Rattle.std.proofs.lemmas.Int.{to_z-of_z}
use Rattle.cs_document.specs.Opened.{an_integer}
use Rattle.cs_rules.specs.Classed.{HasClass}
use Rattle.cs_rules.proofs.Placed.{integer_at, integer_between}
use Rattle.cs_rules.proofs.classes.Classes.integer_class.Goals as goal

pub returns-in-Ok : goal.returns-in-Ok
returns-in-Ok c =
    let z = c.args.integer in
    let fits : FitsSigned w64 z = search rules in
    let marks = c.deref-marks.result.now in
    subst (λ w. HasClass c.args.self.now (an_integer w) (3 + (2 * c.in-Ok.at + 1))) (to_z-of_z w64 z fits)
    (integer_at c.args.self.now (to_z w64 (of_z w64 z)) marks (c.deref-marks.ensures.value ∙ ap (λ m. m.integers) c.self.view_is) c.in-Ok.at c.in-Ok.ensures.bound c.in-Ok.ensures.ok)

pub returns-in-Err : goal.returns-in-Err
returns-in-Err c =
    let z = c.args.integer in
    let fits : FitsSigned w64 z = search rules in
    let marks = c.deref-marks.result.now in
    subst (λ w. HasClass c.args.self.now (an_integer w) (3 + 2 * c.in-Err.at)) (to_z-of_z w64 z fits)
    (integer_between c.args.self.now (to_z w64 (of_z w64 z)) marks (c.deref-marks.ensures.value ∙ ap (λ m. m.integers) c.self.view_is) c.in-Err.at c.in-Err.ensures.bound (subst (IsSorted int_cmp) (sym c.deref-marks.ensures.value) c.self.invariant.1) c.in-Err.ensures.position)
