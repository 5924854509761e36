use Rattle.std.proofs.Common.{◌≡◌, false, pos, get_or, w64, to_z, of_z, rules, sym, ◌∙◌, subst, take_all}
use Rattle.std.specs.List.{AllByRecursion as Each}
use Rattle.cs_question.specs.Outlines.{IsNoneBeside}
use Rattle.cs_question.proofs.Loops.{each_read}
use Rattle.cs_question.proofs.Marked.{no_integer}
use Rattle.cs_question.proofs.scalars.integer_of.Goals as goal

pub loop-mark-init : goal.loop-mark-init
loop-mark-init c = tt

pub loop-mark-preserved : goal.loop-mark-preserved
loop-mark-preserved c =
    let back : to_z w64 (of_z w64 (get_or c.deref-mark-items.result.now c.loop-mark.mark-index (pos 0))) ≡ get_or c.deref-mark-items.result.now c.loop-mark.mark-index (pos 0) = search rules in
    each_read (IsNoneBeside c.args.nodes.now c.args.asked.now) c.deref-mark-items.result.now c.loop-mark.mark-index (pos 0) c.loop-mark-test.true c.loop-mark.invariant (subst (IsNoneBeside c.args.nodes.now c.args.asked.now) back (c.beside-found.ensures (sym c.is_some.ensures ∙ c.if-is_some.false)))

pub returns : goal.returns
returns c = λ e z f.
    no_integer c.args.nodes.now c.args.asked.now c.in_ok-marks.marks.items c.in_ok-marks.ensures (sym c.may_be.ensures ∙ c.if-may_be.false)
    (subst (Each (IsNoneBeside c.args.nodes.now c.args.asked.now)) (take_all c.loop-mark.mark-index c.deref-mark-items.result.now c.loop-mark-test.false ∙ c.deref-mark-items.ensures.value) c.loop-mark.invariant) z f
