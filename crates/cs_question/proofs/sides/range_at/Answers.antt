use Rattle.std.proofs.Common.{◌≡◌, ◌&&◌, Some, w64, to_z, of_z, rules, sym, ap, ◌∙◌, take_all}
use Rattle.std.specs.List.{list_all}
use Rattle.cs_document.specs.Opened.{opened}
use Rattle.cs_instance.specs.Constraint.{outline, is_integer}
use Rattle.cs_question.specs.declared.nodes.Node.TheVariants as node
use Rattle.cs_question.specs.Nodes.{asked_of}
use Rattle.cs_question.specs.Between.{is_between}
use Rattle.cs_question.proofs.Between.{and_true, range_more, absorbed}
use Rattle.cs_question.proofs.Loops.{item_some}
use Rattle.cs_question.proofs.Said.{got_mapped}
use Rattle.cs_question.proofs.Some.{all_placed}
use Rattle.cs_question.proofs.sides.range_at.Goals as goal

pub loop-part-init : goal.loop-part-init
loop-part-init c = λ J side x. and_true (J _ x) ∙ c.in_ok-limits.ensures J side x

pub loop-part-preserved : goal.loop-part-preserved
loop-part-preserved c = λ J side x.
    let l = c.loop-part in
    range_more (λ p. J p x) c.deref-part-items.result.now l.part-index (J _ x) (is_between l.limits.0 l.limits.1) (is_between c.in_ok-limits_at.field-0.0 c.in_ok-limits_at.field-0.1) (is_between c.in_both-limits.result.0 c.in_both-limits.result.1) (outline (opened x)) c.loop-part-test.true
    (l.invariant J side x) (c.in_ok-limits_at.ensures J side x) c.in_both-limits.ensures

pub returns : goal.returns
returns c = λ J side x.
    let l = c.loop-part in
    let t = c.in_ok-least in
    let a = c.in-Some-All in
    let first = c.in_ok-first.field-0.now in
    let back : to_z w64 (of_z w64 t.least) ≡ t.least = search rules in
    side c.args.place (asked_of (node.All a.parts)) x (got_mapped asked_of c.args.nodes.now c.args.place (node.All a.parts) (item_some c.args.nodes.now c.args.place a.field-0 a.ensures.lookup ∙ ap Some a.field-0-is))
    ∙ ap (list_all (λ p. J p x)) (sym c.deref.ensures.value)
    ∙ sym (absorbed (J first x) (list_all (λ p. J p x) c.deref.result.now) (λ h. all_placed (λ p. J p x) c.deref.result.now 0 first h (item_some c.deref.result.now 0 c.in_ok-first.field-0 c.in_ok-first.ensures.item)))
    ∙ ap (λ ps. J first x && list_all (λ p. J p x) ps) (c.deref.ensures.value ∙ sym (take_all l.part-index c.deref-part-items.result.now c.loop-part-test.false ∙ c.deref-part-items.ensures.value))
    ∙ l.invariant J side x
    ∙ ap (λ k. is_integer (is_between k l.limits.1) (outline (opened x))) t.was
    ∙ ap (λ k. is_integer (is_between (Some k) l.limits.1) (outline (opened x))) (sym back)
