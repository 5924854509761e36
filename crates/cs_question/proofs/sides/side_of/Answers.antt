use Rattle.std.proofs.Common.{◌≡◌, map, slice_index, sym, ◌∙◌, subst}
use Rattle.std.proofs.lemmas.Result.{IfOk-weaker}
use Rattle.cs_instance.specs.Steps.{numbered}
use Rattle.cs_question.specs.Nodes.{asked_of, IsSide}
use Rattle.cs_question.proofs.Said.{renumbered}
use Rattle.cs_question.proofs.sides.side_of.Goals as goal

pub loop-init : goal.loop-init
loop-init c = λ J side. subst (λ ns. IsSide (map (numbered ns) c.args.rules.now) J) (sym c.in_ok-numbers.ensures.items) side

pub loop-preserved : goal.loop-preserved
loop-preserved c = λ J side.
    let now = c.loop.invariant J side in
    let first : IsSide (map asked_of c.deref-in-loop.result.now) J = subst (λ ns. IsSide (map asked_of ns) J) (sym c.deref-in-loop.ensures.value) (c.in_ok-nodes.ensures J (subst (λ ns. IsSide (map (numbered ns) c.args.rules.now) J) (sym c.deref.ensures.value) now)) in
    renumbered c.args.rules.now c.loop.numbers.items c.in_ok-next.next.items J (λ i x. subst (λ ns. J (slice_index c.in_ok-next.next.items i) x ≡ J (slice_index ns i) x) c.deref-in-loop-2.ensures.value (c.in_ok-next.ensures J first i x)) now

pub returns-then-eq : goal.returns-then-eq
returns-then-eq c = λ J side. c.in_ok-nodes.ensures J (subst (λ ns. IsSide (map (numbered ns) c.args.rules.now) J) (sym c.deref.ensures.value) (c.loop.invariant J side))

pub returns : goal.returns
returns c =
    IfOk-weaker c.folded-2.result _ _ (λ v says J side.
    says J (subst (λ ns. IsSide (map (numbered ns) c.args.rules.now) J) (sym c.deref-2.ensures.value) (c.loop.invariant J side))) c.folded-2.ensures
