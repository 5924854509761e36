use Rattle.std.proofs.Common.{◌++◌, take, refl, sym, ap, ◌∙◌, subst, append_assoc}
use Rattle.std.proofs.lemmas.List.{take_all}
use Rattle.cs_grammar.specs.View.{expr_view, exprs_view}
use Rattle.cs_plain.specs.Plain as Spec
use Rattle.cs_plain.specs.References.{TellsTexts}
use Rattle.cs_plain.proofs.Folds.{gathered_more}
use Rattle.cs_plain.proofs.kinds.add_each.Goals as goal

pub loop-operand-preserved : goal.loop-operand-preserved
loop-operand-preserved c ss told =
    let xs = c.args.operands.now in
    let i = c.loop-operand.operand-index in
    let x = c.operand-item.result in
    let done = Spec.kinds_each (exprs_view (take i xs)) in
    let more = gathered_more (λ ys. Spec.kinds_each (exprs_view ys)) (λ y. Spec.kind_of (expr_view y)) refl (λ e es. refl) xs i x c.loop-operand-test.true c.operand-item.is in
    subst (TellsTexts c.add_kind.new.found) (append_assoc ss done (Spec.kind_of (expr_view x)) ∙ ap (λ rs. ss ++ rs) (sym more))
    (c.in_ok-add_kind.ensures (ss ++ done) (c.loop-operand.invariant ss told))

pub returns : goal.returns
returns c ss told =
    subst (λ ys. TellsTexts c.loop-operand.found (ss ++ Spec.kinds_each (exprs_view ys))) (take_all c.loop-operand.operand-index c.args.operands.now c.loop-operand-test.false) (c.loop-operand.invariant ss told)
