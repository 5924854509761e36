use Rattle.std.proofs.Common.{sym, ap, ◌∙◌}
use Rattle.std.specs.Prelude.{nat_le}
use Rattle.cs_document.specs.Document.{documents_depth}
use Rattle.cs_document.specs.View.{list_view}
use Rattle.cs_describe.proofs.Levels.{element_within, element_beyond, elements_within}
use Rattle.cs_describe.proofs.depths.+depths.Goals as goal

pub are_within-returns-then-not-is_within : goal.are_within-returns-then-not-is_within
are_within-returns-then-not-is_within t c =
    let xs = c.deref-item-items.result.now in
    sym (element_beyond xs c.loop-item.item-index c.args.most c.item-item.result c.loop-item-test.true c.item-item.is (sym c.if-not-is_within.ensures)) ∙ c.loop-item.invariant
    ∙ ap (λ ys. nat_le (documents_depth (list_view ys)) c.args.most) c.deref-item-items.ensures.value

pub are_within-loop-item-preserved : goal.are_within-loop-item-preserved
are_within-loop-item-preserved t c =
    let xs = c.deref-item-items.result.now in
    element_within xs c.loop-item.item-index c.args.most c.item-item.result c.loop-item-test.true c.item-item.is (sym c.if-not-is_within.ensures) ∙ c.loop-item.invariant

pub are_within-returns : goal.are_within-returns
are_within-returns t c =
    let xs = c.deref-item-items.result.now in
    sym (elements_within xs c.loop-item.item-index c.args.most c.loop-item-test.false) ∙ c.loop-item.invariant
    ∙ ap (λ ys. nat_le (documents_depth (list_view ys)) c.args.most) c.deref-item-items.ensures.value
