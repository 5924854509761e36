use Rattle.std.proofs.Common.{◌+◌, map, drop, [], ◌∷◌, sym, subst, append-nil}
use Rattle.cs_document.specs.View.{doc_view}
use Rattle.cs_document.proofs.Maps.{drop_at, drop_past}
use Rattle.cs_validate.specs.Marked.{AddsScalars}
use Rattle.cs_validate.proofs.Marked.{adds_scalars}
use Rattle.cs_validate.proofs.marks.mark_values.Goals as goal

pub loop-value-preserved : goal.loop-value-preserved
loop-value-preserved c = λ n h.
    let vs = c.args.values.now in
    let i = c.loop-value.value-index in
    let v = c.value-item.result in
    let now = c.loop-value.marks in
    c.loop-value.invariant n
    (subst (λ ys. AddsScalars (map doc_view ys) now n) (sym (drop_at vs i v c.loop-value-test.true c.value-item.is))
    (adds_scalars now c.mark_value.new.marks n (doc_view v ∷ []) (map doc_view (drop (i + 1) vs)) c.in_ok-mark_value.ensures h))

pub returns : goal.returns
returns c =
    let now = c.loop-value.marks in
    c.loop-value.invariant now
    (subst (λ ys. AddsScalars (map doc_view ys) now now) (sym (drop_past c.args.values.now c.loop-value.value-index c.loop-value-test.false)) (sym (append-nil now.texts), sym (append-nil now.integers), sym (append-nil now.lengths)))
