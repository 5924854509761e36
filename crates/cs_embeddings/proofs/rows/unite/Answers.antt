use Rattle.std.proofs.Common.{◌+◌, ◌<◌, ◌≤◌, length, refl, sym, ap, ◌∙◌, subst, arith}
use Rattle.cs_embeddings.proofs.RowSteps.{IsUnited, united_push, united_set, united_same}
use Rattle.cs_embeddings.proofs.rows.unite.Goals as goal
use Rattle.cs_embeddings.proofs.rows.unite.Goals.{then-place-len+in_ok-push, else-place-len+then-has, else-place-len+else-has}

pub loop-place-preserved : goal.loop-place-preserved
loop-place-preserved c =
    let old = c.args.row.now.items in
    let other = c.args.other.now in
    let p = c.loop-place.place in
    let row = c.loop-place.row.items in
    let so_far : IsUnited old other p row = c.loop-place.invariant in
    let there = c.loop-place-test.true in
    elim c.if-place-len.branch [
      | then-place-len+in_ok-push w ↦
          let end : length row ≤ p = omega (arith, w.if-place-len.true, c.len.ensures) in
          subst (IsUnited old other (p + 1)) (sym (ap (λ v. v.items) w.row-is ∙ w.in_ok-push.ensures.items))
          (united_push old other p row so_far there _ end refl)
      | else-place-len+then-has w ↦
          let inside : p < length row = omega (arith, w.if-place-len.false, c.len.ensures) in
          subst (IsUnited old other (p + 1)) (sym (ap (λ v. v.items) w.row-is)) (united_set old other p row so_far there inside w.if-has.true)
      | else-place-len+else-has w ↦
          let inside : p < length row = omega (arith, w.if-place-len.false, c.len.ensures) in
          subst (IsUnited old other (p + 1)) (sym (ap (λ v. v.items) w.row-is)) (united_same old other p row so_far there inside w.if-has.false)
    ]
