use Rattle.std.proofs.Common.{◌≡◌, [], Bor, length, get_or, refl, sym, ap, ◌∙◌, subst, arith}
use Rattle.cs_package.specs.View.{expression_of}
use Rattle.cs_instance.specs.Placing.{waiting, left_by, PlacesWaiting}
use Rattle.cs_rules.proofs.Waiting.{IsNext, not_longer}
use Rattle.cs_package.specs.declared.shape.Shape.{Shape}
use Rattle.cs_instance.proofs.Waited.{nothing_placed, one_waited, less_waits}
use Rattle.cs_instance.proofs.numbering.inner.place_waiting.Goals as goal

-- the next shape that waits
next : (c : goal.In_ok-push) → IsNext c.loop-alloc.numberer.pending.items c.loop-alloc.inner.items c.push.new.self.items c.index-shape.result.now c.in_ok-number.number
next c =
    let l = c.loop-alloc in
    let at : c.len-in-loop-alloc-2.result ≡ length l.inner.items = omega (arith, l.inner.ok.0, c.len-in-loop-alloc-2.ensures) in
    record {
      within = omega (arith, l.inner.ok.0, l.numberer.pending.ok.0, c.len.ensures, c.len-in-loop-alloc.ensures, c.loop-alloc-test.true);
      is = c.index-shape.ensures ∙ ap (λ k. get_or l.numberer.pending.items k c.index-shape.result.now) at;
      put = c.in_ok-push.ensures.items;
    }

pub loop-alloc-preserved : goal.loop-alloc-preserved
loop-alloc-preserved c =
    let b = c.index-shape.result.now in
    let l = c.loop-alloc in
    let k = c.in_ok-number.number in
    let inner = c.push.new.self.items in
    let new = c.place.new.numberer in
    record {
      most = not_longer (λ (x : Bor Shape). expression_of [] x.now) l.numberer.pending.items l.inner.items inner b k (next c) (waiting [] new) (left_by (expression_of [] b.now)) (c.in_ok-number.ensures []).0 new.pending.items refl;
      placed = λ E names placed n h. one_waited E names c.args.numbers.now placed c.args.numberer.now l.numberer new l.inner.items inner b k (next c) c.in_ok-number.ensures (l.invariant.placed E names placed n h);
    }

pub loop-alloc-smaller : goal.loop-alloc-smaller
loop-alloc-smaller c =
    less_waits c.loop-alloc.numberer c.place.new.numberer c.loop-alloc.inner.items c.push.new.self.items c.index-shape.result.now c.in_ok-number.number (next c) (c.in_ok-number.ensures []).0

pub loop-alloc-init : goal.loop-alloc-init
loop-alloc-init c =
    let none = c.new-inner.ensures.items in
    let n = c.args.numberer.now in
    record {
      most = omega (arith, ap length none);
      placed = λ E names placed a h. subst (PlacesWaiting E names c.args.numbers.now placed n n) (sym none) (nothing_placed E names c.args.numbers.now placed n a h);
    }
