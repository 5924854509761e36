use Rattle.std.proofs.Common.{◌≡◌, Bor, length, get_or, refl, sym, ap, ◌∙◌, subst, arith}
use Rattle.cs_profile.specs.SchemaDocument.{schema_view}
use Rattle.cs_profile.specs.declared.schema.Schema.{Schema}
use Rattle.cs_validate.specs.Placing.{waiting, left_by}
use Rattle.cs_validate.specs.Ranked.{PlacesWaiting}
use Rattle.cs_rules.proofs.Waiting.{IsNext, not_longer}
use Rattle.cs_validate.proofs.Waited.{nothing_placed, one_waited, less_waits}
use Rattle.cs_validate.proofs.numbering.inner.place_waiting.Goals as goal

-- the next schema that waits
next : (c : goal.In_ok-push) → IsNext c.loop-alloc.numberer.pending.items c.loop-alloc.inner.items c.push.new.self.items c.index-schema.result.now c.in_ok-number.number
next c =
    let l = c.loop-alloc in
    let at : c.len-in-loop-alloc-2.result ≡ length l.inner.items = omega (arith, l.inner.ok.0, c.len-in-loop-alloc-2.ensures) in
    record {
      within = omega (arith, l.inner.ok.0, l.numberer.pending.ok.0, c.len.ensures, c.len-in-loop-alloc.ensures, c.loop-alloc-test.true);
      is = c.index-schema.ensures ∙ ap (λ k. get_or l.numberer.pending.items k c.index-schema.result.now) at;
      put = c.in_ok-push.ensures.items;
    }

pub loop-alloc-preserved : goal.loop-alloc-preserved
loop-alloc-preserved c =
    let b = c.index-schema.result.now in
    let l = c.loop-alloc in
    let k = c.in_ok-number.number in
    let inner = c.push.new.self.items in
    let new = c.place.new.numberer in
    record {
      most = not_longer (λ (x : Bor Schema). schema_view x.now) l.numberer.pending.items l.inner.items inner b k (next c) (waiting new.pending.items) (left_by (schema_view b.now)) c.in_ok-number.ensures.0 new.pending.items refl;
      placed = λ R placed n known.
          one_waited R c.args.numbers.now placed (waiting c.args.numberer.now.pending.items) l.numberer new l.inner.items inner b k (next c) c.in_ok-number.ensures known (l.invariant.placed R placed n known);
    }

pub loop-alloc-smaller : goal.loop-alloc-smaller
loop-alloc-smaller c =
    less_waits c.loop-alloc.numberer.pending.items c.place.new.numberer.pending.items c.loop-alloc.inner.items c.push.new.self.items c.index-schema.result.now c.in_ok-number.number (next c) c.in_ok-number.ensures.0

pub loop-alloc-init : goal.loop-alloc-init
loop-alloc-init c =
    let none = c.new-inner.ensures.items in
    record {
      most = omega (arith, ap length none);
      placed = λ R placed n known. subst (PlacesWaiting R placed (waiting c.args.numberer.now.pending.items) c.args.numberer.now) (sym none) (nothing_placed R placed c.args.numberer.now n);
    }
