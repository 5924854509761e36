use Rattle.std.proofs.Common.{◌≡◌, ◌<◌, ◌+◌, length, refl, sym, subst, ◌∙◌}
use Rattle.std.proofs.lemmas.Option.{slice_get_read}
use Rattle.cs_reasons.specs.Reached.{AreMarked}
use Rattle.cs_reasons.specs.declared.marks.Marks.{Marks}
use Rattle.cs_reasons.proofs.Reached.{leaf_passed, pair_marked, none_marked}
use Rattle.cs_reasons.proofs.reach.mark_all.Goals as goal
use Rattle.cs_reasons.proofs.reach.mark_all.Goals.{in-Some, in_default}

pub mark-requires-clause-item : goal.mark-requires-clause-item
mark-requires-clause-item g c =
    let is = slice_get_read c.args.causes.now (length c.args.causes.now) c.loop-cause.cause-index c.cause-item.result refl c.loop-cause-test.true c.cause-item.is in
    let fits = c.requires c.in-Some.item c.in-Some.rule (c.loop-cause.cause-index, c.cause-item.result, c.loop-cause-test.true, is, (sym c.leads_to.ensures ∙ c.in-Some.is)) in
    subst (λ n. c.in-Some.item < n) (sym c.loop-cause.invariant.items) fits.0

pub mark-requires-clause-rule : goal.mark-requires-clause-rule
mark-requires-clause-rule g c =
    let is = slice_get_read c.args.causes.now (length c.args.causes.now) c.loop-cause.cause-index c.cause-item.result refl c.loop-cause-test.true c.cause-item.is in
    let fits = c.requires c.in-Some.item c.in-Some.rule (c.loop-cause.cause-index, c.cause-item.result, c.loop-cause-test.true, is, (sym c.leads_to.ensures ∙ c.in-Some.is)) in
    subst (λ n. c.in-Some.rule < n) (sym c.loop-cause.invariant.rules) fits.1

pub loop-cause-init : goal.loop-cause-init
loop-cause-init g c = record { items = refl; rules = refl; marked = none_marked g.C.Cause.leads_to c.args.causes.now c.args.marks.now }

pub loop-cause-preserved : goal.loop-cause-preserved
loop-cause-preserved g c =
    let is = slice_get_read c.args.causes.now (length c.args.causes.now) c.loop-cause.cause-index c.cause-item.result refl c.loop-cause-test.true c.cause-item.is in
    let causes = c.args.causes.now in
    let n = c.loop-cause.cause-index in
    let before = c.loop-cause.invariant in
    elim c.match-leads_to.branch [
      | in-Some w ↦ subst (λ (m : Marks). record { items : m.items ≡ c.args.marks.now.items; rules : m.rules ≡ c.args.marks.now.rules; marked : AreMarked g.C.Cause.leads_to causes (n + 1) c.args.marks.now m }) (sym w.marks-is) (record {
        items = w.mark.ensures.items ∙ before.items;
        rules = w.mark.ensures.rules ∙ before.rules;
        marked = pair_marked g.C.Cause.leads_to causes n c.args.marks.now c.loop-cause.marks w.mark.new.self c.cause-item.result is before.marked w.in-Some.item w.in-Some.rule (sym c.leads_to.ensures ∙ w.in-Some.is) w.mark.ensures.marked w.mark.ensures.others;
      })
      | in_default w ↦ subst (λ (m : Marks). record { items : m.items ≡ c.args.marks.now.items; rules : m.rules ≡ c.args.marks.now.rules; marked : AreMarked g.C.Cause.leads_to causes (n + 1) c.args.marks.now m }) (sym w.marks-is) (record {
        items = before.items;
        rules = before.rules;
        marked = leaf_passed g.C.Cause.leads_to causes n c.args.marks.now c.loop-cause.marks c.loop-cause.marks c.cause-item.result is before.marked (sym c.leads_to.ensures ∙ w.in_default.is);
      })
    ]
