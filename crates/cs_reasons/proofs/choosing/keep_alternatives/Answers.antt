use Rattle.std.proofs.Common.{length, refl, sym, subst, ap, ◌∙◌}
use Rattle.std.proofs.lemmas.Option.{slice_get_read}
use Rattle.cs_reasons.specs.Followed.{AreAlternatives}
use Rattle.cs_reasons.proofs.Closest.{none_yet, one_more}
use Rattle.cs_reasons.proofs.choosing.keep_alternatives.Goals as goal
use Rattle.cs_reasons.proofs.choosing.keep_alternatives.Goals.{then-is_alternative+in_ok-push, else-is_alternative}

pub loop-cause-init : goal.loop-cause-init
loop-cause-init g c = none_yet g.C.Cause.leads_to g.C.Cause.is_alternative c.args.causes.now c.args.found.now.items c.requires

pub loop-cause-preserved : goal.loop-cause-preserved
loop-cause-preserved g c =
    let cs = c.args.causes.now in
    let is = slice_get_read cs (length cs) c.loop-cause.cause-index c.cause-item.result refl c.loop-cause-test.true c.cause-item.is in
    let L = g.C.Cause.leads_to in
    let A = g.C.Cause.is_alternative in
    elim c.if-is_alternative.branch [
      | then-is_alternative+in_ok-push w ↦ subst (AreAlternatives L A cs) (sym (ap (λ (v : _). v.items) w.found-is ∙ w.in_ok-push.ensures.items))
          (one_more L A cs c.loop-cause.found.items c.loop-cause.cause-index c.cause-item.result is (sym c.is_alternative.ensures ∙ w.if-is_alternative.true) c.loop-cause.invariant)
      | else-is_alternative w ↦ subst (λ (v : _). AreAlternatives L A cs v.items) (sym w.found-is) c.loop-cause.invariant
    ]
