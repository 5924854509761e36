use Rattle.std.proofs.Common.{ℕ, refl, sym, ap, ◌∙◌, get_or}
use Rattle.cs_rules.specs.Knowns.{verdict_here}
use Rattle.cs_instance_reasons.specs.CauseLists.{unless}
use Rattle.cs_instance_reasons.specs.declared.cause.InstanceCause.TheVariants.{Alternative}
use Rattle.cs_instance_reasons.proofs.Tellings.{told_none, told_one, unless_yes, unless_no}
use Rattle.cs_instance_reasons.proofs.causes.parts.tell_alternatives.Goals as goal
use Rattle.cs_instance_reasons.proofs.causes.parts.tell_alternatives.Goals.{then-not-admits+in_ok-push-2, else-not-admits}

pub loop-place-preserved : goal.loop-place-preserved
loop-place-preserved c =
    elim c.if-not-admits.branch [
      | then-not-admits+in_ok-push-2 w ↦ let known = c.args.known.now in let place = c.loop-place.place in let xs = c.args.alternatives.now in let tell = λ (k q : ℕ). unless (verdict_here known q) (Alternative known.item q k) in
          told_one (λ ys. ys) (λ y. y) (λ y ys. refl) tell xs place 0 _ _ _ c.loop-place-test.true c.loop-place.invariant (Alternative known.item (get_or xs place 0) place) (unless_no _ _ (sym c.here-admits.ensures ∙ w.if-not-admits.true)) (ap (λ v. v.items) w.found-is ∙ w.in_ok-push-2.ensures.items)
      | else-not-admits w ↦ let known = c.args.known.now in let place = c.loop-place.place in let xs = c.args.alternatives.now in let tell = λ (k q : ℕ). unless (verdict_here known q) (Alternative known.item q k) in
          told_none (λ ys. ys) (λ y. y) (λ y ys. refl) tell xs place 0 _ _ _ c.loop-place-test.true c.loop-place.invariant (unless_yes _ _ (sym c.here-admits.ensures ∙ w.if-not-admits.false)) (ap (λ v. v.items) w.found-is)
    ]
