use Rattle.std.proofs.Common.{[], map, sym, ◌∙◌, subst}
use Rattle.cs_instance.specs.Steps.{field_of}
use Rattle.cs_question.specs.Spread.{HoldsPlaces, spread_map}
use Rattle.cs_question.proofs.Declared.{absent}
use Rattle.cs_question.proofs.maps.bar_others.Goals as goal
use Rattle.cs_question.proofs.maps.bar_others.Goals.{then-not-allow+in_ok-take, else-not-allow}

pub loop-label-preserved : goal.loop-label-preserved
loop-label-preserved c = λ J n ms h held.
    let s = spread_map [] ms in
    let old = c.loop-label.invariant J n ms h held in
    elim c.if-not-allow.branch [
      | then-not-allow+in_ok-take w ↦ subst (λ v. HoldsPlaces J n s v.items) (sym w.places-is) (w.in_ok-take.ensures J n s old (absent (map field_of c.args.fields.now.all.items) _ ms h (sym c.allow.ensures ∙ w.if-not-allow.true)))
      | else-not-allow w ↦ subst (λ v. HoldsPlaces J n s v.items) (sym w.places-is) old
    ]
