use Rattle.std.proofs.Common.{◌≡◌, ◌+◌, Some, None, map, take, refl, sym, ap, ◌∙◌, subst}
use Rattle.cs_grammar.specs.View.{name_view}
use Rattle.cs_names.specs.Checks.{TellsLifts}
use Rattle.cs_names.specs.Lifted as Spec
use Rattle.cs_plain.proofs.Folds.{folded_more}
use Rattle.cs_names.proofs.lifting.Lifting.lift_tops.Goals as goal
use Rattle.cs_names.proofs.lifting.Lifting.lift_tops.Goals.{in-Some+in_ok-lift_top, in_default}

pub loop-name-preserved : goal.loop-name-preserved
loop-name-preserved c all ts every own tells told bound =
    let xs = c.args.names.now in
    let i = c.loop-name.name-index in
    let x = c.name-item.result in
    let done = Spec.lift_tops all every own (map name_view (take i xs)) ts in
    let next = Spec.lift_tops all every own (map name_view (take (i + 1) xs)) ts in
    let more = folded_more (λ ys us. Spec.lift_tops all every own (map name_view ys) us) (λ n us. Spec.lift_top all every (Spec.top_place every own (name_view n)) (name_view n) us) (λ us. refl) (λ n ns us. refl) xs i x ts c.loop-name-test.true c.name-item.is in
    let known = c.loop-name.invariant all ts every own tells told bound in
    elim c.match-top_place.branch [
      | in-Some+in_ok-lift_top w ↦
          let there : Some w.in-Some.place ≡ Spec.top_place every own (name_view x) = w.in-Some.ensures every own told bound in
          subst (λ l. TellsLifts l all next) (sym w.self-is)
          (subst (TellsLifts w.lift_top.new.self all) (ap (λ p. Spec.lift_top all every p (name_view x) done) there ∙ sym more) (w.in_ok-lift_top.ensures all done every known told))
      | in_default w ↦
          let there : None ≡ Spec.top_place every own (name_view x) = w.in_default.ensures every own told bound in
          subst (λ l. TellsLifts l all next) (sym w.self-is)
          (subst (TellsLifts c.loop-name.self all) (ap (λ p. Spec.lift_top all every p (name_view x) done) there ∙ sym more) known)
    ]
