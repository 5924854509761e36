use Rattle.std.proofs.Common.{map, take, refl, sym, subst}
use Rattle.cs_grammar.specs.View.{name_view}
use Rattle.cs_names.specs.Checks.{TellsLifts}
use Rattle.cs_names.specs.Lifted as Spec
use Rattle.cs_plain.proofs.Folds.{folded_more}
use Rattle.cs_names.proofs.lifting.Lifting.lift_values.Goals as goal

pub loop-name-preserved : goal.loop-name-preserved
loop-name-preserved c all ts every own tells told bound =
    let xs = c.args.names.now in
    let i = c.loop-name.name-index in
    let file = c.args.file in
    let done = Spec.lift_values all every file own (map name_view (take i xs)) ts in
    let more = folded_more (λ ys us. Spec.lift_values all every file own (map name_view ys) us)
    (λ n us. Spec.lift_in all file (Spec.within us (Spec.top_name (name_view n).name) (Spec.top_place every own (name_view n))) (name_view n).value us) (λ us. refl) (λ n ns us. refl)
    xs i c.name-item.result ts c.loop-name-test.true c.name-item.is in
    subst (TellsLifts c.lift_value.new.self all) (sym more) (c.in_ok-lift_value.ensures all done every own (c.loop-name.invariant all ts every own tells told bound) told bound)
