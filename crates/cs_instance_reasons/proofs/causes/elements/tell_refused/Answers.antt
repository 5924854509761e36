use Rattle.std.proofs.Common.{ℕ, refl, sym, ap, ◌∙◌, map, get_or, slice_index, option_map, ◌+◌, ◌<◌}
use Rattle.cs_document.proofs.Each.{each_drop}
use Rattle.cs_rules.specs.Knowns.{verdict_here, value_count}
use Rattle.cs_table.specs.Judged.{verdicts}
use Rattle.cs_instance_reasons.specs.CauseLists.{element_cause, asked_at}
use Rattle.cs_instance.specs.Numbering.{map_rest}
use Rattle.cs_instance.specs.Steps.{ending_of}
use Rattle.cs_instance_reasons.specs.declared.cause.InstanceCause.TheVariants.{Element}
use Rattle.cs_instance_reasons.proofs.Labelled.{asked_named}
use Rattle.cs_instance_reasons.proofs.Tellings.{told_none, told_one, unless_yes, unless_no}
use Rattle.cs_instance_reasons.proofs.causes.elements.tell_refused.Goals as goal
use Rattle.cs_instance_reasons.proofs.causes.elements.tell_refused.Goals.{in-Some+then-not-inside+in_ok-push-in-Some, in-Some+else-not-inside, in-None}

pub loop-place-preserved : goal.loop-place-preserved
loop-place-preserved c =
    let known = c.args.known.now in
    let g = slice_index known.children.now in
    let front = c.args.front.now in
    let end = ending_of c.args.end.now in
    let place = c.loop-place.place in
    let children = c.args.children.now in
    let y = get_or children place 0 in
    let tells = λ (k y : ℕ). element_cause (verdict_here known) (verdicts known.done.now) known.item c.args.number k y in
    let tell = λ (k y : ℕ). tells k y (asked_at (map g front) (map_rest g end) k) in
    let told = ap (tells place y) (asked_named g front end place ∙ ap (option_map g) (sym c.asked_at.ensures)) in
    let left = each_drop (λ y. y < value_count known) (place + 1) children c.requires.children in
    elim c.match-asked_at.branch [
      | in-Some+then-not-inside+in_ok-push-in-Some w ↦ record {
        same = told_one (λ ys. ys) (λ y. y) (λ y ys. refl) tell children place 0 _ _ _ c.loop-place-test.true c.loop-place.invariant.same (Element place y (g w.in-Some.part))
            (told ∙ ap (λ o. tells place y (option_map g o)) w.in-Some.is ∙ unless_no _ _ (sym w.inside.ensures ∙ w.if-not-inside.true)) (ap (λ v. v.items) w.found-is ∙ w.in_ok-push-in-Some.ensures.items);
        below = left;
      }
      | in-Some+else-not-inside w ↦ record {
        same = told_none (λ ys. ys) (λ y. y) (λ y ys. refl) tell children place 0 _ _ _ c.loop-place-test.true c.loop-place.invariant.same
            (told ∙ ap (λ o. tells place y (option_map g o)) w.in-Some.is ∙ unless_yes _ _ (sym w.inside.ensures ∙ w.if-not-inside.false)) (ap (λ v. v.items) w.found-is);
        below = left;
      }
      | in-None w ↦ record {
        same = told_none (λ ys. ys) (λ y. y) (λ y ys. refl) tell children place 0 _ _ _ c.loop-place-test.true c.loop-place.invariant.same
            (told ∙ ap (λ o. tells place y (option_map g o)) w.in-None.is) (ap (λ v. v.items) w.found-is);
        below = left;
      }
    ]
