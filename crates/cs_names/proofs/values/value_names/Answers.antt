use Rattle.std.proofs.Common.{map, take, refl, sym, ap, ◌∙◌, subst}
use Rattle.std.proofs.lemmas.List.{take_all}
use Rattle.cs_names.specs.Checks.{lifted_view}
use Rattle.cs_names.specs.Named as Spec
use Rattle.cs_plain.proofs.Folds.{gathered_more}
use Rattle.cs_plain.specs.References.{TellsTexts}
use Rattle.cs_names.proofs.values.value_names.Goals as goal

pub loop-lifted-preserved : goal.loop-lifted-preserved
loop-lifted-preserved c =
    let xs = c.deref-lifted-items.result.now in
    let i = c.loop-lifted.lifted-index in
    let x = c.lifted-item.result in
    let done = Spec.value_names (map lifted_view (take i xs)) in
    let more = gathered_more (λ ys. Spec.value_names (map lifted_view ys)) (λ y. Spec.value_name (lifted_view y)) refl (λ y ys. refl) xs i x c.loop-lifted-test.true c.lifted-item.is in
    subst (TellsTexts c.add_name.new.names) (sym more) (c.in_ok-add_name.ensures done c.loop-lifted.invariant)

pub returns : goal.returns
returns c all ts tells =
    subst (TellsTexts c.loop-lifted.names)
    (ap (λ ys. Spec.value_names (map lifted_view ys)) (take_all c.loop-lifted.lifted-index c.deref-lifted-items.result.now c.loop-lifted-test.false ∙ c.deref-lifted-items.ensures.value) ∙ ap Spec.value_names tells.order)
    c.loop-lifted.invariant
