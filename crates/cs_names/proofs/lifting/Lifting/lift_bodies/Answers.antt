use Rattle.std.proofs.Common.{map, take, refl, sym, ap, ◌∙◌, subst, string_bytes}
use Rattle.std.proofs.lemmas.List.{take_all}
use Rattle.cs_grammar.specs.View.{expr_view, definition_view}
use Rattle.cs_names.specs.Checks.{TellsLifts}
use Rattle.cs_names.specs.Lifted as Spec
use Rattle.cs_plain.proofs.Folds.{folded_more}
use Rattle.cs_names.proofs.lifting.Lifting.lift_bodies.Goals as goal

pub loop-definition-preserved : goal.loop-definition-preserved
loop-definition-preserved c all ts every tells =
    let xs = c.args.definitions.now in
    let i = c.loop-definition.definition-index in
    let x = c.definition-item.result in
    let file = c.args.file in
    let done = Spec.lift_bodies all every file (map definition_view (take i xs)) ts in
    let more = folded_more (λ ys us. Spec.lift_bodies all every file (map definition_view ys) us) (λ d us. Spec.lift_in all file (string_bytes d.name) (expr_view d.body) us) (λ us. refl) (λ d ds us. refl) xs i x ts c.loop-definition-test.true c.definition-item.is in
    subst (TellsLifts c.lift_in.new.self all) (ap (λ o. Spec.lift_in all file o (expr_view x.body) done) c.deref.ensures ∙ sym more)
    (c.in_ok-lift_in.ensures all done (c.loop-definition.invariant all ts every tells))

pub returns : goal.returns
returns c all ts every tells =
    subst (λ ys. TellsLifts c.loop-definition.self all (Spec.lift_bodies all every c.args.file (map definition_view ys) ts))
    (take_all c.loop-definition.definition-index c.args.definitions.now c.loop-definition-test.false) (c.loop-definition.invariant all ts every tells)
