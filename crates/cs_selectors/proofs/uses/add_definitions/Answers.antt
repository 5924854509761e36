use Rattle.std.proofs.Common.{◌++◌, map, take, refl, sym, ap, ◌∙◌, append_assoc}
use Rattle.std.proofs.lemmas.List.{take_all}
use Rattle.cs_grammar.specs.View.{expr_view, definition_view}
use Rattle.cs_plain.proofs.Folds.{gathered_more}
use Rattle.cs_selectors.specs.Checks.{use_view}
use Rattle.cs_selectors.specs.Uses as Spec
use Rattle.cs_selectors.proofs.uses.add_definitions.Goals as goal

pub loop-definition-preserved : goal.loop-definition-preserved
loop-definition-preserved c =
    let xs = c.args.definitions.now in
    let i = c.loop-definition.definition-index in
    let x = c.definition-item.result in
    let before = map use_view c.args.found.now.items in
    let more = gathered_more (λ ys. Spec.uses_of c.args.file (map definition_view ys)) (λ y. Spec.uses c.args.file (expr_view y.body)) refl (λ d ds. refl) xs i x c.loop-definition-test.true c.definition-item.is in
    c.in_ok-add_uses.ensures ∙ ap (λ us. us ++ Spec.uses c.args.file (expr_view x.body)) c.loop-definition.invariant ∙ append_assoc before (Spec.uses_of c.args.file (map definition_view (take i xs))) (Spec.uses c.args.file (expr_view x.body)) ∙ ap (λ us. before ++ us) (sym more)

pub returns : goal.returns
returns c =
    c.loop-definition.invariant ∙ ap (λ ys. map use_view c.args.found.now.items ++ Spec.uses_of c.args.file (map definition_view ys)) (take_all c.loop-definition.definition-index c.args.definitions.now c.loop-definition-test.false)
