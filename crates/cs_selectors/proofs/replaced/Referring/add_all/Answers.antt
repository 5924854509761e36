use Rattle.std.proofs.Common.{◌++◌, map, take, refl, sym, ap, ◌∙◌, append_assoc}
use Rattle.std.proofs.lemmas.List.{take_all}
use Rattle.cs_grammar.specs.View.{definition_view}
use Rattle.cs_plain.proofs.Folds.{gathered_more}
use Rattle.cs_selectors.specs.Checks.{given_view}
use Rattle.cs_selectors.specs.Selectors as Spec
use Rattle.cs_selectors.proofs.replaced.Referring.add_all.Goals as goal

pub loop-given-preserved : goal.loop-given-preserved
loop-given-preserved c by tells =
    let xs = c.args.order.now in
    let i = c.loop-given.given-index in
    let x = c.given-item.result in
    let before = map definition_view c.args.found.now.items in
    let done = Spec.added by c.args.file (map given_view (take i xs)) in
    let one = Spec.added_at by c.args.file (given_view x) in
    let more = gathered_more (λ ys. Spec.added by c.args.file (map given_view ys)) (λ g. Spec.added_at by c.args.file (given_view g)) refl (λ g gs. refl) xs i x c.loop-given-test.true c.given-item.is in
    c.in_ok-add_given.ensures by tells ∙ ap (λ ds. ds ++ one) (c.loop-given.invariant by tells) ∙ append_assoc before done one ∙ ap (λ ds. before ++ ds) (sym more)

pub returns : goal.returns
returns c by tells =
    c.loop-given.invariant by tells ∙ ap (λ ys. map definition_view c.args.found.now.items ++ Spec.added by c.args.file (map given_view ys)) (take_all c.loop-given.given-index c.args.order.now c.loop-given-test.false)
