use Rattle.std.proofs.Common.{rules, ◌≡◌, [], ◌∷◌, ◌++◌, map, take, refl, sym, ap, subst, ◌∙◌, string_bytes}
use Rattle.std.proofs.lemmas.List.{take_all}
use Rattle.cs_plain.specs.References.{TellsTexts}
use Rattle.cs_plain.proofs.Folds.{gathered_more}
use Rattle.cs_plain.proofs.Texts.{texts_put}
use Rattle.cs_selectors.specs.Checks.{given_view}
use Rattle.cs_selectors.specs.Given.{given_names}
use Rattle.cs_selectors.proofs.files.given_names.Goals as goal

pub loop-given-preserved : goal.loop-given-preserved
loop-given-preserved c =
    let xs = c.args.order.now in
    let i = c.loop-given.given-index in
    let x = c.given-item.result in
    let done = given_names (map given_view (take i xs)) in
    let name : c.as_str.result.now ∷ [] ≡ string_bytes x.name ∷ [] = search (rules) in
    let more = gathered_more (λ ys. given_names (map given_view ys)) (λ g. string_bytes g.name ∷ []) refl (λ g gs. refl) xs i x c.loop-given-test.true c.given-item.is in
    subst (TellsTexts c.insert.new.self) (ap (λ ss. done ++ ss) name ∙ sym more)
    (texts_put c.loop-given.names c.insert.new.self c.as_str.result done c.loop-given.invariant c.in_ok-insert.ensures.updates)

pub returns : goal.returns
returns c = subst (λ ys. TellsTexts c.loop-given.names (given_names (map given_view ys))) (take_all c.loop-given.given-index c.args.order.now c.loop-given-test.false) c.loop-given.invariant
