use Rattle.std.proofs.Common.{◌≡◌, map, ap, subst, ◌∙◌, IfOk}
use Rattle.cs_grammar.specs.View.{file_view}
use Rattle.cs_plain.specs.Placed.{in_places}
use Rattle.cs_plain.specs.References.{TellsTexts}
use Rattle.cs_selectors.specs.Checks.{given_view}
use Rattle.cs_selectors.specs.Given.{given_names}
use Rattle.cs_selectors.proofs.files.given_files.Goals as goal

pub returns : goal.returns
returns c all bs gs tells =
    let ns = given_names gs in
    let told = subst (λ xs. TellsTexts c.in_ok-names.names (given_names xs)) (ap (map given_view) c.deref.ensures.value ∙ tells.order) c.in_ok-names.ensures in
    let is = ap (map file_view) c.deref-2.ensures.value ∙ c.in_ok-unselected.ensures all bs gs tells in
    subst (λ fs. IfOk c.in_places.result (λ v. map file_view v.items ≡ in_places ns fs)) is (c.in_places.ensures ns told)
