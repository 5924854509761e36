use Rattle.std.proofs.Common.{rules, ◌≡◌, false, cond, [], ◌∷◌, ◌++◌, sym, ap, ◌∙◌, subst}
use Rattle.cs_names.specs.Checks.{lifted_view}
use Rattle.cs_names.specs.Lifted.{is_definition}
use Rattle.cs_plain.proofs.Texts.{texts_put}
use Rattle.cs_plain.specs.References.{TellsTexts}
use Rattle.cs_names.proofs.values.add_name.Goals as goal

pub returns : goal.returns
returns c ss told =
    let own = lifted_view c.args.lifted.now in
    let name : c.as_str.result.now ∷ [] ≡ own.name ∷ [] = search (rules) in
    let none : false ≡ is_definition own.text = sym c.if-is_definition.false ∙ c.is_definition.ensures in
    let more = texts_put c.args.names.now c.insert.new.self c.as_str.result ss told c.in_ok-insert.ensures.updates in
    subst (λ rs. TellsTexts c.insert.new.self (ss ++ rs)) (name ∙ ap (λ b. cond b [] (own.name ∷ [])) none) more
