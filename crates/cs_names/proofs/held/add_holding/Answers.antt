use Rattle.std.proofs.Common.{rules, ◌≡◌, true, cond, [], ◌∷◌, ◌++◌, sym, ap, ◌∙◌, subst}
use Rattle.cs_grammar.specs.Tree.{body, defined_name}
use Rattle.cs_grammar.specs.View.{definition_view}
use Rattle.cs_plain.proofs.Texts.{texts_put}
use Rattle.cs_plain.specs.References.{TellsTexts}
use Rattle.cs_names.specs.Joined as Spec
use Rattle.cs_names.proofs.held.add_holding.Goals as goal

pub returns-in_ok-insert : goal.returns-in_ok-insert
returns-in_ok-insert c ss told =
    let own = definition_view c.args.definition.now in
    let name : c.as_str.result.now ∷ [] ≡ defined_name own ∷ [] = search (rules) in
    let holds : true ≡ Spec.holds_literal (body own) = sym c.if-holds_literal.true ∙ c.holds_literal.ensures in
    let more = texts_put c.args.found.now c.insert.new.self c.as_str.result ss told c.in_ok-insert.ensures.updates in
    subst (λ rs. TellsTexts c.insert.new.self (ss ++ rs)) (name ∙ ap (λ b. cond b (defined_name own ∷ []) []) holds) more
