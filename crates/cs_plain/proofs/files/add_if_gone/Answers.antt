use Rattle.std.proofs.Common.{rules, ◌≡◌, true, false, [], ◌∷◌, ◌++◌, sym, subst, ◌∙◌}
use Rattle.cs_grammar.specs.View.{definition_view}
use Rattle.cs_plain.specs.Placed.{gone_if}
use Rattle.cs_plain.specs.References.{is_among, TellsTexts}
use Rattle.cs_plain.proofs.Gone.{gone_here}
use Rattle.cs_plain.proofs.Texts.{texts_put}
use Rattle.cs_plain.proofs.files.add_if_gone.Goals as goal

pub returns-in_ok-insert : goal.returns-in_ok-insert
returns-in_ok-insert c ss bs cs told before after =
    let d = definition_view c.args.definition.now in
    let k = c.as_str-name.result in
    let yes : is_among bs k.now ≡ true = sym (before k.now) ∙ sym c.contains.ensures ∙ c.if-contains.true in
    let out : c.contains-then-contains.result ≡ false = search (rules, c.if-not-contains.true) in
    let no : is_among cs k.now ≡ false = sym (after k.now) ∙ sym c.contains-then-contains.ensures ∙ out in
    let is : k.now ∷ [] ≡ gone_if bs cs d = gone_here bs cs d k.now c.as_str-name.ensures.value yes no in
    subst (λ rs. TellsTexts c.insert.new.self (ss ++ rs)) is (texts_put c.args.gone.now c.insert.new.self k ss told c.in_ok-insert.ensures.updates)
