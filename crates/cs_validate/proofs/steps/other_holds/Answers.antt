use Rattle.std.proofs.Common.{◌||◌, is_some, sym, ap, ◌∙◌}
use Rattle.cs_flat.specs.View.{entry_of}
use Rattle.cs_rules.specs.Knowns.{verdict_inside}
use Rattle.cs_profile.proofs.Pushes.{looked_up}
use Rattle.cs_validate.proofs.Found.{named_there}
use Rattle.cs_validate.proofs.steps.other_holds.Goals as goal

pub returns-then-contains_key : goal.returns-then-contains_key
returns-then-contains_key c =
    let k = (entry_of c.args.member.now).0 in
    let es = c.args.properties.now.entries in
    let e = c.contains_key.ensures ∙ ap is_some (looked_up k es) ∙ named_there k es in
    c.if-contains_key.true ∙ sym (ap (λ b. b || verdict_inside c.args.known.now (entry_of c.args.member.now).1 c.args.part) (sym e ∙ c.if-contains_key.true))

pub returns-else-contains_key : goal.returns-else-contains_key
returns-else-contains_key c =
    let k = (entry_of c.args.member.now).0 in
    let es = c.args.properties.now.entries in
    let e = c.contains_key.ensures ∙ ap is_some (looked_up k es) ∙ named_there k es in
    c.inside.ensures ∙ sym (ap (λ b. b || verdict_inside c.args.known.now (entry_of c.args.member.now).1 c.args.part) (sym e ∙ c.if-contains_key.false))
