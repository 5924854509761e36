use Rattle.std.proofs.Common.{◌++◌, ◌∙◌, sym, ap, subst}
use Rattle.cs_plain.specs.Checks.{texts_of}
use Rattle.cs_plain.specs.References.{TellsTexts}
use Rattle.cs_plain.proofs.Texts.{texts_put}
use Rattle.cs_plain.proofs.kinds.add_kind.Goals as goal

pub returns-in_ok-insert-in-Some : goal.returns-in_ok-insert-in-Some
returns-in_ok-insert-in-Some c ss told =
    let is = sym (ap texts_of c.in-Some.is) ∙ c.kind_of.ensures in
    subst (λ rs. TellsTexts c.insert.new.self (ss ++ rs)) is (texts_put c.args.found.now c.insert.new.self c.in-Some.kind ss told c.in_ok-insert-in-Some.ensures.updates)
