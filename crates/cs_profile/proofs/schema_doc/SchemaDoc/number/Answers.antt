use Rattle.std.proofs.Common.{is_some, sym, ap, ◌∙◌, subst}
use Rattle.cs_profile.specs.Numbered.{AreRanks}
use Rattle.cs_profile.proofs.Ranked.{number_declared, number_kept}
use Rattle.cs_profile.proofs.schema_doc.SchemaDoc.number.Goals as goal

pub returns-clause-place : goal.returns-clause-place
returns-clause-place c =
    let are = subst (λ v. AreRanks v c.self.inside.numbers.entries c.self.inside.ranks.items) c.self.view_is c.self.invariant in
    c.copied.ensures ∙ c.get.ensures.value ∙ number_kept c.args.self.now c.args.name.now c.self.inside.numbers.entries c.self.inside.ranks.items are

pub returns-clause-declared : goal.returns-clause-declared
returns-clause-declared c =
    let same = ap is_some (returns-clause-place c) ∙ number_declared c.args.self.now c.args.name.now in
    ((λ e. sym same ∙ e), (λ e. same ∙ e))
