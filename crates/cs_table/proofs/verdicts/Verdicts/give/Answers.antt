use Rattle.std.proofs.Common.{◌<◌, ◌||◌, sym, ap, ◌∙◌, subst}
use Rattle.cs_table.specs.Judged.{Table, verdicts}
use Rattle.cs_table.proofs.Bits.{given, others_given}
use Rattle.cs_table.proofs.verdicts.Verdicts.give.Goals as goal

pub returns-clause-given : goal.returns-clause-given
returns-clause-given c =
    let t = c.self.inside in
    let i = c.args.item in
    let r = c.args.rule in
    let fits = c.self.invariant in
    given t.bytes.items t.width t.items t.rules i r c.index_mut.result.now c.args.verdict fits.1 fits.2 (subst (λ (u : Table). i < u.items) (sym c.self.view_is) c.requires.item) (subst (λ (u : Table). r < u.rules) (sym c.self.view_is) c.requires.rule) c.index_mut.ensures.value
    ∙ ap (λ (u : Table). verdicts u i r || c.args.verdict) c.self.view_is

pub returns-clause-others : goal.returns-clause-others
returns-clause-others c = λ j q l apart.
    let t = c.self.inside in
    let i = c.args.item in
    let r = c.args.rule in
    let fits = c.self.invariant in
    others_given t.bytes.items t.width t.items t.rules i r c.index_mut.result.now c.args.verdict fits.1 fits.2 (subst (λ (u : Table). i < u.items) (sym c.self.view_is) c.requires.item) (subst (λ (u : Table). r < u.rules) (sym c.self.view_is) c.requires.rule) c.index_mut.ensures.value j q (subst (λ (u : Table). q < u.rules) (sym c.self.view_is) l) apart
    ∙ ap (λ (u : Table). verdicts u j q) c.self.view_is
