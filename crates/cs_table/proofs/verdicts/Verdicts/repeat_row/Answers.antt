use Rattle.std.proofs.Common.{◌≡◌, ◌<◌, ◌+◌, ◌-◌, ◌*◌, sym, ap, ◌∙◌, subst}
use Rattle.std.specs.List.{copy_within}
use Rattle.cs_table.specs.Judged.{Table, verdicts}
use Rattle.cs_table.proofs.Bits.{table_of, copied, copied_within, as_taken, others_stay}
use Rattle.cs_table.proofs.verdicts.Verdicts.repeat_row.Goals as goal

pub returns-clause-taken : goal.returns-clause-taken
returns-clause-taken c = λ r l.
    let t = c.self.inside in
    let bytes = t.bytes.items in
    let i = c.args.item in
    let p = c.args.first in
    let fits = c.self.invariant in
    ap (λ b. verdicts (table_of b t.width t.items t.rules) i r) (c.copy_within.ensures.items ∙ copied_within bytes (i * t.width) (p * t.width) t.width)
    ∙ as_taken bytes bytes t.width t.items t.items t.rules i p fits.1 fits.2 fits.2 (subst (λ (v : Table). i < v.items) (sym c.self.view_is) c.requires.item) (subst (λ (v : Table). p < v.items) (sym c.self.view_is) c.requires.first) r (subst (λ (v : Table). r < v.rules) (sym c.self.view_is) l)
    ∙ ap (λ (v : Table). verdicts v p r) c.self.view_is

pub returns-clause-others : goal.returns-clause-others
returns-clause-others c = λ j r l apart.
    let t = c.self.inside in
    let bytes = t.bytes.items in
    let i = c.args.item in
    let p = c.args.first in
    let fits = c.self.invariant in
    ap (λ b. verdicts (table_of b t.width t.items t.rules) j r) (c.copy_within.ensures.items ∙ copied_within bytes (i * t.width) (p * t.width) t.width)
    ∙ others_stay bytes bytes t.width t.items t.items t.rules i p fits.1 fits.2 fits.2 (subst (λ (v : Table). i < v.items) (sym c.self.view_is) c.requires.item) (subst (λ (v : Table). p < v.items) (sym c.self.view_is) c.requires.first) j r (subst (λ (v : Table). r < v.rules) (sym c.self.view_is) l) apart
    ∙ ap (λ (v : Table). verdicts v j r) c.self.view_is
