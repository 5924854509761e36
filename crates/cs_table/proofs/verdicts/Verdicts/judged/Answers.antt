use Rattle.std.proofs.Common.{sym, ap, ◌∙◌, length}
use Rattle.cs_table.specs.Judged.{Table}
use Rattle.cs_table.proofs.Bits.{length-kept}
use Rattle.cs_table.proofs.verdicts.Verdicts.judged.Goals as goal

pub returns : goal.returns
returns c =
    let t = c.self.inside in
    sym (length-kept t.bytes.items t.width t.items t.rules) ∙ ap (λ (u : Table). length u.given) c.self.view_is
