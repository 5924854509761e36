use Rattle.std.proofs.Common.{length, ◌<◌, false, sym, ◌∙◌, arith}
use Rattle.std.proofs.lemmas.List.{get_or_default}
use Rattle.cs_reasons.proofs.Marked.{unflagged}
use Rattle.cs_reasons.proofs.marks.Marks.last_rule.Goals as goal

pub returns-then-not-index : goal.returns-then-not-index
returns-then-not-index c = λ q l.
    let m = c.args.self.now in
    let there : c.args.item < length m.any.items = omega (arith, m.flags, c.requires.item) in
    unflagged m c.args.item q (sym (get_or_default m.any.items c.args.item c.index.result.now false there) ∙ sym c.index.ensures ∙ c.if-not-index.true)
