use Rattle.std.proofs.Common.{◌<◌, ◌+◌, ◌*◌, ◌/◌, ◌%◌, nat_eq, sym, ap, ◌∙◌, subst}
use Rattle.std.proofs.lemmas.List.{get_or_default}
use Rattle.std.proofs.lemmas.Nat.Bits.{shr_and_one}
use Rattle.std.specs.Int.{bit_at}
use Rattle.cs_table.specs.Judged.{Table, verdicts}
use Rattle.cs_table.proofs.Bits.{got, byte_there}
use Rattle.cs_table.proofs.verdicts.Verdicts.get.Goals as goal

pub returns : goal.returns
returns c =
    let t = c.self.inside in
    let i = c.args.item in
    let r = c.args.rule in
    let bytes = t.bytes.items in
    let fits = c.self.invariant in
    let of_items : i < t.items = subst (λ (u : Table). i < u.items) (sym c.self.view_is) c.requires.item in
    let of_rules : r < t.rules = subst (λ (u : Table). r < u.rules) (sym c.self.view_is) c.requires.rule in
    ap (λ b. nat_eq b 1)
    (shr_and_one c.index.result.now (r % 8)
    ∙ ap (λ b. bit_at b (r % 8)) (c.index.ensures ∙ get_or_default bytes (i * t.width + r / 8) c.index.result.now 0 (byte_there bytes t.width t.items t.rules i r fits.1 fits.2 of_items of_rules)))
    ∙ sym (got bytes t.width t.items t.rules i r fits.2 of_rules)
    ∙ ap (λ (u : Table). verdicts u i r) c.self.view_is
