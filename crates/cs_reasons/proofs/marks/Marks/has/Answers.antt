use Rattle.std.proofs.Common.{◌+◌, ◌*◌, ◌/◌, ◌%◌, nat_eq, sym, ap, ◌∙◌, arith}
use Rattle.std.proofs.lemmas.List.{get_or_default}
use Rattle.std.proofs.lemmas.Nat.Bits.{shr_and_one}
use Rattle.std.specs.Int.{bit_at}
use Rattle.cs_reasons.specs.Marked.{marked}
use Rattle.cs_reasons.proofs.Bits.{there, before_end, byte_there}
use Rattle.cs_reasons.proofs.marks.Marks.has.Goals as goal

pub overflow_mul-place : goal.overflow_mul-place
overflow_mul-place c =
    let m = c.args.self.now in
    omega (arith, before_end c.args.item m.items m.rules c.args.rule c.requires.item c.requires.rule, m.fits)

pub overflow_add-place : goal.overflow_add-place
overflow_add-place c =
    let m = c.args.self.now in
    omega (arith, before_end c.args.item m.items m.rules c.args.rule c.requires.item c.requires.rule, m.fits)

pub returns : goal.returns
unfolding marked
returns c =
    let m = c.args.self.now in
    let i = c.args.item in
    let r = c.args.rule in
    let k = i * m.rules + r in
    let inside = byte_there m.bytes.items m.items m.rules i r m.sized c.requires.item c.requires.rule in
    ap (λ b. nat_eq b 1)
    (shr_and_one c.index.result.now (k % 8)
    ∙ ap (λ b. bit_at b (k % 8)) (c.index.ensures ∙ get_or_default m.bytes.items (k / 8) c.index.result.now 0 inside))
    ∙ sym (there m.bytes.items m.items m.rules i r c.requires.item c.requires.rule)
