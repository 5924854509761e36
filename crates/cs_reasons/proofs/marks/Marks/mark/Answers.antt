use Rattle.std.proofs.Common.{ℕ, true, ◌+◌, ◌*◌, ◌/◌, ◌%◌, ◌^◌, bit_or, ◌∙◌, arith}
use Rattle.std.proofs.lemmas.List.{length-set}
use Rattle.cs_reasons.specs.Marked.{marked}
use Rattle.cs_reasons.proofs.Bits.{before_end, still_shown, now_marked, others_stay}
use Rattle.cs_reasons.proofs.marks.Marks.mark.Goals as goal

pub overflow_mul-place : goal.overflow_mul-place
overflow_mul-place c =
    let m = c.args.self.now in
    omega (arith, before_end c.args.item m.items m.rules c.args.rule c.requires.item c.requires.rule, m.fits)

pub overflow_add-place : goal.overflow_add-place
overflow_add-place c =
    let m = c.args.self.now in
    omega (arith, before_end c.args.item m.items m.rules c.args.rule c.requires.item c.requires.rule, m.fits)

pub invariant_of-self-clause-shown : goal.invariant_of-self-clause-shown
invariant_of-self-clause-shown c =
    let m = c.args.self.now in
    still_shown m.bytes.items m.any.items m.items m.rules c.args.item c.args.rule c.index_mut-2.result.now c.requires.item c.requires.rule m.sized m.flags c.index_mut-2.ensures.value m.shown

pub returns-clause-marked : goal.returns-clause-marked
unfolding marked
returns-clause-marked c =
    let m = c.args.self.now in
    now_marked m.bytes.items m.any.items m.items m.rules c.args.item c.args.rule c.index_mut-2.result.now c.requires.item c.requires.rule m.sized m.flags c.index_mut-2.ensures.value

pub returns-clause-others : goal.returns-clause-others
unfolding marked
returns-clause-others c =
    let m = c.args.self.now in
    others_stay m.bytes.items m.any.items m.items m.rules c.args.item c.args.rule c.index_mut-2.result.now c.requires.item c.requires.rule m.sized m.flags c.index_mut-2.ensures.value

pub invariant_of-self-clause-sized : goal.invariant_of-self-clause-sized
invariant_of-self-clause-sized c =
    let m = c.args.self.now in
    omega (arith, m.sized, length-set {A = ℕ} m.bytes.items ((c.args.item * m.rules + c.args.rule) / 8) (bit_or c.index_mut-2.result.now (1 * 2 ^ ((c.args.item * m.rules + c.args.rule) % 8) % 2 ^ 8)))

pub invariant_of-self-clause-flags : goal.invariant_of-self-clause-flags
invariant_of-self-clause-flags c = length-set c.args.self.now.any.items c.args.item true ∙ c.args.self.now.flags
