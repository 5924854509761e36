use Rattle.std.proofs.Common.{◌≡◌, ◌≢◌, ⊎_elim, inl, inr, ◌<◌, ◌≤◌, ◌∙◌, ap, arith}
use Rattle.std.proofs.lemmas.Bool.{cases_lt, cases_eq}
use Rattle.cs_reasons.specs.Marked.{marked}
use Rattle.cs_reasons.proofs.Bits.{no}
use Rattle.cs_reasons.proofs.Marked.{is_within}
use Rattle.cs_reasons.proofs.marks.Marks.first_from.Goals as goal

pub loop-after-preserved : goal.loop-after-preserved
loop-after-preserved c = λ j q l k.
    let m = c.args.self.now in
    let i = c.loop-after.after in
    ⊎_elim
    (λ (e : j ≡ i). ap (λ x. marked m x q) e ∙ c.in_default-first_rule.ensures q (omega arith))
    (λ (e : j ≢ i). c.loop-after.invariant j q l (omega arith))
    (cases_eq j i)

pub returns : goal.returns
returns c = λ j q e.
    let m = c.args.self.now in
    let h = is_within m j q e in
    ⊎_elim
    (λ (l : c.args.item < j). absurd (no (marked m j q) (c.loop-after.invariant j q l (let t = c.loop-after-test.false in let k = h.0 in omega arith)) e))
    (λ (l : j ≤ c.args.item). ⊎_elim
    (λ (s : j ≡ c.args.item). ⊎_elim
    (λ (k : q < c.args.rule). inr (s, k))
    (λ (k : c.args.rule ≤ q). absurd (no (marked m j q) (ap (λ x. marked m x q) s ∙ c.in_default.ensures q k) e))
    (cases_lt q c.args.rule))
    (λ (s : j ≢ c.args.item). inl (omega arith))
    (cases_eq j c.args.item))
    (cases_lt c.args.item j)
