use Rattle.std.proofs.Common.{◌≡◌, ◌≢◌, ⊎_elim, inl, ◌<◌, ◌≤◌, ◌-◌, sym, ◌∙◌, ap, arith}
use Rattle.std.proofs.lemmas.Bool.{cases_lt, cases_eq}
use Rattle.cs_reasons.specs.Marked.{marked}
use Rattle.cs_reasons.proofs.Bits.{no}
use Rattle.cs_reasons.proofs.Marked.{beyond_rules}
use Rattle.cs_reasons.proofs.marks.Marks.last_before.Goals as goal

pub returns-in-Some-last_rule : goal.returns-in-Some-last_rule
returns-in-Some-last_rule c =
    let m = c.args.self.now in
    let i = c.loop-before.before - 1 in
    let found = c.in-Some-last_rule.ensures in (
      found.1,
      inl (let h = c.loop-before.auto in omega arith),
      λ j q e after before. no (marked m j q) (⊎_elim
          (λ (l : i < j). ⊎_elim
          (λ (k : j < c.args.item). c.loop-before.invariant j q (omega arith) k)
          (λ (k : c.args.item ≤ j). ⊎_elim (λ (a : j < c.args.item). absurd (omega arith)) (λ (a : (j ≡ c.args.item) × (q < c.args.rule)). ap (λ x. marked m x q) a.0 ∙ c.in_default.ensures q a.1) before)
          (cases_lt j c.args.item))
          (λ (l : (i ≡ j) × (c.in-Some-last_rule.found < q)). ⊎_elim
          (λ (k : q < m.rules). ap (λ x. marked m x q) (sym l.0) ∙ found.2 q l.1 k)
          (λ (k : m.rules ≤ q). beyond_rules m j q k)
          (cases_lt q m.rules))
          after) e,
    )

pub loop-before-preserved : goal.loop-before-preserved
loop-before-preserved c = λ j q l k.
    let m = c.args.self.now in
    let i = c.loop-before.before - 1 in
    ⊎_elim
    (λ (e : j ≡ i). ⊎_elim
    (λ (h : q < m.rules). ap (λ x. marked m x q) e ∙ c.in_default-last_rule.ensures q h)
    (λ (h : m.rules ≤ q). beyond_rules m j q h)
    (cases_lt q m.rules))
    (λ (e : j ≢ i). c.loop-before.invariant j q (omega arith) k)
    (cases_eq j i)
