use Rattle.std.proofs.Common.{ap, sym, subst, take, rules, arith}
use Rattle.std.specs.Io.KnownBytes.{Appends}
use Rattle.cs_judge.proofs.WrittenTexts.{writes_alone}
use Rattle.cs_judge.proofs.answers.HeldAnswers.hold_text.Goals.{then-text-self+in_ok-write_part, else-text-self}
use Rattle.cs_judge.proofs.answers.HeldAnswers.hold_text.Goals as goal

pub returns-then-text-gt-HELD : goal.returns-then-text-gt-HELD
returns-then-text-gt-HELD g c =
    let contents = g.W.Write.contents in
    let after = c.write_part-then-text-gt-HELD in
    let held = c.args.self.now in
    let old = contents c.args.output.now in
    elim c.if-text-self.branch [
      | then-text-self+in_ok-write_part w ↦
          let first : Appends old (contents w.write_part.new.output) held = search rules in
          let none = ap (λ i. take i.end i.bytes.items) w.self-inside-is in
          writes_alone after.result old _ _ held c.args.text.now _ (subst (λ m. Appends old m held) (sym (ap contents w.output-is)) first) none (record { all = after.ensures.all; front = after.ensures.front; kind = after.ensures.kind })
      | else-text-self w ↦ absurd (omega (arith, w.if-text-self.false, c.if-text-gt-HELD.true))
    ]
