use Rattle.std.proofs.Common.{subst}
use Rattle.cs_rules.specs.Rows.{AreRowsOf}
use Rattle.cs_rules.specs.Sharing.{AreToldBy}
use Rattle.cs_rules.proofs.Marked.{shuffled_tell, all_told_more}
use Rattle.cs_rules.proofs.book.Rulebook.of.Goals as goal

pub invariant_of-result : goal.invariant_of-result
invariant_of-result g c =
    let step = g.R.Asks.step in
    let marks = c.in_ok-marks_of.field-0 in
    let made = c.of-classes in
    record {
      told = ∣ subst (λ rules. AreRowsOf step rules c.in_ok-rows.rows) c.deref.ensures.value c.in_ok-rows.ensures ∣₁;
      marked = ∣ all_told_more step c.args.numbering.rules.items marks made.result (shuffled_tell marks made.result made.ensures.texts made.ensures.integers made.ensures.lengths) (subst (λ rules. AreToldBy step rules marks) c.deref-2.ensures.value c.in_ok-marks_of.ensures) ∣₁;
    }
