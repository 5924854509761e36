use Rattle.std.proofs.Common.{◌≡◌, ℕ, List, Option, Some, Result, IfOk}
use Rattle.cs_format.specs.declared.Form.{Form}
use Rattle.cs_format.specs.declared.Form.TheVariants.{Lines, Object}
use Rattle.cs_format.specs.declared.Format.{Format}
use Rattle.cs_judge.specs.Explained.{IsTold, IsBehindFront, IsWrittenOf, behind, told_line, members_text}
use Rattle.cs_judge.specs.Lines.{Answer}
use Rattle.cs_judge.specs.Writing.{Writes, WritesSome}
use Rattle.cs_judge.proofs.ExplainedRuns.{line_alone, line_told_with_reasons, written_object}
use Rattle.cs_judge.proofs.WrittenTexts.{writes_one, writes_weaker}
use Rattle.cs_tool.specs.declared.fault.Fault.{Fault}
use Rattle.cs_judge.proofs.answers.write_told.Goals as goal

module _ {T : Type 0} (r : Result T Fault) (old new : Option (List ℕ)) (label told : List ℕ) (answer : Answer) where
  in_lines : (form : Form) → form ≡ Lines → Writes r old new (behind label (told_line answer told)) → IfOk answer (λ b. IsTold (Some form) b told) → WritesSome r old new (IsWrittenOf (Some form) label answer)
  in_lines Lines is w is_told = writes_one r old new _ _ (line_told_with_reasons label told answer is_told) w
  in_lines (Object format) is w is_told = absurd (cc is)

  in_object : (name : List ℕ) → name ≡ label → (form : Form) (format : Format) → form ≡ Object format → WritesSome r old new (IsBehindFront name (members_text answer told))
      → IfOk answer (λ b. IsTold (Some form) b told) → WritesSome r old new (IsWrittenOf (Some form) label answer)
  in_object name same Lines format is w is_told = absurd (cc is)
  in_object name same (Object written) format is w is_told = writes_weaker r old new _ _ (written_object written name label told answer same is_told) w

pub returns-in-None : goal.returns-in-None
returns-in-None g c = rw c.in-None.is (λ is_told. writes_one _ _ _ _ _ (line_alone c.args.label.now c.args.told.now c.args.answer.now is_told) c.write_line.ensures)

pub returns-in-Some-Lines : goal.returns-in-Some-Lines
returns-in-Some-Lines g c =
    let w = c.write_line-in-Some-Lines in
    rw c.in-Some-Lines.is (in_lines w.result _ _ c.args.label.now c.args.told.now c.args.answer.now c.in-Some-Lines.field-0 (rw c.in-Some-Lines.is at c.in-Some-Lines.field-0-is) w.ensures)

pub returns-in-Some-Object : goal.returns-in-Some-Object
returns-in-Some-Object g c =
    rw c.in-Some-Object.is (in_object c.write_object.result _ _ c.args.label.now c.args.told.now c.args.answer.now _ c.name.ensures c.in-Some-Object.field-0 _ (rw c.in-Some-Object.is at c.in-Some-Object.field-0-is) (rw c.members_of-members.ensures at c.write_object.ensures))
