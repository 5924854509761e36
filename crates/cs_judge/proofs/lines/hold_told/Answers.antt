use Rattle.std.proofs.Common.{◌≡◌, ℕ, List, ◌++◌, Option, Some, Result, IfOk, refl, ap₂, ◌∙◌, append_assoc}
use Rattle.std.proofs.lemmas.Result.{err_from_is_err_and}
use Rattle.cs_format.specs.declared.Form.{Form}
use Rattle.cs_format.specs.declared.Form.TheVariants.{Lines, Object}
use Rattle.cs_format.specs.declared.Format.{Format}
use Rattle.cs_judge.specs.Explained.{IsTold, IsWritten, input_member, members_text}
use Rattle.cs_judge.specs.Lines.{Answer, answer_line}
use Rattle.cs_judge.specs.Writing.{Holds, HoldsSome}
use Rattle.cs_judge.proofs.LineRuns.{front_more}
use Rattle.cs_judge.proofs.WrittenTexts.{holds_one, holds_same, holds_both, holds_front}
use Rattle.cs_tool.specs.declared.fault.Fault.{Fault}
use Rattle.cs_tool.specs.declared.fault.Fault.TheVariants.{WriteFailed}
use Rattle.cs_judge.proofs.lines.hold_told.Goals as goal

module _ {T : Type 0} (r : Result T Fault) (old new : Option (List ℕ)) (before held : List ℕ) (number : ℕ) (answer : Answer) (told : List ℕ) where
  in_lines : (form : Form) → form ≡ Lines → (text : List ℕ) → text ≡ answer_line answer → Holds r old new (before ++ text) held
      → IfOk answer (λ b. IsTold (Some form) b told) → HoldsSome r old new before held (IsWritten (Some form) number answer)
  in_lines Lines is text same h is_told = holds_one r old new _ before held text same h
  in_lines (Object format) is text same h is_told = absurd (cc is)

  in_object : (form : Form) (format : Format) → form ≡ Object format → (front members : List ℕ) → front ≡ input_member number → members ≡ members_text answer told
      → Holds r old new (before ++ front ++ members) held → IfOk answer (λ b. IsTold (Some form) b told) → HoldsSome r old new before held (IsWritten (Some form) number answer)
  in_object Lines format is front members first second h is_told = absurd (cc is)
  in_object (Object written) format is front members first second h is_told =
      holds_one r old new _ before held (front ++ members) (told, is_told, ap₂ (λ a b. a ++ b) first second) (holds_same r old new _ _ held (append_assoc before front members) h)

pub returns-in-None : goal.returns-in-None
returns-in-None g c = rw c.in-None.is (λ is_told. holds_one _ _ _ _ _ _ _ c.line_of.ensures c.hold_text.ensures)

pub returns-in-Some-Lines : goal.returns-in-Some-Lines
returns-in-Some-Lines g c =
    let h = c.hold_text-in-Some-Lines in
    rw c.in-Some-Lines.is (in_lines h.result _ _ _ _ c.args.number c.args.answer.now c.args.told.now c.in-Some-Lines.field-0 (rw c.in-Some-Lines.is at c.in-Some-Lines.field-0-is) _ c.line_of-in-Some-Lines.ensures h.ensures)

pub returns-in_err-hold_text-in-Some-Object : goal.returns-in_err-hold_text-in-Some-Object
returns-in_err-hold_text-in-Some-Object g c =
    let e = c.in_err-hold_text-in-Some-Object in
    let held = c.args.held.now in
    let members = members_text c.args.answer.now c.args.told.now in
    let kind : e.field-0.0 ≡ WriteFailed = cc e.ensures.kind in
    let p = err_from_is_err_and c.from_residual.result c.from_residual.ensures.1 in
    let h = holds_front c.from_residual.result _ _ p.0 _ _ p.1 (p.2 ∙ kind) (front_more _ _ _ members e.ensures.front) in
    rw c.in-Some-Object.is (in_object c.from_residual.result _ _ held _ c.args.number c.args.answer.now c.args.told.now c.in-Some-Object.field-0 _ (rw c.in-Some-Object.is at c.in-Some-Object.field-0-is) _ _ c.front_of.ensures refl h)

pub returns-in_ok-hold_text-in-Some-Object : goal.returns-in_ok-hold_text-in-Some-Object
returns-in_ok-hold_text-in-Some-Object g c =
    let h = c.hold_text-in-Some-Object-2 in
    let both = holds_both h.result _ _ _ _ _ _ _ c.in_ok-hold_text-in-Some-Object.ensures.all h.ensures in
    rw c.in-Some-Object.is (in_object h.result _ _ c.args.held.now _ c.args.number c.args.answer.now c.args.told.now c.in-Some-Object.field-0 _ (rw c.in-Some-Object.is at c.in-Some-Object.field-0-is) _ _ c.front_of.ensures c.members_of.ensures both)
