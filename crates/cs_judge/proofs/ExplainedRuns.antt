-- What is told of answers, written and left.
use Rattle.std.proofs.Common.{◌≡◌, ℕ, ◌+◌, ◌-◌, ◌^◌, min, List, [], ◌∷◌, ◌++◌, length, Bool, true, false, Option, None, Some, Ok, Err, IfOk, IfErr, refl, sym, ap, subst, ◌∙◌, arith, append_assoc, length-append, codes, if◌then◌else◌}
use Rattle.cs_place.specs.Shown.{shown}
use Rattle.cs_format.specs.Formats.{asks_standard}
use Rattle.cs_reason_words.specs.Valid.{Reports}
use Rattle.cs_format.specs.declared.Form.{Form}
use Rattle.cs_format.specs.declared.Form.TheVariants.{Lines, Object}
use Rattle.cs_format.specs.declared.Format.{Format}
use Rattle.cs_tool.specs.declared.rules.Rules.{Rules}
use Rattle.cs_judge.specs.Explained.{IsTold, Tells, root_form, schema_form, IsReport, ReportsAsked, IsLabelled, members_text, input_member, IsDocumentFront, IsBehindFront, IsWrittenOf, behind, told_line, line_number, no_object, one_object, AreTold, IsWritten}
use Rattle.cs_judge.specs.Judged.{call_on}
use Rattle.cs_judge.specs.Lines.{Answer, IsTextAnswer, AreAnswerLines, answer_line}
use Rattle.cs_tool.specs.Runs.{IsCallAnswer, IsCallRefusal, verdict_text}
use Rattle.cs_judge.proofs.LineLists.{text_push}

-- nothing was told before
pub told_first : (form : Option Form) (truth : Bool) (told : List ℕ) → Tells form truth [] told → IsTold form truth told
told_first form truth told h = subst (IsTold form truth) (sym h.1) h.2

-- nothing was reported before
pub first_report : (form : Option Form) (truth : Bool) (old new told : List ℕ) → old ≡ [] → told ≡ new → ReportsAsked form truth old new → IsReport form truth told
first_report None truth old new told none same h = tt
first_report (Some form) truth old new told none same h = (h.2.0, same ∙ h.1 ∙ ap (λ o. o ++ h.0) none ∙ h.2.1, h.2.2)

-- where both sides say the same, the report says it, whichever side makes it
by_one : (form : Form) (schema_tells : Bool) (a b : Bool) (old mid new : List ℕ) → a ≡ b → ReportsAsked (if schema_tells then None else Some form) a old mid → ReportsAsked (if schema_tells then Some form else None) b mid new → Reports form a old new
by_one form true a b old mid new same root schema = subst (λ t. Reports form t old new) (sym same) (subst (λ m. Reports form b m new) root schema)
by_one form false a b old mid new same root schema = subst (Reports form a old) (sym schema) root

pub one_side : (form : Option Form) (a b : Bool) (old mid new : List ℕ) → a ≡ b → ReportsAsked (root_form form) a old mid → ReportsAsked (schema_form form) b mid new → ReportsAsked form a old new
one_side None a b old mid new same root schema = schema ∙ root
one_side (Some form) a b old mid new same root schema = by_one form (asks_standard form) a b old mid new same root schema

pub reports_same : (form : Option Form) (a b : Bool) (old new : List ℕ) → a ≡ b → ReportsAsked form a old new → ReportsAsked form b old new
reports_same form a b old new same h = subst (λ t. ReportsAsked form t old new) same h

-- what is told of a verdict follows the label
pub labelled_told : (label : List ℕ) (truth : Bool) (told : List ℕ) → IsTold (Some Lines) truth told → IsLabelled label (Ok truth) (behind label told)
labelled_told label true told h = ap (behind label) h
labelled_told label false told h = (h.0, ap (behind label) h.1 ∙ sym (append_assoc (shown label ++ codes ": ") (answer_line (Ok false)) h.0), h.2)

-- what follows the label is written of the answer, without reasons and with them
pub line_alone : (label told : List ℕ) (answer : Answer) → IfOk answer (λ b. IsTold None b told) → IsWrittenOf None label answer (behind label (told_line answer told))
line_alone label told (Ok truth) h = ap (behind label) h
line_alone label told (Err e) h = refl

pub line_told_with_reasons : (label told : List ℕ) (answer : Answer) → IfOk answer (λ b. IsTold (Some Lines) b told) → IsWrittenOf (Some Lines) label answer (behind label (told_line answer told))
line_told_with_reasons label told (Ok truth) h = labelled_told label truth told h
line_told_with_reasons label told (Err e) h = refl

-- the object of a document
pub written_object : (format : Format) (name label told : List ℕ) (answer : Answer) → name ≡ label → IfOk answer (λ b. IsTold (Some (Object format)) b told)
    → (text : List ℕ) → IsBehindFront name (members_text answer told) text → IsWrittenOf (Some (Object format)) label answer text
written_object format name label told answer same h text b = (b.0, subst (λ n. IsDocumentFront n b.0) same b.1, (told, h, b.2))

-- ---- the lines, or the objects of lines

-- the line of an answer is what is told of it
line_told : (answer : Answer) (answers : List Answer) (text : List ℕ) → AreAnswerLines answers text → AreAnswerLines (answers ++ answer ∷ []) (text ++ answer_line answer)
line_told answer answers text is = ap (λ t. t ++ answer_line answer) is ∙ sym (text_push answers answer)

-- no line is answered
pub told_none : (form : Option Form) → AreTold form [] []
told_none None = refl
told_none (Some Lines) = refl
told_none (Some (Object format)) = no_object

-- one more is
pub told_more : (form : Option Form) (answers : List Answer) (text : List ℕ) (answer : Answer) (more : List ℕ) → AreTold form answers text → IsWritten form (line_number answers) answer more → AreTold form (answers ++ answer ∷ []) (text ++ more)
told_more None answers text answer more h w = ap (λ m. text ++ m) w ∙ line_told answer answers text h
told_more (Some Lines) answers text answer more h w = ap (λ m. text ++ m) w ∙ line_told answer answers text h
told_more (Some (Object format)) answers text answer more h w = one_object answer more h w

next : (n m most : ℕ) → m ≡ min (n + 1) most → min (m + 1) most ≡ min (n + 1 + 1) most
next n m most is = omega arith

pub next_number : (answers : List Answer) (answer : Answer) (number : ℕ) → number ≡ line_number answers → min (number + 1) (2 ^ 64 - 1) ≡ line_number (answers ++ answer ∷ [])
next_number answers answer number is = next (length answers) number (2 ^ 64 - 1) is ∙ ap (λ n. min (n + 1) (2 ^ 64 - 1)) (sym (length-append answers (answer ∷ [])))

-- something is written of each answer
pub some_written : (form : Option Form) (number : ℕ) (answer : Answer) (told : List ℕ) → IfOk answer (λ b. IsTold form b told) → (more : List ℕ) × IsWritten form number answer more
some_written None number answer told h = (answer_line answer, refl)
some_written (Some Lines) number answer told h = (answer_line answer, refl)
some_written (Some (Object format)) number answer told h = (input_member number ++ members_text answer told, (told, h, refl))

-- ---- the answer to a text

pub text_answer : (rules : Rules) (text : List ℕ) (answer : Answer) → IfOk answer (λ b. IsCallAnswer (call_on rules text) b (verdict_text b)) → IfErr answer (IsCallRefusal (call_on rules text)) → IsTextAnswer rules text answer
text_answer rules text (Ok truth) found refused = found
text_answer rules text (Err e) found refused = refused

-- what is told of it, where nothing was told before
pub all_told : (form : Option Form) (answer : Answer) (before after told : List ℕ) → before ≡ [] → told ≡ after → IfOk answer (λ b. Tells form b before after) → IfOk answer (λ b. IsTold form b told)
all_told form (Ok truth) before after told none same h = subst (IsTold form truth) (sym same) (told_first form truth after (subst (λ t. Tells form truth t after) none h))
all_told form (Err e) before after told none same h = tt
