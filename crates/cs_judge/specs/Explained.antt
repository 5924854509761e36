-- What is told of a document beside its verdict.
use Rattle.std.specs.Prelude.{◌≡◌, ◌⊎◌, ℕ, ◌+◌, ◌-◌, ◌^◌, min, List, [], ◌∷◌, ◌++◌, length, drop, Bool, true, false, Option, None, Some, Ok, Err, IfOk, codes, decimal, if◌then◌else◌}
use Rattle.std.specs.Io.KnownBytes.{Appends, Keeps}
use Rattle.json.specs.Print.{quoted}
use Rattle.cs_place.specs.Shown.{shown}
use Rattle.cs_format.specs.Formats.{asks_standard}
use Rattle.cs_reason_words.specs.Valid.{EndsInLine, Says, Reports}
use Rattle.cs_format.specs.declared.Form.{Form}
use Rattle.cs_format.specs.declared.Form.TheVariants.{Lines, Object}
use Rattle.cs_judge.specs.declared.text_judge.Why.{Why}
use Rattle.cs_judge.specs.Judged.{call_on}
use Rattle.cs_judge.specs.Lines.{Answer, AreAnswerLines, answer_line, labelled}
use Rattle.cs_tool.specs.Objects.{error_member}
use Rattle.cs_tool.specs.Runs.{IsCallAnswer, IsCallRefusal, verdict_text, line_of}
use Rattle.cs_tool.specs.Streams.{AppendsFront}
use Rattle.cs_tool.specs.declared.fault.Fault.{Fault}
use Rattle.cs_tool.specs.declared.fault.Fault.TheVariants.{WriteFailed}
use Rattle.cs_tool.specs.declared.rules.Rules.{Rules}

-- the form in which reasons are asked for, if they are
abbrev pub asked_form : Option Why → Option Form
asked_form None = None
asked_form (Some why) = Some why.form

-- the verdict's line, and in lines one at least behind `invalid`, and none behind `valid`; in the other forms an object says the verdict
abbrev pub IsTold : Option Form → Bool → List ℕ → Type 0
IsTold None truth text = text ≡ line_of (verdict_text truth)
IsTold (Some Lines) true text = text ≡ line_of (verdict_text true)
IsTold (Some Lines) false text = (reasons : List ℕ) × (text ≡ line_of (verdict_text false) ++ reasons) × EndsInLine reasons
IsTold (Some (Object format)) truth text = Says (Object format) truth text

-- what is told of the verdict was added
abbrev pub Tells : Option Form → Bool → List ℕ → List ℕ → Type 0
Tells form truth old new = (text : List ℕ) × (new ≡ old ++ text) × IsTold form truth text

-- where a document is judged on both sides, the schema tells the reasons in the output formats of JSON Schema, and else the definition
abbrev pub root_form : Option Form → Option Form
root_form None = None
root_form (Some form) = if asks_standard form then None else Some form

abbrev pub schema_form : Option Form → Option Form
schema_form None = None
schema_form (Some form) = if asks_standard form then Some form else None

-- ---- what is written of a document

-- the truth value is that of the call on the text, and this is told of it
abbrev pub IsToldAnswer : Rules → List ℕ → Option Form → Bool → List ℕ → Type 0
IsToldAnswer rules text form truth told = IsCallAnswer (call_on rules text) truth (verdict_text truth) × IsTold form truth told

-- what a refusal says of the call, and of what the writer has: nothing was written but a front of what is told where a
-- write failed
abbrev pub LeavesTold : Rules → List ℕ → Option Form → Fault → Option (List ℕ) → Option (List ℕ) → Type 0
LeavesTold rules text form WriteFailed old new = (truth : Bool) × (told : List ℕ) × IsToldAnswer rules text form truth told × AppendsFront old new told
LeavesTold rules text form fault old new = IsCallRefusal (call_on rules text) fault × Keeps old new

-- the line that tells the answer to a text of that label, and behind `invalid` one for a reason at least
abbrev pub IsLabelled : List ℕ → Answer → List ℕ → Type 0
IsLabelled label (Ok false) text = (reasons : List ℕ) × (text ≡ labelled label (Ok false) ++ reasons) × EndsInLine reasons
IsLabelled label answer text = text ≡ labelled label answer

-- ---- an object for each document, or for each line

-- what follows the front of an object: what is told of the verdict behind its first byte, or the number of the refusal
abbrev pub members_text : Answer → List ℕ → List ℕ
members_text (Ok truth) told = drop 1 told
members_text (Err fault) told = error_member fault ++ codes "}\n"

-- the object has that front, and tells the answer as it is told of the text alone
abbrev pub IsObject : Form → List ℕ → Answer → List ℕ → Type 0
IsObject form front answer text = (told : List ℕ) × IfOk answer (λ truth. IsTold (Some form) truth told) × (text ≡ front ++ members_text answer told)

-- what an object that tells of a line begins with: its number
abbrev pub input_member : ℕ → List ℕ
input_member number = codes "{\"input\":" ++ decimal number ++ codes ","

-- what an object that tells of a document begins with: its name
abbrev pub document_member : List ℕ → List ℕ
document_member name = codes "{\"document\":" ++ quoted name ++ codes ","

-- where memory runs out the name is left out
abbrev pub IsDocumentFront : List ℕ → List ℕ → Type 0
IsDocumentFront name front = (front ≡ document_member name) ⊎ (front ≡ codes "{")

-- these members behind it
abbrev pub IsBehindFront : List ℕ → List ℕ → List ℕ → Type 0
IsBehindFront name members text = (front : List ℕ) × IsDocumentFront name front × (text ≡ front ++ members)

-- the object of a document of that label
abbrev pub IsDocumentObject : Form → List ℕ → Answer → List ℕ → Type 0
IsDocumentObject form label answer text = (front : List ℕ) × IsDocumentFront label front × IsObject form front answer text

-- what is written of a document of that label: the line of its answer, in lines with reasons behind it, and in the other forms the object
abbrev pub IsWrittenOf : Option Form → List ℕ → Answer → List ℕ → Type 0
IsWrittenOf None label answer text = text ≡ labelled label answer
IsWrittenOf (Some Lines) label answer text = IsLabelled label answer text
IsWrittenOf (Some (Object format)) label answer text = IsDocumentObject (Object format) label answer text

-- the writer took it
abbrev pub WritesLabelled : Option Form → List ℕ → Answer → Option (List ℕ) → Option (List ℕ) → Type 0
WritesLabelled form label answer old new = (text : List ℕ) × IsWrittenOf form label answer text × Appends old new text

-- the writer took a front of it
abbrev pub LeavesLabelled : Option Form → List ℕ → Answer → Option (List ℕ) → Option (List ℕ) → Type 0
LeavesLabelled form label answer old new = (text : List ℕ) × IsWrittenOf form label answer text × AppendsFront old new text

-- ---- the lines of an input

-- the number of the line behind those that are answered, up to the largest one that a counter has
abbrev pub line_number : List Answer → ℕ
line_number answers = min (length answers + 1) (2 ^ 64 - 1)

-- the objects of the lines, one behind the other, each with the number of its line
pub data AreObjects (form : Form) : List Answer → List ℕ → Type 0 where
  no_object : AreObjects form [] []
  one_object : {answers : List Answer} {text : List ℕ} (answer : Answer) (object : List ℕ) → AreObjects form answers text → IsObject form (input_member (line_number answers)) answer object → AreObjects form (answers ++ answer ∷ []) (text ++ object)

-- what a run writes of the answers: their lines, or their objects
abbrev pub AreTold : Option Form → List Answer → List ℕ → Type 0
AreTold None answers text = AreAnswerLines answers text
AreTold (Some Lines) answers text = AreAnswerLines answers text
AreTold (Some (Object format)) answers text = AreObjects (Object format) answers text

-- ---- on the way

-- a text behind a label
abbrev pub behind : List ℕ → List ℕ → List ℕ
behind label text = shown label ++ codes ": " ++ text

-- what is told of a verdict, or the line of a refusal
abbrev pub told_line : Answer → List ℕ → List ℕ
told_line (Ok truth) told = told
told_line (Err fault) told = answer_line (Err fault)

-- the report says the verdict, where reasons are asked for
abbrev pub IsReport : Option Form → Bool → List ℕ → Type 0
IsReport None truth report = Unit {0}
IsReport (Some form) truth report = Says form truth report

-- what is added to it: nothing where none are asked for
abbrev pub ReportsAsked : Option Form → Bool → List ℕ → List ℕ → Type 0
ReportsAsked None truth old new = new ≡ old
ReportsAsked (Some form) truth old new = Reports form truth old new

-- what is written of the answer to a line of that number
abbrev pub IsWritten : Option Form → ℕ → Answer → List ℕ → Type 0
IsWritten None number answer text = text ≡ answer_line answer
IsWritten (Some Lines) number answer text = text ≡ answer_line answer
IsWritten (Some (Object format)) number answer text = IsObject (Object format) (input_member number) answer text
