-- What a run over lines answers, writes and leaves.
use Rattle.std.specs.Prelude.{◌≡◌, ℕ, List, Option, IfSome}
use Rattle.std.specs.Io.KnownBytes.{Appends, Consumes}
use Rattle.cs_format.specs.declared.Form.{Form}
use Rattle.cs_tool.specs.Runs.{IsCallRefusal}
use Rattle.cs_tool.specs.Streams.{AppendsFront}
use Rattle.cs_tool.specs.declared.fault.Fault.{Fault}
use Rattle.cs_tool.specs.declared.fault.Fault.TheVariants.{ReadFailed, WriteFailed}
use Rattle.cs_tool.specs.declared.rules.Rules.{Rules}
use Rattle.cs_judge.specs.declared.answers.LinesOutcome.{LinesOutcome}
use Rattle.cs_judge.specs.Explained.{AreTold}
use Rattle.cs_judge.specs.Judged.{call_on}
use Rattle.cs_judge.specs.Lines.{Answer, Splits, AreLines, AreFirstLines, AreAnswers, outcome_of}

-- the answers to lines, and what is written of them
pub record Answered (form : Option Form) (rules : Rules) (lines : List (List ℕ)) : Type 0 where
  pub answers : List Answer
  pub answered : AreAnswers rules lines answers
  pub text : List ℕ
  pub told : AreTold form answers text

-- what a run that ends answers and has written: what stands for the lines of the whole input, in order
pub record IsDone (form : Option Form) (rules : Rules) (remaining old new : Option (List ℕ)) (outcome : LinesOutcome) : Type 0 where
  pub lines : List (List ℕ)
  pub read : IfSome remaining (λ bytes. AreLines bytes lines)
  pub said : Answered form rules lines
  pub written : Appends old new said.text
  pub outcome_is : outcome ≡ outcome_of said.answers

-- the writer took a front of what is written of the first lines
pub record IsCutOff (form : Option Form) (rules : Rules) (remaining old new : Option (List ℕ)) : Type 0 where
  pub lines : List (List ℕ)
  pub read : IfSome remaining (λ bytes. AreFirstLines bytes lines)
  pub said : Answered form rules lines
  pub written : AppendsFront old new said.text

-- the reader gave some bytes, and the writer has the answers to the lines that end among them
pub record IsStopped (form : Option Form) (rules : Rules) (remaining left old new : Option (List ℕ)) : Type 0 where
  pub bytes : List ℕ
  pub given : Consumes remaining left bytes
  pub lines : List (List ℕ)
  pub rest : List ℕ
  pub split : Splits bytes lines rest
  pub said : Answered form rules lines
  pub written : Appends old new said.text

-- what a refusal says of a run, of what the reader has left, and of what the writer has
abbrev pub LeavesLines : Option Form → Rules → Fault → Option (List ℕ) → Option (List ℕ) → Option (List ℕ) → Option (List ℕ) → Type 0
LeavesLines form rules WriteFailed remaining left old new = IsCutOff form rules remaining old new
LeavesLines form rules ReadFailed remaining left old new = IsStopped form rules remaining left old new
LeavesLines form rules fault remaining left old new = (text : List ℕ) → IsCallRefusal (call_on rules text) fault

-- the rules are refused before the input is read
abbrev pub IsOfRules : Fault → Type 0
IsOfRules WriteFailed = ⊥
IsOfRules ReadFailed = ⊥
IsOfRules fault = Unit {0}
