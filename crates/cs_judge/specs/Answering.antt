-- Where a run over lines stands between two steps.
use Rattle.std.specs.Prelude.{◌≡◌, ℕ, List, [], ◌∷◌, ◌++◌, Option, Some, Result, Err, OnOk, OnErr}
use Rattle.std.specs.List.{All, flat_map}
use Rattle.cs_judge.specs.declared.lines.LineRun.{LineRun}
use Rattle.cs_tool.specs.declared.rules.Rules.{Rules}
use Rattle.cs_judge.specs.Begun.{HoldsFront}
use Rattle.cs_judge.specs.Explained.{line_number}
use Rattle.cs_judge.specs.Runs.{Answered, IsDone, IsCutOff}
use Rattle.cs_judge.specs.Lines.{IsLine, Splits, outcome_of, Hands}
use Rattle.cs_tool.specs.Runs.{line_of}
use Rattle.cs_format.specs.declared.Form.{Form}
use Rattle.cs_tool.specs.Streams.{AppendsFront}
use Rattle.cs_tool.specs.declared.fault.Fault.{Fault}
use Rattle.cs_tool.specs.declared.fault.Fault.TheVariants.{WriteFailed}

-- the lines are answered, what is written of the answers was taken by the writer or is held, and the next line has the number behind theirs
pub record AreAnswered (form : Option Form) (rules : Rules) (start now : Option (List ℕ)) (lines : List (List ℕ)) (run : LineRun) : Type 0 where
  pub said : Answered form rules lines
  pub handed : Hands start now said.text run.held
  pub outcome_is : run.outcome ≡ outcome_of said.answers
  pub number_is : run.line.line ≡ line_number said.answers

-- the lines that end among the bytes are answered, and the line after them is begun
pub record IsAnswered (form : Option Form) (rules : Rules) (start now : Option (List ℕ)) (bytes : List ℕ) (run : LineRun) : Type 0 where
  pub lines : List (List ℕ)
  pub rest : List ℕ
  pub split : Splits bytes lines rest
  pub begun : HoldsFront run.begun rest
  pub answered : AreAnswered form rules start now lines run

-- the writer took a front of what is written of the lines
pub record AreCutOff (form : Option Form) (rules : Rules) (lines : List (List ℕ)) (start now : Option (List ℕ)) : Type 0 where
  pub said : Answered form rules lines
  pub written : AppendsFront start now said.text

-- the bytes begin with these lines and their newlines
abbrev pub BeginsWith : List ℕ → List (List ℕ) → Type 0
BeginsWith bytes lines = (more : List ℕ) × (bytes ≡ flat_map line_of lines ++ more) × All IsLine lines

-- the writer took a front of what is written of the first lines
abbrev pub IsCutOffIn : Option Form → Rules → List ℕ → Option (List ℕ) → Option (List ℕ) → Type 0
IsCutOffIn form rules bytes start now = (lines : List (List ℕ)) × BeginsWith bytes lines × AreCutOff form rules lines start now

-- ---- what the steps of a run do, wherever it stood; where one fails, a write failed, and the writer took a front

-- the lines that end in the chunk are answered too
pub record GoesOver {T : Type 0} (result : Result T Fault) (form : Option Form) (rules : Rules) (chunk : List ℕ) (old new : Option (List ℕ)) (before after : LineRun) : Type 0 where
  pub all : (start : Option (List ℕ)) (bytes : List ℕ) → IsAnswered form rules start old bytes before → OnOk result (IsAnswered form rules start new (bytes ++ chunk) after)
  pub front : (start : Option (List ℕ)) (bytes : List ℕ) → IsAnswered form rules start old bytes before → OnErr result (IsCutOffIn form rules (bytes ++ chunk) start new)
  pub kind : OnErr result (result ≡ Err WriteFailed)

-- the line that ends with the piece is answered too
pub record AnswersLine {T : Type 0} (result : Result T Fault) (form : Option Form) (rules : Rules) (piece : List ℕ) (old new : Option (List ℕ)) (before after : LineRun) : Type 0 where
  pub all : (start : Option (List ℕ)) (lines : List (List ℕ)) (front : List ℕ) → AreAnswered form rules start old lines before → HoldsFront before.begun front
      → OnOk result (AreAnswered form rules start new (lines ++ (front ++ piece) ∷ []) after)
  pub front : (start : Option (List ℕ)) (lines : List (List ℕ)) (front : List ℕ) → AreAnswered form rules start old lines before → HoldsFront before.begun front
      → OnErr result (AreCutOff form rules (lines ++ (front ++ piece) ∷ []) start new)
  pub kind : OnErr result (result ≡ Err WriteFailed)

-- the input ends there
pub record Finishes {T : Type 0} (result : Result T Fault) (form : Option Form) (rules : Rules) (old new : Option (List ℕ)) (before after : LineRun) : Type 0 where
  pub all : (start : Option (List ℕ)) (bytes : List ℕ) → IsAnswered form rules start old bytes before → OnOk result (IsDone form rules (Some bytes) start new after.outcome)
  pub front : (start : Option (List ℕ)) (bytes : List ℕ) → IsAnswered form rules start old bytes before → OnErr result (IsCutOff form rules (Some bytes) start new)
  pub kind : OnErr result (result ≡ Err WriteFailed)
