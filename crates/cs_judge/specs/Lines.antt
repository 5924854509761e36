-- The lines of an input, and the answers to them.
use Rattle.std.specs.Prelude.{◌≡◌, ◌≢◌, ℕ, ◌<◌, ◌≤◌, List, [], ◌∷◌, ◌++◌, length, Bool, true, false, Option, Result, Ok, Err, codes, decimal}
use Rattle.std.specs.List.{All, flat_map}
use Rattle.std.specs.Io.KnownBytes.{Appends}
use Rattle.cs_place.specs.Shown.{shown}
use Rattle.cs_tool.specs.declared.fault.Fault.{Fault}
use Rattle.cs_tool.specs.declared.fault.Fault.TheVariants.{OutOfMemory, InputTooLong}
use Rattle.cs_tool.specs.declared.rules.Rules.{Rules}
use Rattle.cs_judge.specs.declared.answers.LinesOutcome.{LinesOutcome}
use Rattle.cs_judge.specs.declared.answers.LinesOutcome.TheVariants.{AllValid, SomeInvalid, SomeRefused}
use Rattle.cs_judge.specs.Judged.{call_on}
use Rattle.cs_tool.specs.Refusals.{number_of}
use Rattle.cs_tool.specs.Runs.{IsCallAnswer, IsCallRefusal, most_input_bytes, verdict_text, line_of}

-- ---- the lines of an input

-- no byte of a line is a newline
abbrev pub IsLine : List ℕ → Type 0
IsLine line = All (λ b. b ≢ 10) line

-- the bytes are these lines, each with its newline, and a rest without one
pub record Splits (bytes : List ℕ) (lines : List (List ℕ)) (rest : List ℕ) : Type 0 where
  pub whole : bytes ≡ flat_map line_of lines ++ rest
  pub each : All IsLine lines
  pub open_end : IsLine rest

-- a rest is one more line, where it has a byte
abbrev pub last_line : List ℕ → List (List ℕ)
last_line [] = []
last_line (b ∷ bytes) = (b ∷ bytes) ∷ []

-- these are the lines of an input of these bytes
abbrev pub AreLines : List ℕ → List (List ℕ) → Type 0
AreLines bytes lines = (ended : List (List ℕ)) × (rest : List ℕ) × Splits bytes ended rest × (lines ≡ ended ++ last_line rest)

-- these are the first of them, or all
abbrev pub AreFirstLines : List ℕ → List (List ℕ) → Type 0
AreFirstLines bytes lines = (more : List (List ℕ)) × AreLines bytes (lines ++ more)

-- ---- the answers

-- a verdict, or a refusal
abbrev pub Answer : Type 0
Answer = Result Bool Fault

-- the answer is that of the single call on the text
abbrev pub IsTextAnswer : Rules → List ℕ → Answer → Type 0
IsTextAnswer rules text (Ok valid) = IsCallAnswer (call_on rules text) valid (verdict_text valid)
IsTextAnswer rules text (Err fault) = IsCallRefusal (call_on rules text) fault

-- the answer is that of the single call on the line, or tells that it is too long; memory may run out
abbrev pub IsLineAnswer : Rules → List ℕ → Answer → Type 0
IsLineAnswer rules line (Err OutOfMemory) = Unit {0}
IsLineAnswer rules line (Err InputTooLong) = most_input_bytes < length line
IsLineAnswer rules line answer = (length line ≤ most_input_bytes) × IsTextAnswer rules line answer

-- each line has the answer at its place
abbrev pub AreAnswers : Rules → List (List ℕ) → List Answer → Type 0
AreAnswers rules [] [] = Unit {0}
AreAnswers rules [] (a ∷ answers) = ⊥
AreAnswers rules (l ∷ lines) [] = ⊥
AreAnswers rules (l ∷ lines) (a ∷ answers) = IsLineAnswer rules l a × AreAnswers rules lines answers

-- what is written of an answer
abbrev pub answer_text : Answer → List ℕ
answer_text (Ok valid) = verdict_text valid
answer_text (Err fault) = codes "error " ++ decimal (number_of fault)

abbrev pub answer_line : Answer → List ℕ
answer_line answer = line_of (answer_text answer)

-- what is written of the answers
abbrev pub answers_text : List Answer → List ℕ
answers_text answers = flat_map answer_line answers

abbrev pub AreAnswerLines : List Answer → List ℕ → Type 0
AreAnswerLines answers text = text ≡ answers_text answers

-- ---- the outcome

abbrev pub outcome_of_answer : Answer → LinesOutcome
outcome_of_answer (Ok true) = AllValid
outcome_of_answer (Ok false) = SomeInvalid
outcome_of_answer (Err fault) = SomeRefused

-- a refusal outweighs all, and an invalid text the valid ones
abbrev pub worse : LinesOutcome → LinesOutcome → LinesOutcome
worse AllValid other = other
worse SomeInvalid AllValid = SomeInvalid
worse SomeInvalid SomeInvalid = SomeInvalid
worse SomeInvalid SomeRefused = SomeRefused
worse SomeRefused other = SomeRefused

abbrev pub outcome_of : List Answer → LinesOutcome
outcome_of [] = AllValid
outcome_of (a ∷ answers) = worse (outcome_of_answer a) (outcome_of answers)

-- ---- an answer for a file

-- the line that tells the answer to a text of that label, which is shown: no character of it ends the line
abbrev pub labelled : List ℕ → Answer → List ℕ
labelled label answer = shown label ++ codes ": " ++ answer_line answer

-- ---- on the way

-- the bytes that are held at most, before they are written
abbrev pub most_held : ℕ
most_held = 65536

-- the writer took the front of a text, and the rest of it is held
abbrev pub Hands : Option (List ℕ) → Option (List ℕ) → List ℕ → List ℕ → Type 0
Hands old new text held = (front : List ℕ) × Appends old new front × (text ≡ front ++ held)
