-- Samples of a run over lines, worked by the definitions. A wrong expectation stops the check here.
use Rattle.std.proofs.Common.{◌≡◌, ◌≢◌, ℕ, [], ◌∷◌, ◌++◌, map, true, false, Ok, Err, codes, refl, arith}
use Rattle.std.proofs.Math.Utf8.{encode}
use Rattle.std.specs.Fmt.{digits}
use Rattle.std.specs.Str.{chars}
use Rattle.std.proofs.lemmas.List.Elements.{All-nil, All-cons}
use Rattle.cs_judge.specs.Explained.{IsLabelled}
use Rattle.cs_judge.specs.Lines.{IsLine, AreLines, answer_line, labelled, outcome_of}
use Rattle.cs_judge.specs.declared.answers.LinesOutcome.TheVariants.{AllValid, SomeInvalid, SomeRefused}
use Rattle.cs_tool.specs.declared.fault.Fault.TheVariants.{Syntax, NotJson, OutOfMemory, InputTooLong, ReadFailed}

-- each answer is a line, and a refusal tells its number alone
answer_lines : map answer_line (Ok true ∷ Ok false ∷ Err (NotJson 3 true) ∷ Err OutOfMemory ∷ Err InputTooLong ∷ Err (Syntax 0 21) ∷ [])
    ≡ (codes "valid" ++ 10 ∷ []) ∷ (codes "invalid" ++ 10 ∷ []) ∷ (codes "error 25" ++ 10 ∷ []) ∷ (codes "error 15" ++ 10 ∷ []) ∷ (codes "error 28" ++ 10 ∷ []) ∷ (codes "error 4" ++ 10 ∷ []) ∷ []
unfolding digits
answer_lines = refl

of_a_file : labelled (codes "a.json") (Err ReadFailed) ≡ codes "a.json: error 30" ++ 10 ∷ []
unfolding digits chars encode
of_a_file = refl

-- a name that has a newline is on its line
of_a_forger : labelled (codes "x: valid\nb") (Ok false) ≡ codes "x: valid\\nb: invalid\n"
unfolding chars encode
of_a_forger = refl

-- reasons follow the line of a file that is invalid
with_reasons : IsLabelled (codes "a") (Ok false) (codes "a: invalid\nb\n")
unfolding chars encode
with_reasons = (codes "b\n", refl, record { front = []; last = 98; full = λ e. omega arith; ends = refl })

without_reasons : IsLabelled (codes "a") (Ok true) (codes "a: valid\n")
unfolding chars encode
without_reasons = refl

refused_with_reasons : IsLabelled (codes "a") (Err (NotJson 3 true)) (codes "a: error 25\n")
unfolding digits chars encode
refused_with_reasons = refl

outcomes : map outcome_of ([] ∷ (Ok true ∷ Ok true ∷ []) ∷ (Ok false ∷ Ok true ∷ []) ∷ (Ok true ∷ Ok false ∷ []) ∷ (Err (NotJson 3 true) ∷ Ok false ∷ []) ∷ (Ok false ∷ Err (NotJson 3 true) ∷ Ok true ∷ []) ∷ [])
    ≡ AllValid ∷ AllValid ∷ SomeInvalid ∷ SomeInvalid ∷ SomeRefused ∷ SomeRefused ∷ []
outcomes = refl

-- ---- lines

no_line : AreLines [] []
no_line = ([], [], record { whole = refl; each = All-nil IsLine; open_end = All-nil (λ b. b ≢ 10) }, refl)

one_byte : (b : ℕ) → b ≢ 10 → IsLine (b ∷ [])
one_byte b other = All-cons (λ b. b ≢ 10) b [] other (All-nil (λ b. b ≢ 10))

empty_line : IsLine []
empty_line = All-nil (λ b. b ≢ 10)

-- an empty line counts, a last line needs no newline, and a carriage return belongs to its line
three_lines : AreLines (49 ∷ 10 ∷ 10 ∷ 13 ∷ []) ((49 ∷ []) ∷ [] ∷ (13 ∷ []) ∷ [])
three_lines =
    let each = All-cons IsLine (49 ∷ []) ([] ∷ []) (one_byte 49 (λ e. omega arith)) (All-cons IsLine [] [] empty_line (All-nil IsLine)) in
    ((49 ∷ []) ∷ [] ∷ [], 13 ∷ [], record { whole = refl; each = each; open_end = one_byte 13 (λ e. omega arith) }, refl)

-- a last newline begins no line
one_line : AreLines (49 ∷ 10 ∷ []) ((49 ∷ []) ∷ [])
one_line = ((49 ∷ []) ∷ [], [], record { whole = refl; each = All-cons IsLine (49 ∷ []) [] (one_byte 49 (λ e. omega arith)) (All-nil IsLine); open_end = empty_line }, refl)
