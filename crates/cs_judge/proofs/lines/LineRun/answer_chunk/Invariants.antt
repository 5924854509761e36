use Rattle.std.proofs.Common.{◌≡◌, ℕ, ◌-◌, ◌≤◌, List, ◌++◌, length, take, Option}
use Rattle.cs_judge.specs.Answering.{IsAnswered}
use Rattle.cs_judge.specs.Explained.{asked_form}
use Rattle.cs_judge.proofs.lines.LineRun.answer_chunk.Given as goal

abbrev pub invariant-loop-count : goal.invariant-loop-count
invariant-loop-count g l = record {
  within : l.at ≤ length l.chunk;
  all : (start : Option (List ℕ)) (bytes : List ℕ) → IsAnswered (asked_form l.why) l.initial.judge start (g.W.Write.contents l.initial.output) bytes l.initial.self
      → IsAnswered (asked_form l.why) l.initial.judge start (g.W.Write.contents l.output) (bytes ++ take l.at l.chunk) l.self;
  same : l.judge ≡ l.initial.judge;
}

abbrev pub decreases-loop-count : goal.decreases-loop-count
decreases-loop-count g l = length l.chunk - l.at
