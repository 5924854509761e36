use Rattle.std.proofs.Common.{◌≡◌, ℕ, List, []}
use Rattle.std.specs.Io.KnownBytes.{Consumes}
use Rattle.cs_judge.specs.Answering.{IsAnswered}
use Rattle.cs_judge.specs.Explained.{asked_form}
use Rattle.cs_judge.proofs.lines.answer_chunks.Given as goal

abbrev pub invariant-loop : goal.invariant-loop
invariant-loop g l = record {
  bytes : List ℕ;
  given : Consumes (g.R.Read.remaining l.initial.input) (g.R.Read.remaining l.input) bytes;
  answered : IsAnswered (asked_form l.why) l.initial.judge (g.W.Write.contents l.initial.output) (g.W.Write.contents l.output) bytes l.run;
  none : l.run.held ≡ [];
  same : l.judge ≡ l.initial.judge;
}
