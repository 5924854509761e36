use Rattle.std.proofs.Common.{List, [], Option, ◌≢◌, ℕ, rules}
use Rattle.cs_judge.specs.Answering.{IsAnswered}
use Rattle.cs_judge.specs.Explained.{asked_form}
use Rattle.cs_judge.proofs.LineLists.{on_ok, on_err, on_error}
use Rattle.cs_judge.proofs.LineRuns.{AreAllAnswered, none_begun, none_written, last_answered, last_broken_off, all_done, all_cut_off}
use Rattle.cs_judge.proofs.lines.LineRun.finish.Given.{Over}
use Rattle.cs_judge.proofs.lines.LineRun.finish.Goals.{After-write_out, then-not-is_empty+in_ok-answer_line, else-not-is_empty}
use Rattle.cs_judge.proofs.lines.LineRun.finish.Goals as goal

pub returns-in_err-answer_line : goal.returns-in_err-answer_line
returns-in_err-answer_line g c = record {
  all = search rules;
  front = λ start bytes a.
      let some : a.rest ≢ [] = λ none. cc ((c.is_empty.ensures.tells a.rest a.begun).1 none, c.if-not-is_empty.true) in
      on_error c.from_residual.result (last_broken_off c.args.judge.now start _ bytes c.args.self.now a _ some (c.in_err-answer_line.ensures.line.front start a.lines a.rest a.answered a.begun));
  kind = search rules;
}

module _ (g : Over) (c : After-write_out g) where
  -- all lines are answered where the run writes out
  all_lines : (start : Option (List ℕ)) (bytes : List ℕ) → IsAnswered (asked_form c.args.why) c.args.judge.now start (g.W.Write.contents c.args.output.now) bytes c.args.self.now
      → AreAllAnswered (asked_form c.args.why) c.args.judge.now start (g.W.Write.contents c.if-not-is_empty.output) bytes c.if-not-is_empty.self
  all_lines start bytes a =
      elim c.if-not-is_empty.branch [
        | then-not-is_empty+in_ok-answer_line w ↦
            let some : a.rest ≢ [] = λ none. cc ((c.is_empty.ensures.tells a.rest a.begun).1 none, w.if-not-is_empty.true) in
            let answered = w.in_ok-answer_line.ensures.line.all start a.lines a.rest a.answered a.begun in
            rw (w.self-is, w.output-is) (last_answered c.args.judge.now start _ bytes c.args.self.now a _ _ some answered)
        | else-not-is_empty w ↦
            let none = (c.is_empty.ensures.tells a.rest a.begun).0 w.if-not-is_empty.false in
            rw (w.self-is, w.output-is) (none_begun c.args.judge.now start _ bytes c.args.self.now a none)
      ]

pub returns : goal.returns
returns g c =
    let lines = all_lines g (goal.at.returns g c).After-write_out in record {
      all = λ start bytes a. on_ok c.write_out-2.result (all_done _ start _ _ bytes c.if-not-is_empty.self (lines start bytes a)) c.write_out-2.ensures.written.all;
      front = λ start bytes a. on_err c.write_out-2.result (all_cut_off _ start _ _ bytes c.if-not-is_empty.self (lines start bytes a)) c.write_out-2.ensures.written.front;
      kind = search rules;
    }

pub returns-in_err-write_out : goal.returns-in_err-write_out
returns-in_err-write_out g c = record {
  all = search rules;
  front = λ start bytes a.
      on_error c.from_residual-in_err-write_out.result (all_cut_off _ start _ _ bytes c.if-not-is_empty.self (all_lines g (goal.at.returns-in_err-write_out g c).After-write_out start bytes a) (none_written _ _));
  kind = search rules;
}
