use Rattle.std.proofs.Common.{[], ◌∷◌, ◌++◌, ◌+◌, take, refl, sym, ap, subst, ◌∙◌, append_assoc, rules}
use Rattle.cs_judge.specs.declared.lines.LineRun.{LineRun}
use Rattle.cs_judge.specs.Answering.{IsAnswered, IsCutOffIn}
use Rattle.cs_judge.specs.Explained.{asked_form}
use Rattle.cs_judge.proofs.LineLists.{on_error}
use Rattle.cs_judge.proofs.LineRuns.{line_answered, line_cut_off, piece_kept, same_answers, chunk_cut_off, regrouped}
use Rattle.cs_judge.proofs.Newlines as newlines
use Rattle.cs_judge.proofs.lines.LineRun.answer_chunk.Goals as goal

pub returns-in_err-answer_line-clause-over : goal.returns-in_err-answer_line-clause-over
returns-in_err-answer_line-clause-over g c = record {
  all = search rules;
  front = λ start bytes before.
      let l = c.loop-count in
      let chunk = c.args.chunk.now in
      let count = c.in-Some.count in
      let first = c.in-Some.ensures.0 in
      let here = c.in-Some.ensures.1 in
      let now = g.W.Write.contents c.answer_line.new.output in
      let rules = c.args.judge.now in
      let a = l.invariant.all start bytes before in
      let piece = newlines.piece chunk l.at count first here in
      let clean = newlines.piece_is_line chunk l.at count first here in
      let front = rw l.invariant.same at c.in_err-answer_line.ensures.line.front in
      let line = line_cut_off rules start _ now (bytes ++ take l.at chunk) l.self a piece clean (front start a.lines a.rest a.answered a.begun) in
      let same = regrouped bytes (take l.at chunk) piece (10 ∷ []) ∙ ap (λ t. bytes ++ t) (sym (newlines.taken chunk l.at count first here)) in
      let cut = subst (λ b. IsCutOffIn (asked_form c.args.why) rules b start now) same line in
      on_error c.from_residual.result (chunk_cut_off rules bytes chunk (l.at + (count + 1)) start now cut);
  kind = search rules;
}

pub loop-count-preserved : goal.loop-count-preserved
loop-count-preserved g c =
    let l = c.loop-count in
    let chunk = c.args.chunk.now in
    let count = c.in-Some.count in
    let first = c.in-Some.ensures.0 in
    let here = c.in-Some.ensures.1 in record {
      within = newlines.within chunk l.at count first here;
      all = λ start bytes before.
          let run = c.answer_line.new.self in
          let now = g.W.Write.contents c.answer_line.new.output in
          let a = l.invariant.all start bytes before in
          let piece = newlines.piece chunk l.at count first here in
          let rules = c.args.judge.now in
          let all = rw l.invariant.same at c.in_ok-answer_line.ensures.line.all in
          let answered = all start a.lines a.rest a.answered a.begun in
          let clean = newlines.piece_is_line chunk l.at count first here in
          let whole = line_answered rules start _ now (bytes ++ take l.at chunk) piece l.self run a clean answered c.answer_line.ensures.begun in
          let same = regrouped bytes (take l.at chunk) piece (10 ∷ []) ∙ ap (λ t. bytes ++ t) (sym (newlines.taken chunk l.at count first here)) in
          subst (λ b. IsAnswered (asked_form c.args.why) rules start now b run) same whole;
      same = c.answer_line.ensures.same ∙ l.invariant.same;
    }

pub returns-clause-over : goal.returns-clause-over
returns-clause-over g c = record {
  all = λ start bytes before.
      let l = c.loop-count in
      let chunk = c.args.chunk.now in
      let now = g.W.Write.contents l.output in
      let a = l.invariant.all start bytes before in
      let piece = newlines.from chunk l.at in
      let clean = newlines.all_is_line piece c.in_default.ensures in
      let after : LineRun = record { begun = c.add.new.self; held = l.self.held; outcome = l.self.outcome; line = l.self.line; told = l.self.told; notes = l.self.notes } in
      let answered = same_answers c.args.judge.now start now a.lines l.self after a.answered refl refl refl in
      let whole = piece_kept c.args.judge.now start now now (bytes ++ take l.at chunk) piece l.self after a clean answered (c.add.ensures a.rest a.begun) in
      let same = append_assoc bytes (take l.at chunk) piece ∙ ap (λ t. bytes ++ t) (newlines.front_and_from chunk l.at) in
      subst (λ b. IsAnswered (asked_form c.args.why) c.args.judge.now start now b after) same whole;
  front = search rules;
  kind = search rules;
}
