use Rattle.std.proofs.Common.{◌++◌, ap, ◌∙◌, rules}
use Rattle.cs_judge.specs.Explained.{asked_form}
use Rattle.cs_judge.specs.Lines.{worse}
use Rattle.cs_judge.proofs.ExplainedRuns.{all_told, some_written}
use Rattle.cs_judge.proofs.LineLists.{on_ok, on_err, on_error}
use Rattle.cs_judge.proofs.LineRuns.{one_more, more_cut_off, none_written}
use Rattle.cs_judge.proofs.lines.LineRun.answer_line.Goals as goal

pub returns-in_err-note-clause-line : goal.returns-in_err-note-clause-line
returns-in_err-note-clause-line g c = record {
  all = search rules;
  front = λ start lines front a begun.
      let form = asked_form c.args.why in
      let number = c.args.self.now.line.line in
      let answer = c.finish-answer.result in
      let told = c.finish-answer.ensures in
      let is_told = all_told form answer _ _ c.deref.result.now c.clear.ensures.items c.deref.ensures.value told.told in
      let some = some_written form number answer c.deref.result.now is_told in
      on_error c.from_residual.result (more_cut_off c.args.judge.now start _ _ lines (front ++ c.args.piece.now) answer some.0 c.args.self.now a (told.answer front begun) some.1 (none_written _ _));
  kind = search rules;
}

pub returns-clause-line : goal.returns-clause-line
returns-clause-line g c =
    let form = asked_form c.args.why in
    let answer = c.finish-answer.result in
    let told = c.finish-answer.ensures in
    let old = g.W.Write.contents c.args.output.now in
    let new = g.W.Write.contents c.hold_told.new.output in
    let is_told = all_told form answer _ _ c.deref-2.result.now c.clear.ensures.items c.deref-2.ensures.value told.told in
    let outcome = c.with-self.ensures ∙ ap (worse c.args.self.now.outcome) c.outcome_of.ensures in
    let holds = rw c.form_of-form.ensures at c.hold_told.ensures in record {
      all = λ start lines front a begun.
          on_ok c.hold_told.result (λ h. one_more c.args.judge.now start _ _ lines (front ++ c.args.piece.now) answer h.0 c.args.self.now a (told.answer front begun) h.1 _ h.2 outcome c.saturating_add-self.ensures) (holds is_told).all;
      front = λ start lines front a begun.
          on_err c.hold_told.result (λ h.
          more_cut_off c.args.judge.now start old new lines (front ++ c.args.piece.now) answer h.0 c.args.self.now a (told.answer front begun) h.1 h.2)
          (holds is_told).front;
      kind = (holds is_told).kind;
    }
