use Rattle.std.proofs.Common.{◌≡◌, ap, subst, ◌∙◌, ◌++◌, codes}
use Rattle.std.specs.Io.KnownBytes.{Appends}
use Rattle.std.proofs.KnownBytes.{Appends-trans}
use Rattle.std.proofs.lemmas.Result.{err_from_is_err_and}
use Rattle.cs_place.specs.Shown.{shown}
use Rattle.cs_judge.specs.Explained.{behind, told_line}
use Rattle.cs_judge.specs.Lines.{answer_line}
use Rattle.cs_tool.specs.Streams.{AppendsFront}
use Rattle.cs_tool.specs.declared.fault.Fault.TheVariants.{WriteFailed}
use Rattle.cs_judge.proofs.LineRuns.{front_more, front_of_both}
use Rattle.cs_judge.proofs.WrittenTexts.{writes_front, writes_both, writes_same}
use Rattle.cs_judge.proofs.answers.write_line.Goals as goal

pub returns-in-Ok : goal.returns-in-Ok
returns-in-Ok g c =
    let label = shown c.args.label.now in
    let old = g.W.Write.contents c.args.output.now in
    let first = subst (Appends old _) (c.as_bytes.ensures.value ∙ c.shown.ensures.text) c.in_ok-write_part.ensures.all in
    let both = Appends-trans old _ _ label (codes ": ") first c.in_ok-write_part-2.ensures.all in
    let w = c.write_text.ensures in
    rw c.in-Ok.is (writes_both c.write_text.result old _ _ (label ++ codes ": ") c.args.told.now both (record { all = w.all; front = w.front; kind = w.kind }))

pub returns-in-Err : goal.returns-in-Err
returns-in-Err g c =
    let label = shown c.args.label.now in
    let old = g.W.Write.contents c.args.output.now in
    let first = subst (Appends old _) (c.as_bytes.ensures.value ∙ c.shown.ensures.text) c.in_ok-write_part.ensures.all in
    let both = Appends-trans old _ _ label (codes ": ") first c.in_ok-write_part-2.ensures.all in
    let w = c.write_text-in-Err.ensures in
    let written = writes_both c.write_text-in-Err.result old _ _ (label ++ codes ": ") c.line_of.result.now both (record { all = w.all; front = w.front; kind = w.kind }) in
    rw c.in-Err.is (writes_same c.write_text-in-Err.result _ _ _ _ (ap (behind c.args.label.now) (c.line_of.ensures ∙ ap answer_line c.in-Err.is)) written)

pub returns-in_err-write_part : goal.returns-in_err-write_part
returns-in_err-write_part g c =
    let label = shown c.args.label.now in
    let told = told_line c.args.answer.now c.args.told.now in
    let old = g.W.Write.contents c.args.output.now in
    let new = g.W.Write.contents c.write_part.new.output in
    let first = subst (AppendsFront old new) (c.as_bytes.ensures.value ∙ c.shown.ensures.text) c.in_err-write_part.ensures.front in
    let kind : c.in_err-write_part.field-0.0 ≡ WriteFailed = cc c.in_err-write_part.ensures.kind in
    let p = err_from_is_err_and c.from_residual.result c.from_residual.ensures.1 in
    writes_front c.from_residual.result old new p.0 _ p.1 (p.2 ∙ kind) (front_more old new (label ++ codes ": ") told (front_more old new label (codes ": ") first))

pub returns-in_err-write_part-2 : goal.returns-in_err-write_part-2
returns-in_err-write_part-2 g c =
    let label = shown c.args.label.now in
    let told = told_line c.args.answer.now c.args.told.now in
    let old = g.W.Write.contents c.args.output.now in
    let new = g.W.Write.contents c.write_part-2.new.output in
    let first = subst (Appends old _) (c.as_bytes.ensures.value ∙ c.shown.ensures.text) c.in_ok-write_part.ensures.all in
    let kind : c.in_err-write_part-2.field-0.0 ≡ WriteFailed = cc c.in_err-write_part-2.ensures.kind in
    let p = err_from_is_err_and c.from_residual-in_err-write_part-2.result c.from_residual-in_err-write_part-2.ensures.1 in
    writes_front c.from_residual-in_err-write_part-2.result old new p.0 _ p.1 (p.2 ∙ kind) (front_more old new (label ++ codes ": ") told (front_of_both old _ new label (codes ": ") first c.in_err-write_part-2.ensures.front))
