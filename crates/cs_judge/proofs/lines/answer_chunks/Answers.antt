use Rattle.std.proofs.Common.{◌≡◌, ◌<◌, ◌++◌, take, length, refl, ◌∙◌, arith}
use Rattle.std.proofs.KnownBytes.{Consumes-kept, Consumes-trans}
use Rattle.std.proofs.lemmas.Result.{err_from_is_err_and}
use Rattle.cs_tool.specs.declared.fault.Fault.TheVariants.{WriteFailed}
use Rattle.cs_judge.proofs.LineRuns.{lines_cut_off, none_written, answers_cut_off, cut_off, cut_off_at_end, done, read_nothing, stopped, write_failed, written_out}
use Rattle.cs_judge.proofs.lines.answer_chunks.Goals as goal

pub returns-in_err-finish-clause-refused : goal.returns-in_err-finish-clause-refused
returns-in_err-finish-clause-refused g c =
    let v = c.loop.invariant in
    let contents = g.W.Write.contents in
    let room : 0 < length c.read.new.buf = omega (arith, c.read.auto.buf, c.loop.auto.chunk, c.requires.room) in
    let given = read_nothing _ _ _ v.bytes c.read.new.buf c.in-Ok.count v.given c.in-Ok.ensures.bytes.0 c.if-count-eq0.true in
    let end = c.in-Ok.ensures.bytes.1 c.if-count-eq0.true room in
    let front = rw v.same at c.in_err-finish.ensures.front in
    let cut = cut_off_at_end c.args.judge.now (g.R.Read.remaining c.args.input.now) _ (contents c.args.output.now) _ v.bytes given end (front _ v.bytes v.answered) in
    let kind : c.in_err-finish.field-0.0 ≡ WriteFailed = cc c.in_err-finish.ensures.kind in
    let p = err_from_is_err_and c.from_residual.result c.from_residual.ensures.1 in
    write_failed c.from_residual.result p.0 _ _ _ _ _ p.1 (p.2 ∙ kind) cut

pub returns-then-count-eq0-clause-done : goal.returns-then-count-eq0-clause-done
returns-then-count-eq0-clause-done g c =
    let v = c.loop.invariant in
    let contents = g.W.Write.contents in
    let room : 0 < length c.read.new.buf = omega (arith, c.read.auto.buf, c.loop.auto.chunk, c.requires.room) in
    let given = read_nothing _ _ _ v.bytes c.read.new.buf c.in-Ok.count v.given c.in-Ok.ensures.bytes.0 c.if-count-eq0.true in
    let end = c.in-Ok.ensures.bytes.1 c.if-count-eq0.true room in
    let all = rw v.same at c.in_ok-finish.ensures.all in
    done c.args.judge.now (g.R.Read.remaining c.args.input.now) _ (contents c.args.output.now) _ v.bytes given end (all _ v.bytes v.answered)

pub returns-in_err-answer_chunk-clause-refused : goal.returns-in_err-answer_chunk-clause-refused
returns-in_err-answer_chunk-clause-refused g c =
    let v = c.loop.invariant in
    let contents = g.W.Write.contents in
    let given = Consumes-trans _ _ _ v.bytes _ v.given c.in-Ok.ensures.bytes.0 in
    let front = rw v.same at c.in_err-answer_chunk.ensures.over.front in
    let cut = cut_off c.args.judge.now (g.R.Read.remaining c.args.input.now) _ (contents c.args.output.now) _ _ given (front _ v.bytes v.answered) in
    let kind : c.in_err-answer_chunk.field-0.0 ≡ WriteFailed = cc c.in_err-answer_chunk.ensures.over.kind in
    let p = err_from_is_err_and c.from_residual-in_err-answer_chunk.result c.from_residual-in_err-answer_chunk.ensures.1 in
    write_failed c.from_residual-in_err-answer_chunk.result p.0 _ _ _ _ _ p.1 (p.2 ∙ kind) cut

pub returns-in_err-write_out-clause-refused : goal.returns-in_err-write_out-clause-refused
returns-in_err-write_out-clause-refused g c =
    let v = c.loop.invariant in
    let contents = g.W.Write.contents in
    let start = contents c.args.output.now in
    let now = contents c.answer_chunk.new.output in
    let after = c.answer_chunk.new.self in
    let all = rw v.same at c.in_ok-answer_chunk.ensures.over.all in
    let a = all start v.bytes v.answered in
    let given = Consumes-trans _ _ _ v.bytes _ v.given c.in-Ok.ensures.bytes.0 in
    let lines = lines_cut_off c.args.judge.now start now now a.lines after a.answered (none_written _ _) in
    let cut = cut_off c.args.judge.now (g.R.Read.remaining c.args.input.now) _ start now _ given (answers_cut_off c.args.judge.now start _ now _ after a lines) in
    let kind : c.in_err-write_out.field-0.0 ≡ WriteFailed = cc c.in_err-write_out.ensures.written.kind in
    let p = err_from_is_err_and c.from_residual-in_err-write_out.result c.from_residual-in_err-write_out.ensures.1 in
    write_failed c.from_residual-in_err-write_out.result p.0 _ _ _ _ _ p.1 (p.2 ∙ kind) cut

pub returns-in_err-write_out-2-clause-refused : goal.returns-in_err-write_out-2-clause-refused
returns-in_err-write_out-2-clause-refused g c =
    let v = c.loop.invariant in
    let contents = g.W.Write.contents in
    let start = contents c.args.output.now in
    let now = contents c.write_out-in-loop.new.output in
    let after = c.answer_chunk.new.self in
    let all = rw v.same at c.in_ok-answer_chunk.ensures.over.all in
    let a = all start v.bytes v.answered in
    let given = Consumes-trans _ _ _ v.bytes _ v.given c.in-Ok.ensures.bytes.0 in
    let lines = lines_cut_off c.args.judge.now start _ now a.lines after a.answered c.in_err-write_out-2.ensures.written.front in
    let cut = cut_off c.args.judge.now (g.R.Read.remaining c.args.input.now) _ start now _ given (answers_cut_off c.args.judge.now start _ now _ after a lines) in
    let kind : c.in_err-write_out-2.field-0.0 ≡ WriteFailed = cc c.in_err-write_out-2.ensures.written.kind in
    let p = err_from_is_err_and c.from_residual-in_err-write_out-2.result c.from_residual-in_err-write_out-2.ensures.1 in
    write_failed c.from_residual-in_err-write_out-2.result p.0 _ _ _ _ _ p.1 (p.2 ∙ kind) cut

pub returns-in_default-clause-refused : goal.returns-in_default-clause-refused
returns-in_default-clause-refused g c =
    let v = c.loop.invariant in
    stopped _ _ _ _ _ v.bytes c.loop.run (Consumes-kept _ _ _ v.bytes v.given c.in_default.ensures.bytes) v.answered v.none

pub returns-clause-refused : goal.returns-clause-refused
returns-clause-refused g c = stopped _ _ _ _ _ c.loop.invariant.bytes c.loop.run c.loop.invariant.given c.loop.invariant.answered c.loop.invariant.none

pub loop-preserved : goal.loop-preserved
loop-preserved g c =
    let v = c.loop.invariant in
    let start = g.W.Write.contents c.args.output.now in
    let all = rw v.same at c.in_ok-answer_chunk.ensures.over.all in
    let a = all start v.bytes v.answered in record {
      bytes = v.bytes ++ take c.in-Ok.count c.read.new.buf;
      given = Consumes-trans _ _ _ v.bytes _ v.given c.in-Ok.ensures.bytes.0;
      answered = written_out c.args.judge.now start _ _ _ c.answer_chunk.new.self _ a c.in_ok-write_out-2.ensures.written.all refl c.in_ok-write_out-2.ensures.empty refl refl;
      none = c.in_ok-write_out-2.ensures.empty;
      same = c.answer_chunk.ensures.same ∙ v.same;
    }
