use Rattle.std.proofs.Common.{◌≡◌, ◌++◌, refl, ◌∙◌}
use Rattle.std.proofs.lemmas.Result.{err_from_is_err_and}
use Rattle.cs_tool.specs.declared.fault.Fault.TheVariants.{WriteFailed}
use Rattle.cs_judge.proofs.LineRuns.{front_more}
use Rattle.cs_judge.proofs.WrittenTexts.{writes_some_front, writes_one, writes_both}
use Rattle.cs_judge.proofs.answers.write_object.Goals as goal

pub returns-in_err-write_front : goal.returns-in_err-write_front
returns-in_err-write_front g c =
    let f = c.in_err-write_front.ensures.front in
    let members = c.args.members.now in
    let kind : c.in_err-write_front.field-0.0 ≡ WriteFailed = cc c.in_err-write_front.ensures.kind in
    let p = err_from_is_err_and c.from_residual.result c.from_residual.ensures.1 in
    writes_some_front c.from_residual.result _ _ _ p.0 (f.0 ++ members) p.1 (p.2 ∙ kind) (f.0, f.1, refl) (front_more _ _ f.0 members f.2)

pub returns : goal.returns
returns g c =
    let f = c.in_ok-write_front.ensures.all in
    let w = c.write_text.ensures in
    writes_one c.write_text.result _ _ _ _ (f.0, f.1, refl) (writes_both c.write_text.result _ _ _ f.0 _ f.2 (record { all = w.all; front = w.front; kind = w.kind }))
