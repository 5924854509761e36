use Rattle.std.proofs.Common.{◌≡◌, [], ◌+◌, map, drop, sym, ◌∙◌, subst}
use Rattle.std.proofs.lemmas.Result.{err_from_is_err_and}
use Rattle.std.specs.List.{flat_map}
use Rattle.cs_grammar.specs.Tree.{body}
use Rattle.cs_grammar.specs.View.{definition_view, file_view}
use Rattle.cs_defaults.specs.Absent.{clashes}
use Rattle.cs_defaults.specs.Checks.{Fails, FailsAny}
use Rattle.cs_defaults.specs.Widened.{places_from}
use Rattle.cs_defaults.proofs.Found.{in_file, files_cut, files_more, fails_any, fails_numbered}
use Rattle.cs_defaults.proofs.files.check_clashes.Goals as goal

pub returns-in_err-check_file : goal.returns-in_err-check_file
returns-in_err-check_file c has tells =
    let fs = c.args.files.now in
    let i = c.loop-file.file in
    let f = c.index-files-file.result in
    let e = c.in_err-check_file.field-0.0 in
    let p = err_from_is_err_and c.from_residual.result c.from_residual.ensures.1 in
    let here = subst (λ ds. Fails e i (flat_map (λ d. clashes has (body d)) (map definition_view ds))) c.deref.ensures.value (c.in_err-check_file.ensures has tells) in
    let cut = c.loop-file.invariant has tells ∙ files_cut (clashes has) fs i f c.loop-file-test.true c.index-files-file.is in
    rw (p.1, p.2) (subst (λ ps. FailsAny e ps) (sym cut) (fails_any e (in_file (clashes has) i f) (places_from (clashes has) (i + 1) (map file_view (drop (i + 1) fs))) (fails_numbered e i (flat_map (λ d. clashes has (body d)) (map definition_view f.definitions.items)) here)))

pub loop-file-preserved : goal.loop-file-preserved
loop-file-preserved c has tells =
    let none = subst (λ ds. flat_map (λ d. clashes has (body d)) (map definition_view ds) ≡ []) c.deref.ensures.value (c.in_ok-check_file.ensures has tells) in
    files_more (clashes has) c.args.files.now c.loop-file.file c.index-files-file.result c.loop-file-test.true c.index-files-file.is (c.loop-file.invariant has tells) none
