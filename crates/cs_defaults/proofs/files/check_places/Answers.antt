use Rattle.std.proofs.Common.{◌≡◌, ◌+◌, true, map, drop, slice_get, Some, ap, ◌∙◌, subst}
use Rattle.std.specs.List.{flat_map}
use Rattle.cs_grammar.specs.Tree.{body}
use Rattle.cs_grammar.specs.View.{definition_view, file_view}
use Rattle.cs_defaults.specs.Marks.{misplaced}
use Rattle.cs_defaults.specs.Widened.{places_from}
use Rattle.cs_defaults.proofs.Found.{in_file, files_cut, first_left, first_numbered}
use Rattle.cs_defaults.proofs.files.check_places.Goals as goal

pub returns-in-Err : goal.returns-in-Err
returns-in-Err c =
    let fs = c.args.files.now in
    let i = c.loop-file.file in
    let f = c.index-files-file.result in
    let here = subst (λ ds. slice_get (flat_map (λ d. misplaced true (body d)) (map definition_view ds)) 0 ≡ Some c.in-Err.offset) c.deref.ensures.value c.in-Err.ensures in
    let cut = c.loop-file.invariant ∙ files_cut (misplaced true) fs i f c.loop-file-test.true c.index-files-file.is in
    ap (λ ps. slice_get ps 0) cut ∙ first_left (in_file (misplaced true) i f) (places_from (misplaced true) (i + 1) (map file_view (drop (i + 1) fs))) (i, c.in-Err.offset) (first_numbered i (flat_map (λ d. misplaced true (body d)) (map definition_view f.definitions.items)) c.in-Err.offset here)
