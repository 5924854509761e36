use Rattle.std.proofs.Common.{◌++◌, map, refl, sym, ap₂, ◌∙◌}
use Rattle.cs_grammar.specs.Tree.{definitions}
use Rattle.cs_grammar.specs.View.{definition_view, file_view}
use Rattle.cs_plain.proofs.Folds.{numbered_more}
use Rattle.cs_names.specs.Nested.{nested_of, nested_from}
use Rattle.cs_names.proofs.nested.paths_in.Goals as goal

pub loop-file-preserved : goal.loop-file-preserved
loop-file-preserved c =
    let xs = c.args.files.now in
    let i = c.loop-file.file in
    let more = numbered_more (λ k ys. nested_from k (map file_view ys)) (λ k y. nested_of k (definitions (file_view y))) (λ k. refl) (λ k f fs. refl) xs i c.index-files-file.result c.loop-file-test.true c.index-files-file.is in
    c.in_ok-add_definitions.ensures ∙ ap₂ (λ ds es. ds ++ nested_of i (map definition_view es)) c.loop-file.invariant c.deref.ensures.value ∙ sym more
