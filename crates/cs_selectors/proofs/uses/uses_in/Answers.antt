use Rattle.std.proofs.Common.{◌++◌, map, refl, sym, ap, ◌∙◌}
use Rattle.std.proofs.lemmas.List.{take_all}
use Rattle.cs_grammar.specs.View.{definition_view, file_view}
use Rattle.cs_plain.proofs.Folds.{numbered_more}
use Rattle.cs_selectors.specs.Checks.{use_view}
use Rattle.cs_selectors.specs.Uses.{uses_from, uses_of}
use Rattle.cs_selectors.proofs.Parts.{file_uses}
use Rattle.cs_selectors.proofs.uses.uses_in.Goals as goal

pub loop-file-preserved : goal.loop-file-preserved
loop-file-preserved c =
    let xs = c.args.files.now in
    let i = c.loop-file.file in
    let x = c.index-files-file.result in
    let more = numbered_more (λ k ys. uses_from k (map file_view ys)) file_uses (λ k. refl) (λ k f fs. refl) xs i x c.loop-file-test.true c.index-files-file.is in
    c.in_ok-add_definitions.ensures ∙ ap (λ ds. map use_view c.loop-file.found.items ++ uses_of i (map definition_view ds)) c.deref.ensures.value ∙ ap (λ us. us ++ file_uses i x) c.loop-file.invariant ∙ sym more

pub returns : goal.returns
returns c =
    c.loop-file.invariant ∙ ap (λ ys. uses_from 0 (map file_view ys)) (take_all c.loop-file.file c.args.files.now c.loop-file-test.false)
