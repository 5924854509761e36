use Rattle.std.proofs.Common.{[], ◌∷◌, ◌++◌, map, refl, sym, ap, ap₂, ◌∙◌}
use Rattle.std.proofs.lemmas.List.{map-append}
use Rattle.cs_grammar.specs.View.{file_view}
use Rattle.cs_names.specs.Lifted.{known, is_open}
use Rattle.cs_names.specs.Named as Spec
use Rattle.cs_plain.proofs.Folds.{numbered_more}
use Rattle.cs_names.proofs.inside.named_files.Goals as goal

pub loop-file-preserved : goal.loop-file-preserved
loop-file-preserved c all ts every tells told =
    let by = known ts in let opens = is_open ts in
    let xs = c.args.files.now in
    let i = c.loop-file.file in
    let more = numbered_more (λ k ys. Spec.named_from by opens every k (map file_view ys)) (λ k f. Spec.named_file by opens k every (file_view f) ∷ []) (λ k. refl) (λ k f fs. refl) xs i c.index-files-file.result c.loop-file-test.true c.index-files-file.is in
    ap (map file_view) c.in_ok-push.ensures.items ∙ map-append file_view c.loop-file.named.items (c.in_ok-named_file.field-0 ∷ [])
    ∙ ap₂ (λ gs g. gs ++ g ∷ []) (c.loop-file.invariant all ts every tells told) (c.in_ok-named_file.ensures all ts every tells told) ∙ sym more
