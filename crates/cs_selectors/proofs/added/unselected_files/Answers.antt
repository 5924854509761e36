use Rattle.std.proofs.Common.{[], ◌∷◌, ◌++◌, map, refl, sym, ap, ap₂, ◌∙◌}
use Rattle.std.proofs.lemmas.List.{map-append, take_all}
use Rattle.cs_grammar.specs.View.{file_view}
use Rattle.cs_plain.proofs.Folds.{numbered_more}
use Rattle.cs_selectors.specs.Selectors.{names_by, unselected_file, unselected_from}
use Rattle.cs_selectors.proofs.Tables.{names_told}
use Rattle.cs_selectors.proofs.added.unselected_files.Goals as goal

pub loop-number-preserved : goal.loop-number-preserved
loop-number-preserved c all bs gs told =
    let by = names_by gs in
    let xs = c.args.files.now in
    let i = c.loop-number.number in
    let f = c.index-files-number.result in
    let tells = names_told c.args.giving.now all bs gs told in
    let more = numbered_more (λ k ys. unselected_from gs k (map file_view ys)) (λ k g. unselected_file by k gs (file_view g) ∷ []) (λ k. refl) (λ k g fs. refl) xs i f c.loop-number-test.true c.index-files-number.is in
    let one = c.in_ok-unselected_file.ensures by tells ∙ ap (λ us. unselected_file by i us (file_view f)) told.order in
    ap (map file_view) c.in_ok-push.ensures.items ∙ map-append file_view c.loop-number.unselected.items (c.in_ok-unselected_file.field-0 ∷ [])
    ∙ ap₂ (λ hs h. hs ++ h ∷ []) (c.loop-number.invariant all bs gs told) one ∙ sym more

pub returns : goal.returns
returns c all bs gs told =
    c.loop-number.invariant all bs gs told ∙ ap (λ ys. unselected_from gs 0 (map file_view ys)) (take_all c.loop-number.number c.args.files.now c.loop-number-test.false)
