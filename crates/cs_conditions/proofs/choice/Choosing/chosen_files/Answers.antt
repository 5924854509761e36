use Rattle.std.proofs.Common.{map, sym, ap, ◌∙◌}
use Rattle.std.proofs.lemmas.List.{take_all}
use Rattle.std.proofs.lemmas.Simd.{map-map}
use Rattle.cs_grammar.specs.View.{file_view}
use Rattle.cs_conditions.specs.Chosen.{chosen_file}
use Rattle.cs_conditions.proofs.Walks.{map_pushed}
use Rattle.cs_conditions.proofs.choice.Choosing.chosen_files.Goals as goal

pub loop-file-preserved : goal.loop-file-preserved
loop-file-preserved c known tells = map_pushed (λ f. chosen_file known (file_view f)) file_view c.args.files.now c.loop-file.file-index c.file-item.result c.loop-file-test.true c.file-item.is _ _ _ c.in_ok-push.ensures.items (c.loop-file.invariant known tells) (c.in_ok-chosen_file.ensures known tells)

pub returns : goal.returns
returns c known tells =
    let xs = c.args.files.now in
    c.loop-file.invariant known tells
    ∙ ap (map (λ f. chosen_file known (file_view f))) (take_all c.loop-file.file-index xs c.loop-file-test.false)
    ∙ sym (map-map (chosen_file known) file_view xs)
