use Rattle.std.proofs.Common.{map, sym, ap, ◌∙◌}
use Rattle.std.proofs.lemmas.List.{take_all}
use Rattle.std.proofs.lemmas.Simd.{map-map}
use Rattle.cs_grammar.specs.View.{file_view}
use Rattle.cs_defaults.specs.Unmarked.{unmarked_file}
use Rattle.cs_defaults.proofs.Found.{map_pushed}
use Rattle.cs_defaults.proofs.unmarked.Unmarking.unmarked_files.Goals as goal

pub loop-file-preserved : goal.loop-file-preserved
loop-file-preserved c has tells = map_pushed (λ f. unmarked_file has (file_view f)) file_view c.args.files.now c.loop-file.file-index c.file-item.result c.loop-file-test.true c.file-item.is _ _ _ c.in_ok-push.ensures.items (c.loop-file.invariant has tells) (c.in_ok-unmarked_file.ensures has tells)

pub returns : goal.returns
returns c has tells =
    let xs = c.args.files.now in
    c.loop-file.invariant has tells
    ∙ ap (map (λ f. unmarked_file has (file_view f))) (take_all c.loop-file.file-index xs c.loop-file-test.false)
    ∙ sym (map-map (unmarked_file has) file_view xs)
