use Rattle.std.proofs.Common.{map, sym, ap, ◌∙◌}
use Rattle.std.proofs.lemmas.List.{take_all}
use Rattle.std.proofs.lemmas.Simd.{map-map}
use Rattle.cs_grammar.specs.View.{file_view}
use Rattle.cs_plain.specs.Bodies.{bodies_in}
use Rattle.cs_plain.specs.Placed as Placed
use Rattle.cs_plain.proofs.Walks.{map_pushed}
use Rattle.cs_plain.proofs.files.placed_files.Goals as goal

pub loop-file-preserved : goal.loop-file-preserved
loop-file-preserved c ns told =
    let fs = map file_view c.args.files.now in
    map_pushed (λ f. Placed.placed_here ns (bodies_in fs) (Placed.kinds_in ns fs) (file_view f)) file_view c.args.files.now c.loop-file.file-index c.file-item.result c.loop-file-test.true c.file-item.is
    _ _ _ c.in_ok-push.ensures.items (c.loop-file.invariant ns told) (c.in_ok-placed_here.ensures ns (Placed.kinds_in ns fs) (bodies_in fs) told c.in_ok-all.ensures (c.in_ok-kinds.ensures ns told))

pub returns : goal.returns
returns c ns told =
    let xs = c.args.files.now in
    let fs = map file_view xs in
    let one = Placed.placed_here ns (bodies_in fs) (Placed.kinds_in ns fs) in
    c.loop-file.invariant ns told ∙ ap (map (λ f. one (file_view f))) (take_all c.loop-file.file-index xs c.loop-file-test.false) ∙ sym (map-map one file_view xs)
