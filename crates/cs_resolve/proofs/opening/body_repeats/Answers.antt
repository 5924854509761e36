use Rattle.std.proofs.Common.{take, map, sym, subst}
use Rattle.std.specs.List.{flat_map}
use Rattle.cs_grammar.specs.Tree.{definitions}
use Rattle.cs_grammar.specs.View.{file_view}
use Rattle.cs_resolve.specs.Opening.{named_bodies}
use Rattle.cs_resolve.specs.Checks.{Repeats}
use Rattle.cs_resolve.proofs.Trees.{files_more}
use Rattle.cs_resolve.proofs.opening.body_repeats.Goals as goal

pub loop-file-preserved : goal.loop-file-preserved
loop-file-preserved c =
    let fs = c.deref-file-items.result.now in
    let i = c.loop-file.file-index in
    let more = files_more fs i c.file-item.result c.loop-file-test.true c.file-item.is in
    subst (λ ns. Repeats c.note_bodies.new.repeats ns) (sym more) (c.in_ok-note_bodies.ensures (named_bodies (flat_map definitions (map file_view (take i fs)))) c.loop-file.invariant)
