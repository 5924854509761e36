use Rattle.std.proofs.Common.{take, map, sym, subst}
use Rattle.std.specs.List.{flat_map}
use Rattle.cs_grammar.specs.Tree.{definitions}
use Rattle.cs_grammar.specs.View.{file_view}
use Rattle.cs_resolve.specs.Narrowed.{HoldsSole}
use Rattle.cs_resolve.proofs.Trees.{definitions_more}
use Rattle.cs_resolve.proofs.refinement.sole_bodies.Goals as goal

pub loop-file-preserved : goal.loop-file-preserved
loop-file-preserved c =
    let fs = c.deref-file-items.result.now in
    let i = c.loop-file.file-index in
    let more = definitions_more fs i c.file-item.result c.loop-file-test.true c.file-item.is in
    subst (λ ds. HoldsSole c.record_all_bodies.new.bodies ds) (sym more) (c.in_ok-record_all_bodies.ensures (flat_map definitions (map file_view (take i fs))) c.loop-file.invariant)
