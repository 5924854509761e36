use Rattle.std.proofs.Common.{map, take, sym, subst}
use Rattle.std.specs.List.{flat_map}
use Rattle.cs_grammar.specs.Tree.{definitions}
use Rattle.cs_grammar.specs.View.{file_view}
use Rattle.cs_embeddings.specs.Checks.{TellsBodies}
use Rattle.cs_embeddings.proofs.Bodies.{none_told, definitions_more}
use Rattle.cs_embeddings.proofs.definitions.Bodies.of.Goals as goal

pub loop-file-init : goal.loop-file-init
loop-file-init c = none_told _ c.new.ensures.empty c.new-2.ensures.items c.new-3.ensures.items

pub loop-file-preserved : goal.loop-file-preserved
loop-file-preserved c =
    let xs = c.args.files.now in
    let i = c.loop-file.file-index in
    let more = definitions_more xs i c.file-item.result c.loop-file-test.true c.file-item.is in
    subst (λ es. TellsBodies c.add_all.new.self es) (sym more) (c.in_ok-add_all.ensures (flat_map definitions (map file_view (take i xs))) c.loop-file.invariant)
