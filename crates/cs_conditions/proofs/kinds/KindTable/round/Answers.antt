use Rattle.std.proofs.Common.{map, take, sym, subst}
use Rattle.std.proofs.lemmas.List.{take_all}
use Rattle.std.specs.List.{flat_map}
use Rattle.cs_grammar.specs.Tree.{definitions}
use Rattle.cs_grammar.specs.View.{file_view}
use Rattle.cs_conditions.specs.Checks.{TellsKindsOf}
use Rattle.cs_conditions.proofs.Bodies.{definitions_more}
use Rattle.cs_conditions.proofs.kinds.KindTable.round.Goals as goal

pub loop-file-preserved : goal.loop-file-preserved
loop-file-preserved c known tells =
    let xs = c.args.files.now in
    let i = c.loop-file.file-index in
    let more = definitions_more xs i c.file-item.result c.loop-file-test.true c.file-item.is in
    subst (λ es. TellsKindsOf c.add_bodies.new.next known es) (sym more)
    (c.in_ok-add_bodies.ensures known (flat_map definitions (map file_view (take i xs))) tells (c.loop-file.invariant known tells))

pub returns : goal.returns
returns c known tells =
    let xs = c.args.files.now in
    subst (λ ys. TellsKindsOf c.loop-file.next known (flat_map definitions (map file_view ys))) (take_all c.loop-file.file-index xs c.loop-file-test.false) (c.loop-file.invariant known tells)
