use Rattle.std.proofs.Common.{[], ◌∷◌, true, false, sym, subst}
use Rattle.std.proofs.Math.ListN.{set}
use Rattle.cs_graph.proofs.Marks.{read_at}
use Rattle.cs_guard.specs.Found.{Added}
use Rattle.cs_guard.proofs.Finds.{added_new}
use Rattle.cs_guard.proofs.reaching.add.Goals as goal

pub returns : goal.returns
returns c =
    let seen = c.args.seen.now in
    let order = c.args.order.now.items in
    let i = c.args.number in
    subst (λ xs. Added (i ∷ []) seen order (set seen i true) xs) (sym c.in_ok-push.ensures.items) (added_new seen order i c.requires.marked (read_at seen i _ false c.requires.inside c.if-seen-number.false))
