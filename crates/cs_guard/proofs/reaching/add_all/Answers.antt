use Rattle.std.proofs.Common.{sym, subst}
use Rattle.std.proofs.lemmas.List.{take_more}
use Rattle.cs_guard.specs.Found.{Added}
use Rattle.cs_guard.proofs.Finds.{added_more}
use Rattle.cs_guard.proofs.reaching.add_all.Goals as goal

pub loop-number-preserved : goal.loop-number-preserved
loop-number-preserved c =
    let l = c.loop-number in
    let numbers = c.args.numbers.now in
    subst (λ xs. Added xs c.args.seen.now c.args.order.now.items c.add.new.seen c.add.new.order.items) (sym (take_more numbers l.number-index _ c.loop-number-test.true))
    (added_more _ _ _ _ _ _ _ _ l.invariant c.in_ok-add.ensures)
