use Rattle.std.proofs.Common.{◌∙◌, ap, true}
use Rattle.std.specs.Prelude.{unwrap_or}
use Rattle.cs_listing.proofs.LeftOpen.{open_by, next_left_open}
use Rattle.cs_listing.proofs.kinds_at.Goals as goal

pub loop-number-preserved : goal.loop-number-preserved
loop-number-preserved c =
    let l = c.loop-number in
    next_left_open c.args.known.now c.args.numbers.now l.number-index l.kinds.items c.push.new.self.items c.at.result
    c.loop-number-test.true c.in_ok-push.ensures.items l.invariant (λ x. open_by c.at.result x ∙ ap (λ o. unwrap_or o true) (c.at.ensures x))
