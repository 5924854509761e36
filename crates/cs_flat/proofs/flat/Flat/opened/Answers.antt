use Rattle.std.proofs.Common.{length, arith}
use Rattle.cs_flat.specs.View.{item_view}
use Rattle.cs_flat.proofs.Opening.{closed_at, inside_weaker}
use Rattle.cs_flat.proofs.flat.Flat.opened.Goals as goal

pub returns-clause-lower : goal.returns-clause-lower
returns-clause-lower c =
    let x = item_view c.item.result in
    inside_weaker c.args.i (length c.args.self.now) (omega arith) x (c.len-count.ensures.listed.built.lower c.args.i x c.item.ensures.found)

pub returns-clause-value : goal.returns-clause-value
returns-clause-value c = closed_at c.args.self.now c.len-count.ensures.listed.built c.args.i (item_view c.item.result) c.item.ensures.found
