use Rattle.std.proofs.Common.{map, ap}
use Rattle.cs_embeddings.specs.GatheredTable.{declared_view}
use Rattle.cs_embeddings.specs.Views.{brought_view}
use Rattle.cs_embeddings.proofs.Listed.{one_listed, all_listed}
use Rattle.cs_embeddings.proofs.gathered.declared_of.Goals as goal

pub loop-brought-init : goal.loop-brought-init
loop-brought-init c = ap (map declared_view) c.in_ok-all.ensures.items

pub loop-brought-preserved : goal.loop-brought-preserved
loop-brought-preserved c =
    one_listed brought_view c.args.declarations.now c.loop-brought.brought-index c.brought-item.result c.loop-brought-test.true c.brought-item.is
    c.loop-brought.all.items _ c.of_brought.result c.in_ok-push.ensures.items c.of_brought.ensures.seen c.loop-brought.invariant

pub returns : goal.returns
returns c = all_listed brought_view c.args.declarations.now c.loop-brought.brought-index c.loop-brought-test.false c.loop-brought.all.items c.loop-brought.invariant
