use Rattle.cs_instance.proofs.Ready.{list_waits}
use Rattle.cs_instance.proofs.numbering.expressions.put_list.Goals as goal

pub returns : goal.returns
returns c =
    let w = c.in_ok-places in
    let u = c.in_ok-end in
    list_waits c.put.result c.args.numberer.now c.wait_all.new.numberer c.wait_end.new.numberer c.put.new.self c.args.front.now c.args.end.now w.places u.end w.ensures u.ensures c.put.ensures.number c.put.ensures.pending
