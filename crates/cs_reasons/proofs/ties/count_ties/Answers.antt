use Rattle.std.proofs.Common.{◌<◌, length, arith}
use Rattle.cs_reasons.proofs.Closest.{same_links, same_at, one_counted}
use Rattle.cs_reasons.proofs.ties.count_ties.Goals as goal

pub loop-place-init : goal.loop-place-init
loop-place-init g c = same_links c.args.links.now.items

pub ties-requires : goal.ties-requires
ties-requires g c =
    let same = c.loop-place.invariant in
    let inside : c.loop-place.place < length c.loop-place.links.items = let l = c.loop-place-test.true in let n = same.0 in let e = c.len-place-end.ensures in let ok = c.args.links.now.ok in omega arith in
    same_at (g.G.Explains.is_refused c.args.graph.now) c.args.links.now.items c.loop-place.links.items same c.requires c.loop-place.place c.index-link.result.now inside c.index-link.ensures

pub loop-place-preserved : goal.loop-place-preserved
loop-place-preserved g c =
    let same = c.loop-place.invariant in
    let inside : c.loop-place.place < length c.loop-place.links.items = let l = c.loop-place-test.true in let n = same.0 in let e = c.len-place-end.ensures in let ok = c.args.links.now.ok in omega arith in
    one_counted c.args.links.now.items c.loop-place.links.items c.loop-place.place c.in_ok-ties.ties c.index_mut.result.now inside c.index_mut.ensures.value same
