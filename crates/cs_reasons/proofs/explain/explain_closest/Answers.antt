use Rattle.std.proofs.Common.{refl}
use Rattle.cs_reasons.specs.Followed.{followed_earlier}
use Rattle.cs_reasons.specs.Marked.{marked}
use Rattle.cs_reasons.specs.Reasons.{IsFollowed}
use Rattle.cs_reasons.proofs.Closest.{links_refused, same_reasons}
use Rattle.cs_reasons.proofs.explain.explain_closest.Goals as goal

pub count_ties-requires : goal.count_ties-requires
count_ties-requires g c =
    let graph = c.args.graph.now in
    let chosen = marked c.choose.new.chosen in
    let L = g.G.Cause.Cause.leads_to in
    let A = g.G.Cause.Cause.is_alternative in
    links_refused L (IsFollowed L (g.G.Explains.is_cause graph) A (g.G.Chooses.none graph) chosen) c.args.item c.args.rule c.args.most (g.G.Explains.is_refused graph)
    (followed_earlier L A (g.G.Explains.is_cause graph) (g.G.Explains.is_refused graph) (g.G.Chooses.none graph) chosen (g.met.G.Explains.earlier graph) (g.met.G.Chooses.none_leads_nowhere graph))
    c.requires c.in_ok-reasons.reasons c.in_ok-reasons.ensures

pub returns : goal.returns
returns g c =
    let graph = c.args.graph.now in
    let chosen = marked c.choose.new.chosen in
    let L = g.G.Cause.Cause.leads_to in
    let A = g.G.Cause.Cause.is_alternative in (
      chosen,
      same_reasons L (IsFollowed L (g.G.Explains.is_cause graph) A (g.G.Chooses.none graph) chosen) c.args.item c.args.rule c.args.most c.in_ok-reasons.reasons.links.items c.count_ties.new.links.items c.in_ok-count_ties.ensures
          c.in_ok-reasons.reasons (record { links = c.count_ties.new.links; told = c.in_ok-reasons.reasons.told; count = c.in_ok-reasons.reasons.count }) refl refl refl refl c.in_ok-reasons.ensures,
    )
