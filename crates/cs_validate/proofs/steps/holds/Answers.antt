use Rattle.std.proofs.Common.{sym, subst}
use Rattle.cs_flat.specs.Listed.{values}
use Rattle.cs_flat.specs.Nodes.{node_at}
use Rattle.cs_flat.specs.View.{item_view}
use Rattle.cs_rules.specs.Knowns.{verdict_here, verdict_inside, rule_count, place_count}
use Rattle.cs_validate.specs.Numbering.{PartsBelow}
use Rattle.cs_validate.specs.Steps.{asked_of}
use Rattle.cs_validate.proofs.Asked.{claims_hold, below_here, below_inside}
use Rattle.cs_validate.proofs.steps.holds.Goals as goal

pub object_holds-requires-clause-here : goal.object_holds-requires-clause-here
object_holds-requires-clause-here c =
    below_here (rule_count c.args.known.now) (place_count c.args.known.now) c.in-Object.conjunction (subst (λ r. PartsBelow (rule_count c.args.known.now) (place_count c.args.known.now) (asked_of r)) c.in-Object.is c.requires.parts)

pub object_holds-requires-clause-inside : goal.object_holds-requires-clause-inside
object_holds-requires-clause-inside c =
    below_inside (rule_count c.args.known.now) (place_count c.args.known.now) c.in-Object.conjunction (subst (λ r. PartsBelow (rule_count c.args.known.now) (place_count c.args.known.now) (asked_of r)) c.in-Object.is c.requires.parts)

pub returns-in-Object : goal.returns-in-Object
returns-in-Object c =
    let k = c.args.known.now in
    rw (c.in-Object.is, c.object_holds.ensures) (sym (claims_hold (verdict_here k) (verdict_inside k) (node_at (values c.args.flat.now) k.item) c.in-Object.conjunction (item_view c.args.value.now)))
