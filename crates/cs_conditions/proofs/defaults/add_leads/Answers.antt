use Rattle.std.proofs.Common.{◌++◌, map, take, sym, subst}
use Rattle.cs_grammar.specs.View.{definition_view}
use Rattle.cs_conditions.specs.Checks.{TellsLeads}
use Rattle.cs_conditions.proofs.Bodies.{definition_more}
use Rattle.cs_conditions.proofs.defaults.add_leads.Goals as goal

pub loop-definition-preserved : goal.loop-definition-preserved
loop-definition-preserved c ds told =
    let xs = c.deref-definition-items.result.now in
    let i = c.loop-definition.definition-index in
    let more = definition_more ds xs i c.definition-item.result c.loop-definition-test.true c.definition-item.is in
    subst (λ es. TellsLeads c.add_lead.new.leads es) (sym more) (c.in_ok-add_lead.ensures (ds ++ map definition_view (take i xs)) (c.loop-definition.invariant ds told))
