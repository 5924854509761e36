use Rattle.std.proofs.Common.{sym, ap, ◌∙◌}
use Rattle.std.proofs.lemmas.Map.Text.{btree_map_updates_str}
use Rattle.cs_conditions.specs.Checks.{lead_view}
use Rattle.cs_conditions.proofs.Bodies.{first_lead, later_lead, lead_added}
use Rattle.cs_conditions.proofs.defaults.add_lead.Goals as goal
use Rattle.cs_conditions.proofs.defaults.add_lead.Goals.{then-contains_key, else-contains_key}

pub returns : goal.returns
returns c ds told =
    let d = c.args.definition.now in
    let name = c.as_str-name.result.now in
    let after = btree_map_updates_str name c.args.leads.now c.insert.new.self _ c.in_ok-insert.ensures.updates in
    elim c.if-contains_key.branch [
      | then-contains_key w ↦ lead_added c.args.leads.now c.insert.new.self ds d c.if-contains_key.lead name told c.as_str-name.ensures.value (later_lead _ _ _ (sym c.contains_key.ensures ∙ w.if-contains_key.true) (ap lead_view w.lead-is)) after
      | else-contains_key w ↦ lead_added c.args.leads.now c.insert.new.self ds d c.if-contains_key.lead name told c.as_str-name.ensures.value (first_lead _ _ _ (sym c.contains_key.ensures ∙ w.if-contains_key.false) (ap lead_view w.lead-is ∙ w.leading-lead.ensures)) after
    ]
