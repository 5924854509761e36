use Rattle.std.proofs.Common.{None, refl, sym, subst, ◌∙◌}
use Rattle.std.proofs.lemmas.Map.Text.{btree_map_updates_str}
use Rattle.cs_embeddings.specs.GatheredTable.{declared_view, TellsLabel, StandsFor}
use Rattle.cs_embeddings.proofs.Gathering.{every_alone, alone_for, gathered_is, every_met, label_met}
use Rattle.cs_embeddings.proofs.gathered.Labels.meet.Goals as goal

pub returns-then-stays_alone : goal.returns-then-stays_alone
returns-then-stays_alone c ds all before tables told =
    let d = declared_view c.args.declared in
    let every = sym c.stays_alone.ensures ∙ c.if-stays_alone.true in
    (sym (every_alone ds all before d every), alone_for ds all before d every, every_met c.args.self.now ds all before d every told)

pub returns : goal.returns
returns c ds all before tables told =
    let d = declared_view c.args.declared in
    let one = sym c.stays_alone.ensures ∙ c.if-stays_alone.false in
    let name = c.args.declared.label.now in
    let without = btree_map_updates_str name c.args.self.now.by_text c.remove-known.new.self None c.remove-known.ensures.updates in
    let after = btree_map_updates_str name c.remove-known.new.self c.insert.new.self _ c.in_ok-insert.ensures.updates in
    let known = subst (λ o. TellsLabel o ds name all before) (sym c.remove-known.ensures.value) (told name) in
    let stands = c.standing-is_gathered.ensures ds all before tables known in (
      stands.1,
      subst (λ b. StandsFor c.standing-is_gathered.result.1 b ds all d) (gathered_is ds all before d one c.standing-is_gathered.result.0 stands.0) stands.2,
      label_met c.args.self.now (record { by_text = c.insert.new.self }) c.remove-known.new.self ds all before d name _
          refl one told without after stands.0,
    )
