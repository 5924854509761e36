use Rattle.std.proofs.Common.{refl, sym, ◌∙◌}
use Rattle.std.proofs.lemmas.Map.Text.{btree_map_updates_str}
use Rattle.cs_defaults.proofs.Bodies.{put_first, put_again, body_added}
use Rattle.cs_defaults.proofs.leading.add_body.Goals as goal
use Rattle.cs_defaults.proofs.leading.add_body.Goals.{then-contains_key, else-contains_key}

pub returns : goal.returns
returns c ds told =
    let d = c.args.definition.now in
    let name = c.as_str-name.result.now in
    let after = btree_map_updates_str name c.args.bodies.now c.insert.new.self _ c.in_ok-insert.ensures.updates in
    elim c.if-contains_key.branch [
      | then-contains_key w ↦ body_added c.args.bodies.now c.insert.new.self ds d (record { ref_ptr = c.args.definition.ref_ptr; now = d.body }) c.if-contains_key.body name told refl c.as_str-name.ensures.value (w.body-is ∙ put_again _ _ (sym c.contains_key.ensures ∙ w.if-contains_key.true)) after
      | else-contains_key w ↦ body_added c.args.bodies.now c.insert.new.self ds d _ c.if-contains_key.body name told refl c.as_str-name.ensures.value (w.body-is ∙ put_first _ _ (sym c.contains_key.ensures ∙ w.if-contains_key.false)) after
    ]
