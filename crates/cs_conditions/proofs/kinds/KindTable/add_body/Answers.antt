use Rattle.std.proofs.Common.{ap₂, ◌∙◌}
use Rattle.std.proofs.lemmas.Map.Text.{btree_map_updates_str}
use Rattle.cs_conditions.specs.Checks.{kinds_of}
use Rattle.cs_conditions.specs.Kinds.{meet}
use Rattle.cs_conditions.proofs.Bodies.{kinds_added}
use Rattle.cs_conditions.proofs.kinds.KindTable.add_body.Goals as goal

pub returns : goal.returns
returns c known ds tells told =
    let name = c.as_str-name.result.now in
    let after = btree_map_updates_str name c.args.next.now.table c.insert.new.self _ c.in_ok-insert.ensures.updates in
    kinds_added known c.args.next.now (record { table = c.insert.new.self }) ds c.args.definition.now c.meet-kinds.result name told c.as_str-name.ensures.value
    (c.meet-kinds.ensures ∙ ap₂ meet (c.of_name.ensures (kinds_of known ds) told) (c.of_value.ensures known tells)) after
