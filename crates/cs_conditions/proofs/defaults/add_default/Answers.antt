use Rattle.std.proofs.Common.{sym}
use Rattle.std.proofs.lemmas.Map.Text.{btree_map_updates_str}
use Rattle.cs_conditions.specs.Known.{default_known}
use Rattle.cs_conditions.proofs.Bodies.{default_added, default_left_out}
use Rattle.cs_conditions.proofs.defaults.add_default.Goals as goal

pub returns-in_ok-insert : goal.returns-in_ok-insert
returns-in_ok-insert c all ds d told held same =
    let name = c.args.name.now in
    let after = btree_map_updates_str name c.args.table.now c.insert.new.self _ c.in_ok-insert.ensures.updates in
    default_added c.args.table.now (default_known all) ds d held name same c.insert.new.self c.in-Some.literal (sym (c.in-Some.ensures all told)) after

pub returns-in_default : goal.returns-in_default
returns-in_default c all ds d told held same = default_left_out c.args.table.now (default_known all) ds d held c.args.name.now same (sym (c.in_default.ensures all told))
