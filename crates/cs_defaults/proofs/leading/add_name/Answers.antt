use Rattle.std.proofs.Common.{sym, ◌∙◌}
use Rattle.cs_defaults.specs.Leading.{hands_on}
use Rattle.cs_defaults.proofs.Bodies.{name_added, name_left_out}
use Rattle.cs_defaults.proofs.leading.add_name.Goals as goal

pub returns-in_ok-insert : goal.returns-in_ok-insert
returns-in_ok-insert c all ds d told held same = name_added c.args.names.now (hands_on all) ds d held c.insert.new.self c.args.name same (sym (c.hands_on.ensures all 0 told) ∙ c.if-hands_on.true) c.in_ok-insert.ensures.updates

pub returns-else-hands_on : goal.returns-else-hands_on
returns-else-hands_on c all ds d told held same = name_left_out c.args.names.now (hands_on all) ds d held c.args.name.now same (sym (c.hands_on.ensures all 0 told) ∙ c.if-hands_on.false)
