use Rattle.std.proofs.Common.{sym, ◌∙◌}
use Rattle.cs_question.specs.Nodes.{end_of}
use Rattle.cs_question.proofs.Listed.{element_got, element_past}
use Rattle.cs_question.proofs.Loops.{item_some, item_none}
use Rattle.cs_question.proofs.lists.element_in.Goals as goal

pub returns-in-Some : goal.returns-in-Some
returns-in-Some c = sym (element_got c.args.front.now (end_of c.args.end) c.args.place c.in-Some.rule.now (item_some c.args.front.now c.args.place c.in-Some.rule c.in-Some.ensures.lookup))

pub returns-in-None : goal.returns-in-None
returns-in-None c = sym (element_past c.args.front.now (end_of c.args.end) c.args.place (item_none c.args.front.now c.args.place c.in-None.ensures.lookup))
