use Rattle.std.proofs.Common.{map, ◌∙◌, sym}
use Rattle.cs_flat.specs.View.{entry_of}
use Rattle.cs_rules.specs.Knowns.{value_count}
use Rattle.cs_rules.proofs.Lists.{found_below}
use Rattle.cs_instance.proofs.steps.value_holds.Goals as goal

pub inside-requires-clause-child : goal.inside-requires-clause-child
inside-requires-clause-child c = found_below (value_count c.args.known.now) _ (map entry_of c.args.members.now) c.in-Some.child c.requires.members (sym c.number_under.ensures ∙ c.in-Some.is)
