use Rattle.std.proofs.Common.{[]}
use Rattle.cs_plain.proofs.BodyTables.{no_bodies}
use Rattle.cs_plain.proofs.bodies.Bodies.of_definitions.Goals as goal

pub returns : goal.returns
returns c = c.in_ok-add_all.ensures [] (no_bodies _ c.new.ensures.empty c.new-2.ensures.items)
