use Rattle.std.proofs.Common.{arith}
use Rattle.cs_place.proofs.Lines.{onward}
use Rattle.cs_place.proofs.position.Positions.at.Goals as goal

pub invariant_of-self : goal.invariant_of-self
invariant_of-self c = record {
  within = omega arith;
  known = onward c.args.self.now.text.now _ _ _ _ c.nearest-first.ensures.up c.nearest-first.ensures.known c.behind-position.ensures;
}
