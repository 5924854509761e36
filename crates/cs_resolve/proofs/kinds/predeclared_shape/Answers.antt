use Rattle.std.proofs.Common.{Some, ap, ◌∙◌}
use Rattle.cs_resolve.proofs.kinds.predeclared_shape.Goals as goal

pub returns-clause-named : goal.returns-clause-named
returns-clause-named c ns = ap Some (c.shape_of.ensures.said ns) ∙ c.in_ok-named.ensures
