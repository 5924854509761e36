use Rattle.std.proofs.Common.{[], ap}
use Rattle.std.specs.List.{list_any}
use Rattle.cs_resolve.specs.Around.{has_text}
use Rattle.cs_resolve.proofs.shapes.Resolver.body_shape.Goals as goal

pub returns : goal.returns
returns c rs held = c.shape_of.ensures.shape [] (λ t. ap (list_any (has_text t)) c.new-around.ensures.items) rs held
