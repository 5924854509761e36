use Rattle.std.proofs.Common.{◌∙◌}
use Rattle.cs_syntax.specs.Reading.{bound_name_at}
use Rattle.cs_syntax.proofs.WordKinds.{refused_at, bound_name_other}
use Rattle.cs_syntax.proofs.parser.place.Parser.bound_name.Goals as goal

pub returns-in_default-kind_of : goal.returns-in_default-kind_of
returns-in_default-kind_of c =
    let other = c.in_default-kind_of in
    refused_at bound_name_at _ c.in-Some.token _ c.fault_of.result c.in-Some.ensures c.fault_of.ensures
    (bound_name_other _ _ _ _ (λ e. other.not-Name (c.kind_of.ensures ∙ e)))
