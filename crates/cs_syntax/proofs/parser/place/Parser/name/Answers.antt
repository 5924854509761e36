use Rattle.std.proofs.Common.{◌∙◌}
use Rattle.cs_syntax.specs.Reading.{name_at}
use Rattle.cs_syntax.proofs.WordKinds.{refused_at, name_other}
use Rattle.cs_syntax.proofs.parser.place.Parser.name.Goals as goal

pub returns-in_default-kind_of : goal.returns-in_default-kind_of
returns-in_default-kind_of c =
    let other = c.in_default-kind_of in
    refused_at name_at _ c.in-Some.token _ c.fault_of.result c.in-Some.ensures c.fault_of.ensures
    (name_other _ _ _ _ (λ e. other.not-Name (c.kind_of.ensures ∙ e)) (λ e. other.not-Local (c.kind_of.ensures ∙ e)) (λ e. other.not-Definition (c.kind_of.ensures ∙ e)))
