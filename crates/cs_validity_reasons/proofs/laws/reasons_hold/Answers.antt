use Rattle.cs_profile.specs.SchemaDocument.{document_of}
use Rattle.cs_validity_reasons.proofs.Pointed.{refused_at}
use Rattle.cs_validity_reasons.proofs.Refused.{not_valid, by_itself, refused_first}
use Rattle.cs_validity_reasons.proofs.laws.reasons_hold.Goals as goal

pub returns : goal.returns
returns c =
    let R = document_of c.args.schema.now in
    record {
      told = λ V is s0 x0 fits ways s x k why. record {
        whole = refused_first R V is s0 x0 why.refused;
        there = refused_at R V s0 x0 fits why.refused;
        refused = not_valid R V is s x k why.cause;
        alone = λ other W. by_itself R V is s x k why.cause why.leaf other W;
      };
    }
