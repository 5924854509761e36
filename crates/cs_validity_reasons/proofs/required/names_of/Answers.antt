use Rattle.std.proofs.Common.{◌≡◌, length, string_bytes, ap, ◌∙◌, arith}
use Rattle.std.proofs.lemmas.List.{length-map}
use Rattle.cs_validity_reasons.specs.Required.{names_required}
use Rattle.cs_validate.specs.Steps.{asked_of}
use Rattle.cs_validity_reasons.proofs.NamesCounted.{names_of_object}
use Rattle.cs_validity_reasons.proofs.required.names_of.Goals as goal

pub returns-in-Object : goal.returns-in-Object
returns-in-Object c =
    let k = c.in-Object.conjunction in
    let held = k.keywords.now.required in
    let named : length k.required ≡ length held.items = ap length k.names ∙ length-map held.items string_bytes in
    let asked : names_required (asked_of c.args.rule.now) ≡ length k.required = ap (λ r. names_required (asked_of r)) c.in-Object.is ∙ names_of_object k in
    omega (arith, c.len.ensures, held.ok.0, named, asked)
