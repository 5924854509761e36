use Rattle.std.proofs.Common.{◌≡◌, sym, ◌∙◌, subst}
use Rattle.std.proofs.lemmas.Simd.{map-map}
use Rattle.std.specs.Result.{IfOk}
use Rattle.cs_package.specs.Environment.{declared_names}
use Rattle.cs_package.specs.View.{expression_of}
use Rattle.cs_profile.specs.SchemaDocument.{schema_view}
use Rattle.cs_compile.specs.Translation.{schema_of, one_or_all}
use Rattle.cs_compile.proofs.translate.definition_schema.Goals as goal

pub returns : goal.returns
returns c =
    let view = expression_of (declared_names c.args.package.now) in
    subst (λ ds. IfOk c.one_or_all.result (λ s. schema_view s ≡ one_or_all ds)) (c.in_ok-schemas_of.ensures ∙ sym (map-map schema_of view c.args.bodies.now)) c.one_or_all.ensures
