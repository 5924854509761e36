use Rattle.std.proofs.Common.{◌≡◌, map, take}
use Rattle.cs_package.specs.Environment.{declared_names}
use Rattle.cs_package.specs.View.{expression_of}
use Rattle.cs_profile.specs.SchemaDocument.{schemas_view}
use Rattle.cs_compile.specs.Grouped.{declarations_at, AreValues}
use Rattle.cs_compile.specs.Translation.{schema_of}
use Rattle.cs_compile.proofs.translate.+translate.Given as goal

abbrev pub invariant-schemas_of-loop-shape : goal.invariant-schemas_of-loop-shape
invariant-schemas_of-loop-shape l = schemas_view l.schemas.items ≡ map (λ s. schema_of (expression_of (declared_names l.package) s)) (take l.shape-index l.shapes)

abbrev pub invariant-values_of-loop-part : goal.invariant-values_of-loop-part
invariant-values_of-loop-part l = AreValues (declarations_at (declared_names l.package) (take l.part-index l.parts)) l.values
