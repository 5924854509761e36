use Rattle.std.proofs.Common.{take}
use Rattle.cs_profile.specs.SchemaDocument.{schemas_view}
use Rattle.cs_validate.specs.Placing.{PlacesAll}
use Rattle.cs_validate.proofs.numbering.+numbering.Given as goal

abbrev pub invariant-place_all-loop-schema : goal.invariant-place_all-loop-schema
invariant-place_all-loop-schema l =
    PlacesAll l.numbers l.initial.numberer l.numberer (schemas_view (take l.schema-index l.schemas)) l.parts.items
