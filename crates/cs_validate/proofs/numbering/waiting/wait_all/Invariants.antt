use Rattle.std.proofs.Common.{◌≡◌, ◌++◌, take}
use Rattle.cs_profile.specs.SchemaDocument.{schemas_view}
use Rattle.cs_validate.specs.Placing.{waiting}
use Rattle.cs_validate.proofs.numbering.waiting.wait_all.Given as goal

abbrev pub invariant-loop-schema : goal.invariant-loop-schema
invariant-loop-schema l = waiting l.pending.items ≡ waiting l.initial.pending.items ++ schemas_view (take l.schema-index l.schemas)
