use Rattle.std.proofs.Common.{◌≡◌, ◌++◌, List}
use Rattle.std.specs.BTreeMap.{values}
use Rattle.cs_profile.specs.SchemaDocument.{schemas_view}
use Rattle.cs_profile.specs.declared.schema.Schema.{Schema}
use Rattle.cs_validate.specs.Placing.{waiting}
use Rattle.cs_validate.proofs.numbering.waiting.wait_values.Given as goal

abbrev pub invariant-loop-schema : goal.invariant-loop-schema
invariant-loop-schema l = record {
  done : List Schema;
  all : values l.schemas ≡ done ++ l.schema-iterator;
  waits : waiting l.pending.items ≡ waiting l.initial.pending.items ++ schemas_view done;
}
