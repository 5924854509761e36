use Rattle.std.proofs.Common.{◌≡◌, ◌++◌, List, map}
use Rattle.std.specs.BTreeMap.{values}
use Rattle.cs_graph.specs.Graph.{graph_of}
use Rattle.cs_profile.specs.Loops.{direct_names}
use Rattle.cs_profile.specs.Numbered.{by_text, numbers_of}
use Rattle.cs_profile.specs.SchemaDocument.{schema_view}
use Rattle.cs_profile.specs.declared.schema.Schema.{Schema}
use Rattle.cs_profile.proofs.references.graph_of_definitions.Given as goal

abbrev pub invariant-loop-schema : goal.invariant-loop-schema
invariant-loop-schema l = record {
  done : List Schema;
  all : values l.definitions ≡ done ++ l.schema-iterator;
  made : graph_of l.graph.items ≡ map (λ s. numbers_of (by_text l.numbers.entries) (direct_names (schema_view s))) done;
}
