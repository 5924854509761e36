use Rattle.std.proofs.Common.{◌≡◌, ◌++◌, List, String, Global, map, string_bytes}
use Rattle.std.specs.List.{AllByRecursion as Each}
use Rattle.cs_profile.specs.SchemaDocument.{document_of, schema_view}
use Rattle.cs_profile.specs.declared.schema.Schema.{Schema}
use Rattle.cs_validate.specs.Ranked.{definition, IsRanked}
use Rattle.cs_validate.proofs.numbering.definitions.with_ranks.Given as goal

abbrev pub invariant-loop-name : goal.invariant-loop-name
invariant-loop-name l = record {
  done : List (String Global × Schema);
  all : l.document.definitions ≡ done ++ l.name-iterator;
  same : map definition l.ranked.items ≡ map (λ (m : String Global × Schema). (string_bytes m.0, schema_view m.1)) done;
  ranks : Each (IsRanked (document_of l.document)) l.ranked.items;
}
