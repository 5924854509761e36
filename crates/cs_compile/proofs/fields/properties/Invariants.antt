use Rattle.std.proofs.Common.{◌≡◌, List, ◌++◌, map, String, Vec, Global}
use Rattle.cs_document.specs.View.{members_of}
use Rattle.cs_document.proofs.Maps.{texts}
use Rattle.cs_profile.specs.SchemaDocument.{schemas_view, definitions_view}
use Rattle.cs_profile.specs.declared.schema.Schema.{Schema}
use Rattle.cs_compile.specs.Translation.{one_or_all}
use Rattle.cs_compile.proofs.fields.properties.Given as goal

abbrev pub invariant-loop-label : goal.invariant-loop-label
invariant-loop-label l = record {
  done : List (String Global × Vec Schema Global);
  all : l.fn.groups.entries ≡ done ++ l.label-iterator;
  same : texts l.properties.entries ≡ texts done;
  values : members_of (definitions_view l.properties.entries) ≡ members_of (map (λ e. (e.0, one_or_all (schemas_view e.1.items))) done);
}
