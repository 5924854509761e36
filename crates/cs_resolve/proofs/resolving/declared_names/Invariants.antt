use Rattle.std.proofs.Common.{◌≡◌, map, take}
use Rattle.std.specs.List.{flat_map}
use Rattle.cs_grammar.specs.Tree.{definitions}
use Rattle.cs_grammar.specs.View.{file_view}
use Rattle.cs_resolve.specs.Declarations.{names}
use Rattle.cs_package.specs.View.{names_of, IsTable}
use Rattle.cs_resolve.proofs.resolving.declared_names.Given as goal

abbrev pub invariant-loop-file : goal.invariant-loop-file
invariant-loop-file l = record {
  table : IsTable l.names.entries;
  found : names_of l.names.entries ≡ names (flat_map definitions (map file_view (take l.file-index l.file-items)));
}
