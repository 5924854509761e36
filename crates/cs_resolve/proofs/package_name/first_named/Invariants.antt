use Rattle.std.proofs.Common.{◌≡◌, drop, map}
use Rattle.cs_resolve.specs.DifferingFile.{first_named}
use Rattle.cs_grammar.specs.View.{file_view}
use Rattle.cs_resolve.proofs.package_name.first_named.Given as goal

abbrev pub invariant-loop-file : goal.invariant-loop-file
invariant-loop-file l = first_named (map file_view l.file-items) ≡ first_named (map file_view (drop l.file-index l.file-items))
