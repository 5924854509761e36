use Rattle.std.proofs.Common.{map, take}
use Rattle.cs_grammar.specs.View.{file_view}
use Rattle.cs_tool.specs.FilesIn.{AreFilesIn}
use Rattle.cs_tool.proofs.packages.files_of.Given as goal

abbrev pub invariant-loop-number : goal.invariant-loop-number
invariant-loop-number l = AreFilesIn l.profile (take l.number (map (λ t. t.now) l.texts)) (map file_view l.files.items)
