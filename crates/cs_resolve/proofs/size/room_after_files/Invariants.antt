use Rattle.std.proofs.Common.{◌≡◌, ◌+◌, take, map}
use Rattle.cs_grammar.specs.Size.{nodes_of_files}
use Rattle.cs_grammar.specs.View.{file_view}
use Rattle.cs_resolve.proofs.size.room_after_files.Given as goal

abbrev pub invariant-loop-file : goal.invariant-loop-file
invariant-loop-file l = l.left + nodes_of_files (map file_view (take l.file-index l.file-items)) ≡ l.fn.room
