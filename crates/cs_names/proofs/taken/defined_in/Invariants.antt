use Rattle.std.proofs.Common.{map, take}
use Rattle.std.specs.List.{flat_map}
use Rattle.cs_grammar.specs.Tree.{definitions}
use Rattle.cs_grammar.specs.View.{file_view}
use Rattle.cs_names.specs.Taken.{TellsDefined}
use Rattle.cs_names.proofs.taken.defined_in.Given as goal

abbrev pub invariant-loop-file : goal.invariant-loop-file
invariant-loop-file l = TellsDefined l.defined (flat_map definitions (map file_view (take l.file-index l.files)))
