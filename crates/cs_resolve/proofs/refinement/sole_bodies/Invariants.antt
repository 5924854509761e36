use Rattle.std.proofs.Common.{take, map}
use Rattle.std.specs.List.{flat_map}
use Rattle.cs_grammar.specs.Tree.{definitions}
use Rattle.cs_grammar.specs.View.{file_view}
use Rattle.cs_resolve.specs.Narrowed.{HoldsSole}
use Rattle.cs_resolve.proofs.refinement.sole_bodies.Given as goal

abbrev pub invariant-loop-file : goal.invariant-loop-file
invariant-loop-file l = HoldsSole l.bodies (flat_map definitions (map file_view (take l.file-index l.file-items)))
