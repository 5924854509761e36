use Rattle.std.proofs.Common.{map, take}
use Rattle.cs_grammar.specs.View.{file_view}
use Rattle.cs_plain.specs.Bodies.{TellsBodies}
use Rattle.cs_plain.specs.Bodies.{bodies_in}
use Rattle.cs_plain.proofs.bodies.Bodies.of.Given as goal

abbrev pub invariant-loop-file : goal.invariant-loop-file
invariant-loop-file l = TellsBodies l.bodies (bodies_in (map file_view (take l.file-index l.files)))
