use Rattle.std.proofs.Common.{List, ◌++◌, map, take}
use Rattle.cs_grammar.specs.View.{definition_view}
use Rattle.cs_plain.specs.Bodies.{TellsBodies}
use Rattle.cs_plain.specs.Bodies as Spec
use Rattle.cs_plain.specs.Bodies.{body_of}
use Rattle.cs_plain.proofs.bodies.Bodies.add_all.Given as goal

abbrev pub invariant-loop-definition : goal.invariant-loop-definition
invariant-loop-definition l = (bs : List Spec.Body) → TellsBodies l.initial.self bs → TellsBodies l.self (bs ++ map body_of (map definition_view (take l.definition-index l.definitions)))
