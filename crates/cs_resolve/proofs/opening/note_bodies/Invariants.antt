use Rattle.std.proofs.Common.{◌++◌, List, take, map}
use Rattle.cs_resolve.specs.Opening.{Named, named_bodies}
use Rattle.cs_resolve.specs.Checks.{Repeats}
use Rattle.cs_grammar.specs.View.{definition_view}
use Rattle.cs_resolve.proofs.opening.note_bodies.Given as goal

abbrev pub invariant-loop-definition : goal.invariant-loop-definition
invariant-loop-definition l = (ns : List Named) → Repeats l.fn.repeats ns → Repeats l.repeats (ns ++ named_bodies (map definition_view (take l.definition-index l.definition-items)))
