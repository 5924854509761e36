use Rattle.std.proofs.Common.{◌≡◌, ◌+◌, take, map}
use Rattle.cs_grammar.specs.Size.{nodes_of_definitions}
use Rattle.cs_grammar.specs.View.{definition_view}
use Rattle.cs_resolve.proofs.size.room_after_definitions.Given as goal

abbrev pub invariant-loop-definition : goal.invariant-loop-definition
invariant-loop-definition l = l.left + nodes_of_definitions (map definition_view (take l.definition-index l.definition-items)) ≡ l.fn.room
