use Rattle.std.proofs.Common.{ℕ, Bool, map}
use Rattle.cs_document.specs.Document.{Document}
use Rattle.cs_instance.specs.Steps.{numbered}
use Rattle.cs_question.specs.Nodes.{IsSide}
use Rattle.cs_question.proofs.sides.side_of.Given as goal

abbrev pub invariant-loop : goal.invariant-loop
invariant-loop l = (J : ℕ → Document → Bool) → IsSide (map (numbered l.inner) l.rules) J → IsSide (map (numbered l.numbers.items) l.rules) J
