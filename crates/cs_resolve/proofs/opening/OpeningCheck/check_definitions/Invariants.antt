use Rattle.std.proofs.Common.{◌≡◌, List, drop, map}
use Rattle.cs_resolve.specs.Opening.{Named}
use Rattle.cs_resolve.specs.Unopened.{unopened_definitions}
use Rattle.cs_resolve.specs.Checks.{Repeats}
use Rattle.cs_resolve.specs.Narrowed.{TellsRefinements}
use Rattle.cs_resolve.specs.Refinement.{Refinements}
use Rattle.cs_grammar.specs.View.{definition_view}
use Rattle.cs_resolve.proofs.opening.OpeningCheck.check_definitions.Given as goal

abbrev pub invariant-loop-definition : goal.invariant-loop-definition
invariant-loop-definition l = (all : List Named) → Repeats l.repeats all → (rs : Refinements) → TellsRefinements l.self.bases.now rs → unopened_definitions rs all (map definition_view l.definition-items) ≡ unopened_definitions rs all (map definition_view (drop l.definition-index l.definition-items))
