use Rattle.std.proofs.Common.{◌≡◌, drop, map}
use Rattle.std.specs.List.{flat_map}
use Rattle.cs_grammar.specs.Tree.{body}
use Rattle.cs_grammar.specs.View.{definition_view}
use Rattle.cs_conditions.specs.Checks.{TellsKnown}
use Rattle.cs_conditions.specs.Faults.{flaws}
use Rattle.cs_conditions.specs.Known.{Knowledge}
use Rattle.cs_conditions.proofs.files.check_bodies.Given as goal

abbrev pub invariant-loop-definition : goal.invariant-loop-definition
invariant-loop-definition l = (knowledge : Knowledge) → TellsKnown l.known knowledge
    → flat_map (λ d. flaws knowledge (body d)) (map definition_view l.definitions) ≡ flat_map (λ d. flaws knowledge (body d)) (map definition_view (drop l.definition-index l.definitions))
