use Rattle.std.proofs.Common.{◌≡◌, true, drop, map}
use Rattle.std.specs.List.{flat_map}
use Rattle.cs_grammar.specs.Tree.{body}
use Rattle.cs_grammar.specs.View.{definition_view}
use Rattle.cs_defaults.specs.Marks.{misplaced}
use Rattle.cs_defaults.proofs.files.check_bodies.Given as goal

abbrev pub invariant-loop-definition : goal.invariant-loop-definition
invariant-loop-definition l = flat_map (λ d. misplaced true (body d)) (map definition_view l.definitions) ≡ flat_map (λ d. misplaced true (body d)) (map definition_view (drop l.definition-index l.definitions))
