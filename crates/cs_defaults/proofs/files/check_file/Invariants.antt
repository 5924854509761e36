use Rattle.std.proofs.Common.{◌≡◌, ℕ, Bool, List, drop, map}
use Rattle.std.specs.List.{flat_map}
use Rattle.cs_grammar.specs.Tree.{body}
use Rattle.cs_grammar.specs.View.{definition_view}
use Rattle.cs_defaults.specs.Absent.{clashes}
use Rattle.cs_defaults.specs.Checks.{TellsHanding}
use Rattle.cs_defaults.proofs.files.check_file.Given as goal

abbrev pub invariant-loop-definition : goal.invariant-loop-definition
invariant-loop-definition l = (has : List ℕ → Bool) → TellsHanding l.clashes.handing.now has → flat_map (λ d. clashes has (body d)) (map definition_view l.definitions) ≡ flat_map (λ d. clashes has (body d)) (map definition_view (drop l.definition-index l.definitions))
