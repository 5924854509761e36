use Rattle.std.proofs.Common.{◌≡◌, ℕ, List, map, drop}
use Rattle.cs_plain.specs.References.{TellsTexts}
use Rattle.cs_names.specs.Checks.{lifted_view}
use Rattle.cs_names.specs.Joined as Spec
use Rattle.cs_names.proofs.joined.check_unused.Given as goal

abbrev pub invariant-loop-lifted : goal.invariant-loop-lifted
invariant-loop-lifted l = (ss : List (List ℕ)) → TellsTexts l.referred ss → Spec.unused ss (map lifted_view l.order) ≡ Spec.unused ss (map lifted_view (drop l.lifted-index l.order))
