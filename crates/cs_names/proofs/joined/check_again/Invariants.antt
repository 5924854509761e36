use Rattle.std.proofs.Common.{◌≡◌, [], map, take, drop}
use Rattle.cs_plain.specs.References.{TellsTexts}
use Rattle.cs_names.specs.Checks.{lifted_view}
use Rattle.cs_names.specs.Joined as Spec
use Rattle.cs_names.proofs.Found.{inner_texts}
use Rattle.cs_names.proofs.joined.check_again.Given as goal

abbrev pub invariant-loop-lifted : goal.invariant-loop-lifted
invariant-loop-lifted l = (TellsTexts l.seen (inner_texts (map lifted_view (take l.lifted-index l.lifted-items)))) × (Spec.again [] (map lifted_view l.lifted-items) ≡ Spec.again (inner_texts (map lifted_view (take l.lifted-index l.lifted-items))) (map lifted_view (drop l.lifted-index l.lifted-items)))
