use Rattle.std.proofs.Common.{◌≡◌, drop, map}
use Rattle.std.specs.List.{flat_map}
use Rattle.cs_resolve.specs.Opening.{named_bodies}
use Rattle.cs_resolve.specs.Unopened.{unopened_from}
use Rattle.cs_resolve.specs.Refinement.{Refinements}
use Rattle.cs_resolve.specs.Narrowed.{TellsRefinements}
use Rattle.cs_grammar.specs.Tree.{definitions}
use Rattle.cs_grammar.specs.View.{file_view}
use Rattle.cs_resolve.proofs.opening.check_opened.Given as goal

abbrev pub invariant-loop-number : goal.invariant-loop-number
invariant-loop-number l = (rs : Refinements) → TellsRefinements l.bases rs → unopened_from rs 0 (named_bodies (flat_map definitions (map file_view l.file-items))) (map file_view l.file-items) ≡ unopened_from rs l.number (named_bodies (flat_map definitions (map file_view l.file-items))) (map file_view (drop l.number l.file-items))
