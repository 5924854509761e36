use Rattle.std.proofs.Common.{◌≡◌, ℕ, List, drop}
use Rattle.cs_grammar.specs.View.{fields_view}
use Rattle.cs_resolve.specs.Refinement as Refinement
use Rattle.cs_resolve.specs.Narrowed.{HoldsTexts}
use Rattle.cs_resolve.proofs.narrowing.narrows.Given as goal

abbrev pub invariant-loop-field : goal.invariant-loop-field
invariant-loop-field l = (ls : List (List ℕ)) → HoldsTexts l.labels ls → Refinement.narrows (fields_view l.field-items) ls ≡ Refinement.narrows (fields_view (drop l.field-index l.field-items)) ls
