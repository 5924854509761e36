use Rattle.std.proofs.Common.{◌≡◌, ℕ, Bool, List, Option, drop}
use Rattle.cs_grammar.specs.Tree.{Tree}
use Rattle.cs_grammar.specs.View.{fields_view}
use Rattle.cs_plain.specs.Checks.{TellsPlacing}
use Rattle.cs_plain.specs.Placed as Spec
use Rattle.cs_plain.proofs.placed.Placing.fields_hide.Given as goal

abbrev pub invariant-loop-field : goal.invariant-loop-field
invariant-loop-field l = (value : List ℕ → Option Tree) (hides : List ℕ → Bool) → TellsPlacing l.self value hides
    → Spec.fields_hide value hides (fields_view l.fields) ≡ Spec.fields_hide value hides (fields_view (drop l.field-index l.fields))
