use Rattle.std.proofs.Common.{◌≡◌, ℕ, Bool, List, Option, drop}
use Rattle.cs_grammar.specs.Tree.{Tree}
use Rattle.cs_grammar.specs.View.{declarations_view}
use Rattle.cs_plain.specs.Checks.{TellsPlacing}
use Rattle.cs_plain.specs.Placed as Spec
use Rattle.cs_plain.proofs.placed.Placing.declarations_hide.Given as goal

abbrev pub invariant-loop-declaration : goal.invariant-loop-declaration
invariant-loop-declaration l = (value : List ℕ → Option Tree) (hides : List ℕ → Bool) → TellsPlacing l.self value hides
    → Spec.declarations_hide value hides (declarations_view l.declarations) ≡ Spec.declarations_hide value hides (declarations_view (drop l.declaration-index l.declarations))
