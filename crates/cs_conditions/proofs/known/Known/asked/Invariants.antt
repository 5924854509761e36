use Rattle.std.proofs.Common.{◌≡◌, ℕ, List, drop}
use Rattle.cs_grammar.specs.View.{declarations_view}
use Rattle.cs_conditions.specs.Asked as Spec
use Rattle.cs_conditions.specs.Checks.{TellsKnown, asked_in}
use Rattle.cs_conditions.specs.Known.{Knowledge}
use Rattle.cs_conditions.proofs.Parts.{asked_on}
use Rattle.cs_conditions.proofs.known.Known.asked.Given as goal

-- what is in the table so far, and what the declarations say that are left
abbrev pub invariant-loop-declaration : goal.invariant-loop-declaration
invariant-loop-declaration l = (known : Knowledge) → TellsKnown l.self known → (s : List ℕ)
    → Spec.asked known s (declarations_view l.declarations) ≡ asked_on known s (asked_in l.asked s) (declarations_view (drop l.declaration-index l.declarations))
