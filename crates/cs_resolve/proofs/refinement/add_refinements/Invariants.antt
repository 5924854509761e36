use Rattle.std.proofs.Common.{◌≡◌, ℕ, true, List, take}
use Rattle.std.specs.List.{list_any}
use Rattle.std.specs.Str.{bytes_eq}
use Rattle.cs_grammar.specs.Tree.{DefinitionTree}
use Rattle.cs_resolve.specs.Narrowed.{HoldsSole, Has, Sound, Grown, Refines}
use Rattle.cs_resolve.proofs.refinement.add_refinements.Given as goal

abbrev pub invariant-loop-name : goal.invariant-loop-name
invariant-loop-name l =
    Grown l.fn.bases l.bases
    × ((ds : List DefinitionTree) → HoldsSole l.bodies ds → Sound ds l.fn.bases
    → Sound ds l.bases × ((m n : List ℕ) → list_any (λ k. bytes_eq n k.now) (take l.name-index l.name-items) ≡ true → Has l.fn.bases m → Refines ds n m → Has l.bases n))
