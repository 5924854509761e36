use Rattle.std.proofs.Common.{List}
use Rattle.cs_grammar.specs.Tree.{DefinitionTree}
use Rattle.cs_resolve.specs.Narrowed.{HoldsSole, Sound, Grown, AreClassified, Closed}
use Rattle.cs_resolve.proofs.refinement.find_refinements.Given as goal

abbrev pub invariant-loop-place : goal.invariant-loop-place
invariant-loop-place l =
    Grown l.fn.bases l.bases
    × ((ds : List DefinitionTree) → HoldsSole l.bodies ds → AreClassified ds l.fn.bases l.refiners → Sound ds l.fn.bases → Sound ds l.bases × Closed ds l.bases l.place)
