use Rattle.std.proofs.Common.{◌≡◌, ℕ, Some, List, take}
use Rattle.std.specs.Borrow.{Bor}
use Rattle.std.specs.Map.{lookup}
use Rattle.std.specs.Str.{bytes_eq}
use Rattle.cs_grammar.specs.Tree.{DefinitionTree}
use Rattle.cs_grammar.specs.View.{expr_view}
use Rattle.cs_grammar.specs.declared.ast.Expr.{Expr}
use Rattle.cs_resolve.specs.Narrowed.{HoldsSole, Sound, IsClassified}
use Rattle.cs_resolve.proofs.refinement.classify_bodies.Given as goal

abbrev pub invariant-loop-place : goal.invariant-loop-place
invariant-loop-place l =
    (ds : List DefinitionTree) → HoldsSole l.bodies ds → Sound ds l.fn.bases
    → Sound ds l.bases × ((n : List ℕ) (e : Bor Expr) → lookup (λ k. bytes_eq n k.now) (take l.place l.bodies.entries) ≡ Some (Some e) → IsClassified l.bases l.refiners n (expr_view e.now))
