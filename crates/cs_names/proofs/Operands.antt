-- Operands of `&` that are embedded.
use Rattle.std.proofs.Common.{◌≡◌, List, [], ◌∷◌, map, length, refl, ap}
use Rattle.cs_grammar.specs.View.{expr_view, exprs_view, SeenDeclaration, embedding_seen, declarations_of}
use Rattle.cs_grammar.specs.Tree.{embedded}
use Rattle.cs_grammar.specs.declared.ast.Expr.{Expr}
use Rattle.cs_names.specs.Named.{beginning, embedding}

-- an operand, embedded
abbrev pub embedding_of : Expr → SeenDeclaration
embedding_of e = embedding_seen (beginning (expr_view e)) (expr_view e)

pub all_embedded : (es : List Expr) → declarations_of (map embedding_of es) ≡ embedding (exprs_view es)
all_embedded [] = refl
all_embedded (e ∷ es) = ap (embedded (beginning (expr_view e)) (expr_view e)) (all_embedded es)

pub nothing_left : {A : Type 0} (xs : List A) → length xs ≡ 0 → xs ≡ []
nothing_left [] e = refl
nothing_left (x ∷ xs) e = cc
