use Rattle.std.proofs.Common.{[], ◌∷◌, ◌++◌, map, take, sym, ap, ◌∙◌}
use Rattle.std.proofs.lemmas.List.{map-append, take_all}
use Rattle.std.specs.Borrow.{Bor}
use Rattle.cs_grammar.specs.View.{expr_view, trees_of}
use Rattle.cs_grammar.specs.declared.ast.Expr.{Expr}
use Rattle.cs_embeddings.specs.Checks.{bodies_view}
use Rattle.cs_embeddings.proofs.Parts.{take_at}
use Rattle.cs_embeddings.proofs.joined.Joiner.borrowed.Goals as goal

pub loop-expr-init : goal.loop-expr-init
loop-expr-init c = ap bodies_view c.in_ok-borrowed.ensures.items

pub loop-expr-preserved : goal.loop-expr-preserved
loop-expr-preserved c =
    let xs = c.args.exprs.now in let i = c.loop-expr.expr-index in let x = c.expr-item.result in
    ap bodies_view c.in_ok-push.ensures.items
    ∙ map-append (λ (e : Bor Expr). expr_view e.now) c.loop-expr.borrowed.items _
    ∙ ap (λ ts. ts ++ expr_view x ∷ []) c.loop-expr.invariant
    ∙ sym (ap (map expr_view) (take_at xs i x c.loop-expr-test.true c.expr-item.is) ∙ map-append expr_view (take i xs) (x ∷ []))

pub returns : goal.returns
returns c =
    let xs = c.args.exprs.now in let i = c.loop-expr.expr-index in
    ap trees_of (c.loop-expr.invariant ∙ ap (map expr_view) (take_all i xs c.loop-expr-test.false))
