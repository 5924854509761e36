use Rattle.std.proofs.Common.{◌≡◌, drop}
use Rattle.cs_grammar.specs.View.{exprs_view, declarations_view}
use Rattle.cs_embeddings.specs.Narrowed as Spec
use Rattle.cs_embeddings.specs.NarrowedTable.{base_has}
use Rattle.cs_embeddings.proofs.narrowed.Base.+narrows.Given as goal

abbrev pub invariant-each_narrows-loop-expr : goal.invariant-each_narrows-loop-expr
invariant-each_narrows-loop-expr l =
    Spec.each_narrows (base_has l.self) (exprs_view l.exprs) ≡ Spec.each_narrows (base_has l.self) (exprs_view (drop l.expr-index l.exprs))

abbrev pub invariant-declarations_narrow-loop-declaration : goal.invariant-declarations_narrow-loop-declaration
invariant-declarations_narrow-loop-declaration l =
    Spec.declarations_narrow (base_has l.self) (declarations_view l.declarations)
    ≡ Spec.declarations_narrow (base_has l.self) (declarations_view (drop l.declaration-index l.declarations))
