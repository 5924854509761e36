use Rattle.std.proofs.Common.{◌≡◌, drop}
use Rattle.cs_grammar.specs.View.{exprs_view, fields_view, declarations_view}
use Rattle.cs_embeddings.specs.Shut as Spec
use Rattle.cs_embeddings.proofs.shut.+shut.Given as goal

-- none so far is shut
abbrev pub invariant-some_shut-loop-expr : goal.invariant-some_shut-loop-expr
invariant-some_shut-loop-expr l = Spec.some_shut l.deep (exprs_view l.exprs) ≡ Spec.some_shut l.deep (exprs_view (drop l.expr-index l.exprs))

abbrev pub invariant-fields_shut-loop-field : goal.invariant-fields_shut-loop-field
invariant-fields_shut-loop-field l = Spec.fields_shut l.deep (fields_view l.fields) ≡ Spec.fields_shut l.deep (fields_view (drop l.field-index l.fields))

abbrev pub invariant-declarations_shut-loop-declaration : goal.invariant-declarations_shut-loop-declaration
invariant-declarations_shut-loop-declaration l =
    Spec.declarations_shut l.deep (declarations_view l.declarations)
    ≡ Spec.declarations_shut l.deep (declarations_view (drop l.declaration-index l.declarations))
