use Rattle.std.proofs.Common.{◌≡◌, drop}
use Rattle.cs_grammar.specs.View.{exprs_view, fields_view}
use Rattle.cs_embeddings.specs.Shut as Spec
use Rattle.cs_embeddings.proofs.shut.+open.Given as goal

-- all so far are open
abbrev pub invariant-are_open-loop-expr : goal.invariant-are_open-loop-expr
invariant-are_open-loop-expr l = Spec.are_open (exprs_view l.exprs) ≡ Spec.are_open (exprs_view (drop l.expr-index l.exprs))

abbrev pub invariant-fields_open-loop-field : goal.invariant-fields_open-loop-field
invariant-fields_open-loop-field l = Spec.fields_open (fields_view l.fields) ≡ Spec.fields_open (fields_view (drop l.field-index l.fields))
