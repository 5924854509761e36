use Rattle.std.proofs.Common.{◌&&◌, ap, refl, sym, ◌∙◌}
use Rattle.cs_grammar.specs.View.{expr_view, exprs_view, fields_view}
use Rattle.cs_grammar.proofs.Views.{view-value}
use Rattle.cs_embeddings.specs.Shut.{is_open, are_open, fields_open}
use Rattle.cs_embeddings.proofs.Walks.{well_more, one_ill, all_well}
use Rattle.cs_embeddings.proofs.shut.+open.Goals as goal

pub are_open-returns-then-not-is_open : goal.are_open-returns-then-not-is_open
are_open-returns-then-not-is_open t c =
    one_ill (λ es. are_open (exprs_view es)) (λ e. is_open (expr_view e)) (λ e es. refl) c.args.exprs.now c.loop-expr.expr-index c.loop-expr.invariant
    c.expr-item.result c.loop-expr-test.true c.expr-item.is (sym c.is_open.ensures ∙ c.if-not-is_open.true)

pub are_open-loop-expr-preserved : goal.are_open-loop-expr-preserved
are_open-loop-expr-preserved t c =
    well_more (λ es. are_open (exprs_view es)) (λ e. is_open (expr_view e)) (λ e es. refl) c.args.exprs.now c.loop-expr.expr-index c.loop-expr.invariant
    c.expr-item.result c.loop-expr-test.true c.expr-item.is (sym c.is_open.ensures ∙ c.if-not-is_open.false)

pub are_open-returns : goal.are_open-returns
are_open-returns t c =
    all_well (λ es. are_open (exprs_view es)) (λ e. is_open (expr_view e)) (λ e es. refl) c.args.exprs.now c.loop-expr.expr-index c.loop-expr.invariant
    refl c.loop-expr-test.false

pub fields_open-returns-then-not-is_open : goal.fields_open-returns-then-not-is_open
fields_open-returns-then-not-is_open t c =
    one_ill (λ fs. fields_open (fields_view fs)) (λ f. is_open (expr_view f.value)) (λ f fs. ap (λ e. is_open e && fields_open (fields_view fs)) (view-value f)) c.args.fields.now c.loop-field.field-index c.loop-field.invariant
    c.field-item.result c.loop-field-test.true c.field-item.is (sym c.is_open.ensures ∙ c.if-not-is_open.true)

pub fields_open-loop-field-preserved : goal.fields_open-loop-field-preserved
fields_open-loop-field-preserved t c =
    well_more (λ fs. fields_open (fields_view fs)) (λ f. is_open (expr_view f.value)) (λ f fs. ap (λ e. is_open e && fields_open (fields_view fs)) (view-value f)) c.args.fields.now c.loop-field.field-index c.loop-field.invariant
    c.field-item.result c.loop-field-test.true c.field-item.is (sym c.is_open.ensures ∙ c.if-not-is_open.false)

pub fields_open-returns : goal.fields_open-returns
fields_open-returns t c =
    all_well (λ fs. fields_open (fields_view fs)) (λ f. is_open (expr_view f.value)) (λ f fs. ap (λ e. is_open e && fields_open (fields_view fs)) (view-value f)) c.args.fields.now c.loop-field.field-index c.loop-field.invariant
    refl c.loop-field-test.false
