use Rattle.std.proofs.Common.{refl, sym, ap, ◌∙◌}
use Rattle.std.specs.Prelude.{nat_le, max, ◌&&◌, ◌-◌}
use Rattle.cs_grammar.specs.View.{expr_view, exprs_view, fields_view, declaration_view, declarations_view, end_view}
use Rattle.cs_grammar.specs.Height.{height, height_all, height_fields, height_declarations, height_end}
use Rattle.cs_syntax.specs.SeenHeight.{declaration_height}
use Rattle.cs_grammar.proofs.Views.{view-And, view-Or, view-Paren, view-Struct, view-List, view-Closed, view-Any, view-Each}
use Rattle.cs_syntax.proofs.Heights.{low_one, high_one, low_all, field_parts, declaration_parts, no_height, one_more, positive, nothing_high, within_both}
use Rattle.cs_syntax.proofs.parser.height.+height.Goals as goal

pub are_low-returns-then-not-is_low : goal.are_low-returns-then-not-is_low
are_low-returns-then-not-is_low t c =
    let es = c.deref-expr-items.result.now in
    sym (high_one (λ e. height (expr_view e)) (λ es. height_all (exprs_view es)) refl (λ x xs. refl) es c.loop-expr.expr-index c.args.limit c.expr-item.result c.loop-expr-test.true c.expr-item.is (sym c.if-not-is_low.ensures)) ∙ c.loop-expr.invariant ∙ ap (λ xs. nat_le (height_all (exprs_view xs)) c.args.limit) c.deref-expr-items.ensures.value

pub are_low-loop-expr-preserved : goal.are_low-loop-expr-preserved
are_low-loop-expr-preserved t c =
    let es = c.deref-expr-items.result.now in
    low_one (λ e. height (expr_view e)) (λ es. height_all (exprs_view es)) refl (λ x xs. refl) es c.loop-expr.expr-index c.args.limit c.expr-item.result c.loop-expr-test.true c.expr-item.is (sym c.if-not-is_low.ensures) ∙ c.loop-expr.invariant

pub are_low-returns : goal.are_low-returns
are_low-returns t c =
    let es = c.deref-expr-items.result.now in
    sym (low_all (λ e. height (expr_view e)) (λ es. height_all (exprs_view es)) refl (λ x xs. refl) es c.loop-expr.expr-index c.args.limit c.loop-expr-test.false) ∙ c.loop-expr.invariant ∙ ap (λ xs. nat_le (height_all (exprs_view xs)) c.args.limit) c.deref-expr-items.ensures.value

pub are_low_fields-returns-then-not-is_low : goal.are_low_fields-returns-then-not-is_low
are_low_fields-returns-then-not-is_low t c =
    let es = c.deref-field-items.result.now in
    sym (high_one (λ f. height (expr_view f.value)) (λ fs. height_fields (fields_view fs)) refl field_parts es c.loop-field.field-index c.args.limit c.field-item.result c.loop-field-test.true c.field-item.is (sym c.if-not-is_low.ensures)) ∙ c.loop-field.invariant ∙ ap (λ xs. nat_le (height_fields (fields_view xs)) c.args.limit) c.deref-field-items.ensures.value

pub are_low_fields-loop-field-preserved : goal.are_low_fields-loop-field-preserved
are_low_fields-loop-field-preserved t c =
    let es = c.deref-field-items.result.now in
    low_one (λ f. height (expr_view f.value)) (λ fs. height_fields (fields_view fs)) refl field_parts es c.loop-field.field-index c.args.limit c.field-item.result c.loop-field-test.true c.field-item.is (sym c.if-not-is_low.ensures) ∙ c.loop-field.invariant

pub are_low_fields-returns : goal.are_low_fields-returns
are_low_fields-returns t c =
    let es = c.deref-field-items.result.now in
    sym (low_all (λ f. height (expr_view f.value)) (λ fs. height_fields (fields_view fs)) refl field_parts es c.loop-field.field-index c.args.limit c.loop-field-test.false) ∙ c.loop-field.invariant ∙ ap (λ xs. nat_le (height_fields (fields_view xs)) c.args.limit) c.deref-field-items.ensures.value

pub are_low_declarations-returns-then-not-is_low_declaration : goal.are_low_declarations-returns-then-not-is_low_declaration
are_low_declarations-returns-then-not-is_low_declaration t c =
    let ds = c.deref-declaration-items.result.now in
    sym (high_one (λ d. declaration_height (declaration_view d)) (λ ds. height_declarations (declarations_view ds)) refl declaration_parts ds c.loop-declaration.declaration-index c.args.limit c.declaration-item.result c.loop-declaration-test.true c.declaration-item.is (sym c.if-not-is_low_declaration.ensures)) ∙ c.loop-declaration.invariant ∙ ap (λ xs. nat_le (height_declarations (declarations_view xs)) c.args.limit) c.deref-declaration-items.ensures.value

pub are_low_declarations-loop-declaration-preserved : goal.are_low_declarations-loop-declaration-preserved
are_low_declarations-loop-declaration-preserved t c =
    let ds = c.deref-declaration-items.result.now in
    low_one (λ d. declaration_height (declaration_view d)) (λ ds. height_declarations (declarations_view ds)) refl declaration_parts ds c.loop-declaration.declaration-index c.args.limit c.declaration-item.result c.loop-declaration-test.true c.declaration-item.is (sym c.if-not-is_low_declaration.ensures) ∙ c.loop-declaration.invariant

pub are_low_declarations-returns : goal.are_low_declarations-returns
are_low_declarations-returns t c =
    let ds = c.deref-declaration-items.result.now in
    sym (low_all (λ d. declaration_height (declaration_view d)) (λ ds. height_declarations (declarations_view ds)) refl declaration_parts ds c.loop-declaration.declaration-index c.args.limit c.loop-declaration-test.false) ∙ c.loop-declaration.invariant ∙ ap (λ xs. nat_le (height_declarations (declarations_view xs)) c.args.limit) c.deref-declaration-items.ensures.value

pub is_low-returns-then-limit-eq0 : goal.is_low-returns-then-limit-eq0
is_low-returns-then-limit-eq0 t c = sym (no_height (expr_view c.args.expr.now) c.args.limit c.if-limit-eq0.true)

pub is_low-returns-in-And : goal.is_low-returns-in-And
is_low-returns-in-And t c = c.are_low.ensures ∙ sym (one_more (height_all (exprs_view c.in-And.operands.items)) c.args.limit (positive c.args.limit c.if-limit-eq0.false)) ∙ ap (λ e. nat_le (height e) c.args.limit) (sym (ap expr_view c.in-And.is ∙ view-And c.in-And.operands))

pub is_low-returns-in-Or : goal.is_low-returns-in-Or
is_low-returns-in-Or t c = c.are_low-in-Or.ensures ∙ sym (one_more (height_all (exprs_view c.in-Or.operands.items)) c.args.limit (positive c.args.limit c.if-limit-eq0.false)) ∙ ap (λ e. nat_le (height e) c.args.limit) (sym (ap expr_view c.in-Or.is ∙ view-Or c.in-Or.operands))

pub is_low-returns-in-Struct : goal.is_low-returns-in-Struct
is_low-returns-in-Struct t c = c.are_low_fields.ensures ∙ sym (one_more (height_fields (fields_view c.in-Struct.fields.items)) c.args.limit (positive c.args.limit c.if-limit-eq0.false)) ∙ ap (λ e. nat_le (height e) c.args.limit) (sym (ap expr_view c.in-Struct.is ∙ view-Struct c.in-Struct.at c.in-Struct.fields c.in-Struct.opened))

pub is_low-returns-in-Paren : goal.is_low-returns-in-Paren
is_low-returns-in-Paren t c = c.is_low.ensures ∙ ap (λ e. nat_le (height (expr_view e)) (c.args.limit - 1)) c.deref.ensures ∙ sym (one_more (height (expr_view c.in-Paren.kept.value)) c.args.limit (positive c.args.limit c.if-limit-eq0.false)) ∙ ap (λ e. nat_le (height e) c.args.limit) (sym (ap expr_view c.in-Paren.is ∙ view-Paren c.in-Paren.kept))

pub is_low-returns-then-are_low : goal.is_low-returns-then-are_low
is_low-returns-then-are_low t c =
    let a = height_all (exprs_view c.in-List.front.items) in
    let b = height_end (end_view c.in-List.end) in
    let k = c.args.limit - 1 in
    c.is_low_end.ensures ∙ ap (λ x. x && nat_le b k) c.if-are_low.ensures ∙ sym (within_both a b k) ∙ sym (one_more (max a b) c.args.limit (positive c.args.limit c.if-limit-eq0.false)) ∙ ap (λ e. nat_le (height e) c.args.limit) (sym (ap expr_view c.in-List.is ∙ view-List c.in-List.front c.in-List.end))

pub is_low-returns-else-are_low : goal.is_low-returns-else-are_low
is_low-returns-else-are_low t c =
    let a = height_all (exprs_view c.in-List.front.items) in
    let b = height_end (end_view c.in-List.end) in
    let k = c.args.limit - 1 in
    c.are_low-in-List.ensures ∙ sym c.if-are_low.ensures ∙ ap (λ x. x && nat_le b k) c.if-are_low.ensures ∙ sym (within_both a b k) ∙ sym (one_more (max a b) c.args.limit (positive c.args.limit c.if-limit-eq0.false)) ∙ ap (λ e. nat_le (height e) c.args.limit) (sym (ap expr_view c.in-List.is ∙ view-List c.in-List.front c.in-List.end))

pub is_low_end-returns-in-Each : goal.is_low_end-returns-in-Each
is_low_end-returns-in-Each t c = c.is_low.ensures ∙ ap (λ e. nat_le (height (expr_view e)) c.args.limit) c.deref.ensures ∙ ap (λ e. nat_le (height_end e) c.args.limit) (sym (ap end_view c.in-Each.is ∙ view-Each c.in-Each.each))

pub is_low_end-returns-in-Closed : goal.is_low_end-returns-in-Closed
is_low_end-returns-in-Closed t c = sym (nothing_high c.args.limit) ∙ ap (λ e. nat_le (height_end e) c.args.limit) (sym (ap end_view c.in-Closed.is ∙ view-Closed))

pub is_low_end-returns-in-Any : goal.is_low_end-returns-in-Any
is_low_end-returns-in-Any t c = sym (nothing_high c.args.limit) ∙ ap (λ e. nat_le (height_end e) c.args.limit) (sym (ap end_view c.in-Any.is ∙ view-Any))
