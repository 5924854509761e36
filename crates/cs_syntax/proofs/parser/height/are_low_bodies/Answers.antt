use Rattle.std.proofs.Common.{map, refl, sym, ap, ◌∙◌}
use Rattle.std.specs.Prelude.{nat_le}
use Rattle.cs_grammar.specs.View.{expr_view, definition_view}
use Rattle.cs_grammar.specs.Height.{height, height_definitions}
use Rattle.cs_syntax.proofs.Heights.{low_one, high_one, low_all}
use Rattle.cs_syntax.proofs.parser.height.are_low_bodies.Goals as goal

pub returns-then-not-is_low : goal.returns-then-not-is_low
returns-then-not-is_low c =
    let ds = c.deref-definition-items.result.now in
    sym (high_one (λ d. height (expr_view d.body)) (λ ds. height_definitions (map definition_view ds)) refl (λ x xs. refl) ds c.loop-definition.definition-index c.args.limit c.definition-item.result c.loop-definition-test.true c.definition-item.is (sym c.if-not-is_low.ensures)) ∙ c.loop-definition.invariant ∙ ap (λ xs. nat_le (height_definitions (map definition_view xs)) c.args.limit) c.deref-definition-items.ensures.value

pub loop-definition-preserved : goal.loop-definition-preserved
loop-definition-preserved c =
    let ds = c.deref-definition-items.result.now in
    low_one (λ d. height (expr_view d.body)) (λ ds. height_definitions (map definition_view ds)) refl (λ x xs. refl) ds c.loop-definition.definition-index c.args.limit c.definition-item.result c.loop-definition-test.true c.definition-item.is (sym c.if-not-is_low.ensures) ∙ c.loop-definition.invariant

pub returns : goal.returns
returns c =
    let ds = c.deref-definition-items.result.now in
    sym (low_all (λ d. height (expr_view d.body)) (λ ds. height_definitions (map definition_view ds)) refl (λ x xs. refl) ds c.loop-definition.definition-index c.args.limit c.loop-definition-test.false) ∙ c.loop-definition.invariant ∙ ap (λ xs. nat_le (height_definitions (map definition_view xs)) c.args.limit) c.deref-definition-items.ensures.value
