use Rattle.std.proofs.Common.{map, refl, sym, ap, ◌∙◌}
use Rattle.std.specs.Prelude.{nat_le}
use Rattle.cs_grammar.specs.View.{expr_view, name_view}
use Rattle.cs_grammar.specs.Height.{height, height_names}
use Rattle.cs_syntax.proofs.Heights.{low_one, high_one, low_all}
use Rattle.cs_syntax.proofs.parser.height.are_low_names.Goals as goal

pub returns-then-not-is_low : goal.returns-then-not-is_low
returns-then-not-is_low c =
    let ds = c.deref-name-items.result.now in
    sym (high_one (λ d. height (expr_view d.value)) (λ ds. height_names (map name_view ds)) refl (λ x xs. refl) ds c.loop-name.name-index c.args.limit c.name-item.result c.loop-name-test.true c.name-item.is (sym c.if-not-is_low.ensures)) ∙ c.loop-name.invariant ∙ ap (λ xs. nat_le (height_names (map name_view xs)) c.args.limit) c.deref-name-items.ensures.value

pub loop-name-preserved : goal.loop-name-preserved
loop-name-preserved c =
    let ds = c.deref-name-items.result.now in
    low_one (λ d. height (expr_view d.value)) (λ ds. height_names (map name_view ds)) refl (λ x xs. refl) ds c.loop-name.name-index c.args.limit c.name-item.result c.loop-name-test.true c.name-item.is (sym c.if-not-is_low.ensures) ∙ c.loop-name.invariant

pub returns : goal.returns
returns c =
    let ds = c.deref-name-items.result.now in
    sym (low_all (λ d. height (expr_view d.value)) (λ ds. height_names (map name_view ds)) refl (λ x xs. refl) ds c.loop-name.name-index c.args.limit c.loop-name-test.false) ∙ c.loop-name.invariant ∙ ap (λ xs. nat_le (height_names (map name_view xs)) c.args.limit) c.deref-name-items.ensures.value
