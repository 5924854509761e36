use Rattle.std.proofs.Common.{refl, sym, ◌∙◌}
use Rattle.cs_grammar.specs.View.{declaration_view, declarations_view}
use Rattle.cs_plain.proofs.Walks.{none_more, one_here, none_at_all}
use Rattle.cs_selectors.specs.Checks.{seen_has}
use Rattle.cs_selectors.specs.Having.{declarations_have}
use Rattle.cs_selectors.proofs.Parts.{has_parts}
use Rattle.cs_selectors.proofs.having.+has.Goals as goal

pub declarations_have-returns-then-declaration_has : goal.declarations_have-returns-then-declaration_has
declarations_have-returns-then-declaration_has t c =
    one_here (λ xs. declarations_have (declarations_view xs)) (λ d. seen_has (declaration_view d)) has_parts c.args.declarations.now c.loop-declaration.declaration-index c.loop-declaration.invariant
    c.declaration-item.result c.loop-declaration-test.true c.declaration-item.is (sym c.declaration_has.ensures ∙ c.if-declaration_has.true)

pub declarations_have-loop-declaration-preserved : goal.declarations_have-loop-declaration-preserved
declarations_have-loop-declaration-preserved t c =
    none_more (λ xs. declarations_have (declarations_view xs)) (λ d. seen_has (declaration_view d)) has_parts c.args.declarations.now c.loop-declaration.declaration-index c.loop-declaration.invariant
    c.declaration-item.result c.loop-declaration-test.true c.declaration-item.is (sym c.declaration_has.ensures ∙ c.if-declaration_has.false)

pub declarations_have-returns : goal.declarations_have-returns
declarations_have-returns t c =
    none_at_all (λ xs. declarations_have (declarations_view xs)) (λ d. seen_has (declaration_view d)) has_parts c.args.declarations.now c.loop-declaration.declaration-index c.loop-declaration.invariant
    refl c.loop-declaration-test.false
