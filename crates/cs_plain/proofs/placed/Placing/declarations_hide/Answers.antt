use Rattle.std.proofs.Common.{refl, sym, ◌∙◌}
use Rattle.cs_grammar.specs.View.{declaration_view, declarations_view}
use Rattle.cs_plain.specs.Checks.{hides_seen}
use Rattle.cs_plain.specs.Placed.{declarations_hide}
use Rattle.cs_plain.proofs.Hiding.{hides_parts}
use Rattle.cs_plain.proofs.Walks.{none_more, one_here, none_at_all}
use Rattle.cs_plain.proofs.placed.Placing.declarations_hide.Goals as goal

pub returns-then-declaration_hides : goal.returns-then-declaration_hides
returns-then-declaration_hides c value hides told =
    one_here (λ xs. declarations_hide value hides (declarations_view xs)) (λ d. hides_seen value hides (declaration_view d)) (hides_parts value hides) c.args.declarations.now c.loop-declaration.declaration-index (c.loop-declaration.invariant value hides told)
    c.declaration-item.result c.loop-declaration-test.true c.declaration-item.is (sym (c.declaration_hides.ensures value hides told) ∙ c.if-declaration_hides.true)

pub loop-declaration-preserved : goal.loop-declaration-preserved
loop-declaration-preserved c value hides told =
    none_more (λ xs. declarations_hide value hides (declarations_view xs)) (λ d. hides_seen value hides (declaration_view d)) (hides_parts value hides) c.args.declarations.now c.loop-declaration.declaration-index (c.loop-declaration.invariant value hides told)
    c.declaration-item.result c.loop-declaration-test.true c.declaration-item.is (sym (c.declaration_hides.ensures value hides told) ∙ c.if-declaration_hides.false)

pub returns : goal.returns
returns c value hides told =
    none_at_all (λ xs. declarations_hide value hides (declarations_view xs)) (λ d. hides_seen value hides (declaration_view d)) (hides_parts value hides) c.args.declarations.now c.loop-declaration.declaration-index (c.loop-declaration.invariant value hides told)
    refl c.loop-declaration-test.false
