use Rattle.std.proofs.Common.{sym, ◌∙◌}
use Rattle.cs_grammar.specs.View.{declaration_view, declarations_view}
use Rattle.cs_conditions.specs.Checks.{asked_in, asked_with}
use Rattle.cs_conditions.proofs.Parts.{asked_on, asked_parts, asked_done}
use Rattle.cs_conditions.proofs.Walks.{carried_more, carried}
use Rattle.cs_conditions.proofs.known.Known.asked.Goals as goal

pub loop-declaration-preserved : goal.loop-declaration-preserved
loop-declaration-preserved c known tells s =
    carried_more (λ a xs. asked_on known s a (declarations_view xs)) (λ a d. asked_with known s a (declaration_view d)) (asked_parts known s)
    c.args.declarations.now c.loop-declaration.declaration-index (asked_in c.loop-declaration.asked s) _ (c.loop-declaration.invariant known tells s)
    c.declaration-item.result _ c.loop-declaration-test.true c.declaration-item.is (c.in_ok-add_declaration.ensures known tells s)

pub returns : goal.returns
returns c known tells s =
    sym (carried (λ a xs. asked_on known s a (declarations_view xs)) (λ a d. asked_with known s a (declaration_view d)) (asked_parts known s)
    c.args.declarations.now c.loop-declaration.declaration-index (asked_in c.loop-declaration.asked s) _ (c.loop-declaration.invariant known tells s) c.loop-declaration-test.false
    ∙ asked_done known s (asked_in c.loop-declaration.asked s))
