use Rattle.std.proofs.Common.{cond, sym, ap, ◌∙◌}
use Rattle.cs_grammar.specs.Tree.{paren}
use Rattle.cs_grammar.specs.View.{expr_view}
use Rattle.cs_plain.specs.Selecting.{referring}
use Rattle.cs_selectors.proofs.replaced.Referring.operand.Goals as goal

pub returns-then-is_single : goal.returns-then-is_single
returns-then-is_single c by tells =
    let e = expr_view c.args.value.now in
    c.in_ok-referring.ensures by tells ∙ ap (λ b. referring by (cond b e (paren e))) (sym c.if-is_single.true ∙ c.is_single.ensures)
