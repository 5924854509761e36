use Rattle.std.proofs.Common.{◌≡◌, drop}
use Rattle.cs_grammar.specs.View.{exprs_view, declarations_view}
use Rattle.cs_conditions.specs.Faults.{some_declares, declarations_declare}
use Rattle.cs_conditions.proofs.declares.+declares.Given as goal

abbrev pub invariant-some_declares-loop-expr : goal.invariant-some_declares-loop-expr
invariant-some_declares-loop-expr l = some_declares l.with_default l.label (exprs_view l.exprs) ≡ some_declares l.with_default l.label (exprs_view (drop l.expr-index l.exprs))

abbrev pub invariant-declarations_declare-loop-declaration : goal.invariant-declarations_declare-loop-declaration
invariant-declarations_declare-loop-declaration l =
    declarations_declare l.with_default l.label (declarations_view l.declarations) ≡ declarations_declare l.with_default l.label (declarations_view (drop l.declaration-index l.declarations))
