use Rattle.std.proofs.Common.{◌≡◌, drop, map, take}
use Rattle.cs_grammar.specs.View.{expr_view, exprs_view}
use Rattle.cs_plain.specs.Plain as Spec
use Rattle.cs_plain.proofs.plain.singles.Given as goal

-- those so far are copied, and all are so where those that are left are
abbrev pub invariant-loop-expr : goal.invariant-loop-expr
invariant-loop-expr l = record {
  copied : map expr_view l.copies.items ≡ map expr_view (take l.expr-index l.exprs);
  left : Spec.are_single (exprs_view l.exprs) ≡ Spec.are_single (exprs_view (drop l.expr-index l.exprs));
}
