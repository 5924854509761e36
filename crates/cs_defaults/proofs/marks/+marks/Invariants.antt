use Rattle.std.proofs.Common.{◌≡◌, drop}
use Rattle.cs_grammar.specs.View.{exprs_view, fields_view}
use Rattle.cs_defaults.specs.Marks.{misplaced_each, misplaced_operands, misplaced_fields}
use Rattle.cs_defaults.proofs.marks.+marks.Given as goal

abbrev pub invariant-check_each-loop-expr : goal.invariant-check_each-loop-expr
invariant-check_each-loop-expr l = misplaced_each l.are_whole (exprs_view l.exprs) ≡ misplaced_each l.are_whole (exprs_view (drop l.expr-index l.exprs))

abbrev pub invariant-check_fields-loop-field : goal.invariant-check_fields-loop-field
invariant-check_fields-loop-field l = misplaced_fields (fields_view l.fields) ≡ misplaced_fields (fields_view (drop l.field-index l.fields))

abbrev pub invariant-check_operands-loop-operand : goal.invariant-check_operands-loop-operand
invariant-check_operands-loop-operand l = misplaced_operands l.may_be_marked (exprs_view l.operands) ≡ misplaced_operands l.may_mark (exprs_view (drop l.operand-index l.operands))
