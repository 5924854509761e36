use Rattle.std.proofs.Common.{◌≡◌, drop}
use Rattle.std.specs.Prelude.{nat_le}
use Rattle.cs_grammar.specs.View.{exprs_view, fields_view, declarations_view}
use Rattle.cs_grammar.specs.Height.{height_all, height_fields, height_declarations}
use Rattle.cs_syntax.proofs.parser.height.+height.Given as goal

abbrev pub invariant-are_low-loop-expr : goal.invariant-are_low-loop-expr
invariant-are_low-loop-expr l = nat_le (height_all (exprs_view (drop l.expr-index l.expr-items))) l.limit ≡ nat_le (height_all (exprs_view l.expr-items)) l.limit

abbrev pub invariant-are_low_fields-loop-field : goal.invariant-are_low_fields-loop-field
invariant-are_low_fields-loop-field l = nat_le (height_fields (fields_view (drop l.field-index l.field-items))) l.limit ≡ nat_le (height_fields (fields_view l.field-items)) l.limit

abbrev pub invariant-are_low_declarations-loop-declaration : goal.invariant-are_low_declarations-loop-declaration
invariant-are_low_declarations-loop-declaration l = nat_le (height_declarations (declarations_view (drop l.declaration-index l.declaration-items))) l.limit ≡ nat_le (height_declarations (declarations_view l.declaration-items)) l.limit
