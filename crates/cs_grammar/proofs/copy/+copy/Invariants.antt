use Rattle.std.proofs.Common.{◌≡◌, map, take}
use Rattle.cs_grammar.specs.View.{expr_view, field_view, declaration_view}
use Rattle.cs_grammar.proofs.copy.+copy.Given as goal

abbrev pub invariant-copied_each-loop-expr : goal.invariant-copied_each-loop-expr
invariant-copied_each-loop-expr l = map expr_view l.copies.items ≡ map expr_view (take l.expr-index l.exprs)

abbrev pub invariant-copied_fields-loop-field : goal.invariant-copied_fields-loop-field
invariant-copied_fields-loop-field l = map field_view l.copies.items ≡ map field_view (take l.field-index l.fields)

abbrev pub invariant-copied_declarations-loop-declaration : goal.invariant-copied_declarations-loop-declaration
invariant-copied_declarations-loop-declaration l = map declaration_view l.copies.items ≡ map declaration_view (take l.declaration-index l.declarations)
