use Rattle.std.proofs.Common.{◌≡◌, ◌++◌, map, take}
use Rattle.cs_grammar.specs.View.{exprs_view, fields_view, declarations_view}
use Rattle.cs_selectors.specs.Checks.{use_view}
use Rattle.cs_selectors.specs.Uses as Spec
use Rattle.cs_selectors.proofs.uses.+uses.Given as goal

abbrev pub invariant-add_each-loop-expr : goal.invariant-add_each-loop-expr
invariant-add_each-loop-expr l = map use_view l.found.items ≡ map use_view l.initial.found.items ++ Spec.uses_each l.file (exprs_view (take l.expr-index l.exprs))

abbrev pub invariant-add_fields-loop-field : goal.invariant-add_fields-loop-field
invariant-add_fields-loop-field l = map use_view l.found.items ≡ map use_view l.initial.found.items ++ Spec.uses_fields l.file (fields_view (take l.field-index l.fields))

abbrev pub invariant-add_declarations-loop-declaration : goal.invariant-add_declarations-loop-declaration
invariant-add_declarations-loop-declaration l = map use_view l.found.items ≡ map use_view l.initial.found.items ++ Spec.uses_declarations l.file (declarations_view (take l.declaration-index l.declarations))
