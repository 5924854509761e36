use Rattle.std.proofs.Common.{◌≡◌, length, ◌+◌, ◌-◌, ◌*◌}
use Rattle.cs_grammar.specs.View.{expr_view, field_view, declaration_view}
use Rattle.cs_syntax.specs.Left.{left, with_front}
use Rattle.cs_syntax.specs.Reading.{inner, fields_with, declarations_with, elements_with, amps_with, bars_with}
use Rattle.cs_syntax.proofs.parser.place.Parser.+parse.Given as goal

abbrev pub decreases-inside : goal.decreases-inside
decreases-inside l = 13 * l.depth

abbrev pub decreases-field : goal.decreases-field
decreases-field l = 13 * l.depth + 1

abbrev pub decreases-fields : goal.decreases-fields
decreases-fields l = 13 * l.depth + 2

abbrev pub decreases-struct_inside : goal.decreases-struct_inside
decreases-struct_inside l = 13 * l.depth + 3

abbrev pub decreases-structure : goal.decreases-structure
decreases-structure l = 13 * l.depth + 4

abbrev pub decreases-scoped : goal.decreases-scoped
decreases-scoped l = 13 * l.depth + 1

abbrev pub decreases-conditional : goal.decreases-conditional
decreases-conditional l = 13 * l.depth + 1

abbrev pub decreases-declaration : goal.decreases-declaration
decreases-declaration l = 13 * l.depth + 2

abbrev pub decreases-declarations : goal.decreases-declarations
decreases-declarations l = 13 * l.depth + 3

abbrev pub decreases-wide_inside : goal.decreases-wide_inside
decreases-wide_inside l = 13 * l.depth + 4

abbrev pub decreases-wide_structure : goal.decreases-wide_structure
decreases-wide_structure l = 13 * l.depth + 5

abbrev pub decreases-list_rest : goal.decreases-list_rest
decreases-list_rest l = 13 * l.depth + 1

abbrev pub decreases-list_end : goal.decreases-list_end
decreases-list_end l = 13 * l.depth + 2

abbrev pub decreases-elements : goal.decreases-elements
decreases-elements l = 13 * l.depth + 1

abbrev pub decreases-list_inside : goal.decreases-list_inside
decreases-list_inside l = 13 * l.depth + 3

abbrev pub decreases-list : goal.decreases-list
decreases-list l = 13 * l.depth + 4

abbrev pub decreases-paren : goal.decreases-paren
decreases-paren l = 13 * l.depth + 1

abbrev pub decreases-parenthesis : goal.decreases-parenthesis
decreases-parenthesis l = 13 * l.depth + 2

abbrev pub decreases-uncalled : goal.decreases-uncalled
decreases-uncalled l = 13 * l.depth + 6

abbrev pub decreases-operand : goal.decreases-operand
decreases-operand l = 13 * l.depth + 7

abbrev pub decreases-amps : goal.decreases-amps
decreases-amps l = 13 * l.depth + 8

abbrev pub decreases-conj : goal.decreases-conj
decreases-conj l = 13 * l.depth + 9

abbrev pub decreases-branch : goal.decreases-branch
decreases-branch l = 13 * l.depth + 10

abbrev pub decreases-bars : goal.decreases-bars
decreases-bars l = 13 * l.depth + 11

abbrev pub decreases-expr : goal.decreases-expr
decreases-expr l = 13 * l.depth + 12

abbrev pub invariant-fields-loop : goal.invariant-fields-loop
invariant-fields-loop l = with_front field_view l.fields.items (fields_with (inner l.depth) (l.end - l.counter) (left l.self)) ≡ with_front field_view l.fn.fields.items (fields_with (inner l.depth) (length (left l.fn.self)) (left l.fn.self))

abbrev pub invariant-declarations-loop : goal.invariant-declarations-loop
invariant-declarations-loop l = with_front declaration_view l.declarations.items (declarations_with (inner l.depth) (l.end - l.counter) (left l.self)) ≡ with_front declaration_view l.fn.declarations.items (declarations_with (inner l.depth) (length (left l.fn.self)) (left l.fn.self))

abbrev pub invariant-elements-loop : goal.invariant-elements-loop
invariant-elements-loop l = with_front expr_view l.elements.items (elements_with (inner l.depth) (l.end - l.counter) (left l.self)) ≡ with_front expr_view l.fn.elements.items (elements_with (inner l.depth) (length (left l.fn.self)) (left l.fn.self))

abbrev pub invariant-amps-loop : goal.invariant-amps-loop
invariant-amps-loop l = with_front expr_view l.operands.items (amps_with (inner l.depth) (l.end - l.counter) (left l.self)) ≡ amps_with (inner l.depth) (length (left l.fn.self)) (left l.fn.self)

abbrev pub invariant-bars-loop : goal.invariant-bars-loop
invariant-bars-loop l = with_front expr_view l.operands.items (bars_with (inner l.depth) (l.end - l.counter) (left l.self)) ≡ bars_with (inner l.depth) (length (left l.fn.self)) (left l.fn.self)
