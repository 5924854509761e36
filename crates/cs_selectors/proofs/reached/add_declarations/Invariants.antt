use Rattle.std.proofs.Common.{◌≡◌, ◌++◌, map, take}
use Rattle.cs_grammar.specs.View.{fields_view}
use Rattle.cs_selectors.specs.Checks.{field_at}
use Rattle.cs_selectors.specs.Reached.{declarations_for}
use Rattle.cs_selectors.proofs.reached.add_declarations.Given as goal

abbrev pub invariant-loop-field : goal.invariant-loop-field
invariant-loop-field l = map field_at l.found.items ≡ map field_at l.initial.found.items ++ declarations_for l.label (fields_view (take l.field-index l.fields))
