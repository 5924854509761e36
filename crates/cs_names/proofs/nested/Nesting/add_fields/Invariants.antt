use Rattle.std.proofs.Common.{◌≡◌, ◌++◌, map, take}
use Rattle.cs_grammar.specs.View.{fields_view}
use Rattle.cs_names.specs.Checks.{path_view}
use Rattle.cs_names.specs.Nested.{nested_in_fields}
use Rattle.cs_names.proofs.nested.Nesting.add_fields.Given as goal

abbrev pub invariant-loop-field : goal.invariant-loop-field
invariant-loop-field l = map path_view l.found.items ≡ map path_view l.initial.found.items ++ nested_in_fields l.self.file l.outer (fields_view (take l.field-index l.fields))
