use Rattle.std.proofs.Common.{◌≡◌, ◌++◌, map, take}
use Rattle.cs_grammar.specs.View.{declarations_view}
use Rattle.cs_names.specs.Checks.{path_view}
use Rattle.cs_names.specs.Nested.{nested_in_declarations}
use Rattle.cs_names.proofs.nested.Nesting.add_declarations.Given as goal

abbrev pub invariant-loop-declaration : goal.invariant-loop-declaration
invariant-loop-declaration l = map path_view l.found.items ≡ map path_view l.initial.found.items ++ nested_in_declarations l.self.file l.outer (declarations_view (take l.declaration-index l.declarations))
