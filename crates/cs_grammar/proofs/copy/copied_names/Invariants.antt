use Rattle.std.proofs.Common.{◌≡◌, map, take}
use Rattle.cs_grammar.specs.View.{name_view}
use Rattle.cs_grammar.proofs.copy.copied_names.Given as goal

abbrev pub invariant-loop-name : goal.invariant-loop-name
invariant-loop-name l = map name_view l.copies.items ≡ map name_view (take l.name-index l.names)
