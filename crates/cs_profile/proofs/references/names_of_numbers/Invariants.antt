use Rattle.std.proofs.Common.{◌≡◌, map, take, string_bytes}
use Rattle.cs_profile.specs.Numbered.{name_of_number}
use Rattle.cs_profile.proofs.references.names_of_numbers.Given as goal

abbrev pub invariant-loop-number : goal.invariant-loop-number
invariant-loop-number l = map string_bytes l.names.items ≡ map (name_of_number l.definitions.entries) (take l.number-index l.numbers)
