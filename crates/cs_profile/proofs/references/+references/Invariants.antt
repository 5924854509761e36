use Rattle.std.proofs.Common.{◌≡◌, ◌++◌, take}
use Rattle.cs_profile.specs.Numbered.{by_text, numbers_of, names_of_each}
use Rattle.cs_profile.proofs.references.+references.Given as goal

abbrev pub invariant-push_each-loop-schema : goal.invariant-push_each-loop-schema
invariant-push_each-loop-schema l = l.found.items ≡ l.fn.found.items ++ numbers_of (by_text l.numbers.entries) (names_of_each (take l.schema-index l.schemas))
