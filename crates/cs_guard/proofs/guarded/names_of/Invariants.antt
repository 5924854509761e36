use Rattle.std.proofs.Common.{◌≡◌, map, take, string_bytes}
use Rattle.cs_package.specs.Environment.{written}
use Rattle.cs_guard.specs.Numbered.{name_of}
use Rattle.cs_guard.proofs.guarded.names_of.Given as goal

abbrev pub invariant-loop-number : goal.invariant-loop-number
invariant-loop-number l = map string_bytes l.names.items ≡ map (λ i. written (name_of l.package i)) (take l.number-index l.numbers)
