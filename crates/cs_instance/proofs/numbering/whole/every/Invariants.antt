use Rattle.std.proofs.Common.{◌≡◌, ℕ, ◌<◌, List, Contains, length, map, take}
use Rattle.std.specs.List.{AllByRecursion as Each}
use Rattle.cs_graph.specs.Chains.{On}
use Rattle.cs_guard.specs.Numbered.{name_of}
use Rattle.cs_guard.specs.Reachable.{referred_of}
use Rattle.cs_package.specs.Environment.{declared_names}
use Rattle.cs_instance.proofs.numbering.whole.every.Given as goal

abbrev pub invariant-loop-i : goal.invariant-loop-i
invariant-loop-i l = record {
  within : Each (λ k. k < length l.«package») l.numbers.items;
  names : map (name_of l.«package») l.numbers.items ≡ take l.i (declared_names l.«package»);
  closed : (j : ℕ) (m : List ℕ) → j < l.i → Contains (referred_of l.«package» (name_of l.«package» j)) m → On m (declared_names l.«package»);
}
