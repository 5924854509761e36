use Rattle.std.proofs.Common.{◌≡◌, ℕ, map, take}
use Rattle.std.specs.List.{AllByRecursion as Each}
use Rattle.cs_instance.specs.Ranked.{IsRank}
use Rattle.cs_instance.proofs.numbering.definitions.with_ranks.Given as goal

abbrev pub invariant-loop-number : goal.invariant-loop-number
invariant-loop-number l = record {
  numbers : map (λ (d : ℕ × ℕ). d.1) l.ranked.items ≡ take l.number-index l.order;
  ranks : Each (λ (d : ℕ × ℕ). IsRank l.«package» d.1 d.0) l.ranked.items;
}
