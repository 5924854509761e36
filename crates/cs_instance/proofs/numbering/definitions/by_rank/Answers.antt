use Rattle.std.proofs.Common.{ℕ, map, subst, rules}
use Rattle.std.specs.List.Sorted.{IsPermutation}
use Rattle.std.proofs.lemmas.List.Sorted.{IsPermutation-map, All-permutation, IsNonDecreasingBy-from_sort, answers_always}
use Rattle.std.proofs.lemmas.List.Elements.{All-from_recursion}
use Rattle.cs_instance.specs.Ranked.{IsRank}
use Rattle.cs_instance.proofs.numbering.definitions.by_rank.Goals as goal

pub returns-clause-same : goal.returns-clause-same
returns-clause-same c =
    let new = c.sort_unstable_by_key.new.self.items in
    subst (λ xs. IsPermutation xs (map (λ (d : ℕ × ℕ). d.1) new)) c.in_ok-ranked.ensures.numbers (IsPermutation-map (λ (d : ℕ × ℕ). d.1) c.in_ok-ranked.ranked.items new c.sort_unstable_by_key.ensures.permutation)

pub returns-clause-ranks : goal.returns-clause-ranks
returns-clause-ranks c =
    let E = c.args.«package».now in
    let P : ℕ × ℕ → Type 0 = λ d. IsRank E d.1 d.0 in
    All-permutation P c.in_ok-ranked.ranked.items c.sort_unstable_by_key.new.self.items c.sort_unstable_by_key.ensures.permutation (All-from_recursion P c.in_ok-ranked.ranked.items c.in_ok-ranked.ensures.ranks)

pub returns-clause-sorted : goal.returns-clause-sorted
returns-clause-sorted c =
    let k : ℕ × ℕ → ℕ = λ d. d.0 in
    IsNonDecreasingBy-from_sort k _ (c.sort_unstable_by_key.ensures.sorted k (answers_always _ _ _ (λ f a r g h. search rules)))
