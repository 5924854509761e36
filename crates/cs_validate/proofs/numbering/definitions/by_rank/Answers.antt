use Rattle.std.proofs.Common.{ℕ, map, subst, rules}
use Rattle.std.specs.List.Sorted.{IsPermutation}
use Rattle.std.proofs.lemmas.List.Sorted.{IsPermutation-map, All-permutation, IsNonDecreasingBy-from_sort, answers_always}
use Rattle.std.proofs.lemmas.List.Elements.{All-from_recursion}
use Rattle.cs_profile.specs.SchemaDocument.{document_of}
use Rattle.cs_validate.specs.Ranked.{definition, IsRanked}
use Rattle.cs_validate.specs.declared.numbering.definitions.Ranked.{Ranked}
use Rattle.cs_validate.proofs.numbering.definitions.by_rank.Goals as goal

pub returns-clause-same : goal.returns-clause-same
returns-clause-same c =
    let new = c.sort_unstable_by_key.new.self.items in
    subst (λ xs. IsPermutation xs (map definition new)) c.in_ok-ranked.ensures.same (IsPermutation-map definition c.in_ok-ranked.ranked.items new c.sort_unstable_by_key.ensures.permutation)

pub returns-clause-ranks : goal.returns-clause-ranks
returns-clause-ranks c =
    let P : Ranked → Type 0 = IsRanked (document_of c.args.document.now) in
    All-permutation P c.in_ok-ranked.ranked.items c.sort_unstable_by_key.new.self.items c.sort_unstable_by_key.ensures.permutation (All-from_recursion P c.in_ok-ranked.ranked.items c.in_ok-ranked.ensures.ranks)

pub returns-clause-sorted : goal.returns-clause-sorted
returns-clause-sorted c =
    let k : Ranked → ℕ = λ d. d.rank in
    IsNonDecreasingBy-from_sort k _ (c.sort_unstable_by_key.ensures.sorted k (answers_always _ _ _ (λ f a r g h. search rules)))
