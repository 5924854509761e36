use Rattle.std.proofs.Common.{◌≡◌, nat_le, sym, ap, ◌∙◌, subst, rules}
use Rattle.std.specs.List.Sorted.{IsSorted}
use Rattle.std.specs.Ordering.{nat_cmp}
use Rattle.std.proofs.lemmas.List.Sorted.{IsPartitionPoint-from_clause, IsPartitionedBy-leb, IsNonDecreasingBy-from_sort}
use Rattle.cs_rules.specs.Classed.{IsReached}
use Rattle.cs_rules.proofs.Placed.{reached_at}
use Rattle.cs_rules.proofs.classes.Classes.reached.Goals as goal

pub returns-clause-reached : goal.returns-clause-reached
returns-clause-reached c =
    let lengths = c.args.self.now.lengths in
    let marks = c.deref-marks.result.now in
    let are : marks ≡ lengths = c.deref-marks.ensures.value ∙ ap (λ m. m.lengths) c.self.view_is in
    let n = c.length_at-length.result in
    let p = c.partition_point.result in
    let up = subst (IsSorted nat_cmp) (sym c.deref-marks.ensures.value) c.self.invariant.2 in
    let in_parts = IsPartitionedBy-leb (λ k. k) marks n (IsNonDecreasingBy-from_sort (λ k. k) marks up) in
    let parts = IsPartitionPoint-from_clause (λ k. nat_le k n) marks p c.partition_point.ensures.partitioned in_parts (λ a r f called. search rules) in
    subst (λ k. IsReached lengths k p) c.length_at-length.ensures (subst (λ ks. IsReached ks n p) are (reached_at marks n p parts))
