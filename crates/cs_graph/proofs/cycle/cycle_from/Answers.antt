use Rattle.std.proofs.Common.{◌≡◌, ◌++◌, take, drop, sym, subst, ap, ◌∙◌, rules}
use Rattle.cs_graph.specs.Graph.{IsLowestFirst}
use Rattle.cs_graph.proofs.Turning.{lowest_turned, lowest_none}
use Rattle.cs_graph.proofs.cycle.cycle_from.Goals as goal
use Rattle.cs_graph.proofs.cycle.cycle_from.Goals.{then-not-is_empty, else-not-is_empty}

pub returns-clause-lowest : goal.returns-clause-lowest
returns-clause-lowest c =
    let xs = c.in_ok-numbers.numbers.items in
    elim c.if-not-is_empty.branch [
      | then-not-is_empty w ↦
          let k = w.lowest_place-lowest.result in
          let value : w.deref.result.now ≡ xs = w.deref.ensures.value in
          let turned : c.if-not-is_empty.numbers.items ≡ drop k xs ++ take k xs = ap (λ v. v.items) w.numbers-is ∙ w.rotate_left.ensures.items in
          subst IsLowestFirst (sym turned) (lowest_turned xs k (rw value at w.lowest_place-lowest.ensures.inside) (rw value at w.lowest_place-lowest.ensures.lowest))
      | else-not-is_empty w ↦ lowest_none _ (search rules)
    ]
