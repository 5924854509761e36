use Rattle.std.proofs.Common.{◌≡◌, ◌<◌, ℕ, ◌++◌, map, drop, slice_index}
use Rattle.std.specs.List.{AllByRecursion as Each}
use Rattle.cs_table.specs.Judged.{verdicts}
use Rattle.cs_rules.specs.Knowns.{verdict_here, value_count}
use Rattle.cs_instance_reasons.specs.CauseLists.{told_from, element_cause, asked_at}
use Rattle.cs_instance.specs.Numbering.{map_rest}
use Rattle.cs_instance.specs.Steps.{ending_of}
use Rattle.cs_instance_reasons.proofs.causes.elements.tell_refused.Given as goal

abbrev pub invariant-loop-place : goal.invariant-loop-place
invariant-loop-place l =
    let g = slice_index l.known.children.now in
    let asked = asked_at (map g l.front) (map_rest g (ending_of l.end)) in
    let tell = λ (k y : ℕ). element_cause (verdict_here l.known) (verdicts l.known.done.now) l.known.item l.number k y (asked k) in record {
      same : l.found.items ++ told_from tell l.place (drop l.place l.children) ≡ l.fn.found.items ++ told_from tell 0 l.children;
      below : Each (λ y. y < value_count l.known) (drop l.place l.children);
    }
