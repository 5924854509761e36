use Rattle.std.proofs.Common.{◌≡◌, ◌<◌, drop}
use Rattle.std.specs.List.{list_all, AllByRecursion as Each}
use Rattle.cs_rules.specs.Knowns.{verdict_inside}
use Rattle.cs_rules.proofs.known.Known.each.Given as goal

abbrev pub invariant-loop-child : goal.invariant-loop-child
invariant-loop-child l = record {
  same : list_all (λ y. verdict_inside l.self y l.place) l.children ≡ list_all (λ y. verdict_inside l.self y l.place) (drop l.child-index l.children);
  below : Each (λ q. q < l.self.done.now.items) (drop l.child-index l.children);
}
