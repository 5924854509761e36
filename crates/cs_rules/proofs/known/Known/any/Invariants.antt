use Rattle.std.proofs.Common.{◌≡◌, ◌<◌, drop}
use Rattle.std.specs.List.{list_any, AllByRecursion as Each}
use Rattle.cs_rules.specs.Knowns.{verdict_here}
use Rattle.cs_rules.proofs.known.Known.any.Given as goal

abbrev pub invariant-loop-rule : goal.invariant-loop-rule
invariant-loop-rule l = record {
  same : list_any (verdict_here l.self) l.rules ≡ list_any (verdict_here l.self) (drop l.rule-index l.rules);
  below : Each (λ q. q < l.self.done.now.rules) (drop l.rule-index l.rules);
}
