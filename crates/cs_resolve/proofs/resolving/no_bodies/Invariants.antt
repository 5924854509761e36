use Rattle.std.proofs.Common.{◌≡◌, [], length}
use Rattle.std.specs.List.{AllByRecursion}
use Rattle.cs_resolve.proofs.resolving.no_bodies.Given as goal

abbrev pub invariant-loop : goal.invariant-loop
invariant-loop l = record {
  long : length l.bodies.items ≡ l.counter;
  empty : AllByRecursion (λ b. b.items ≡ []) l.bodies.items;
}
