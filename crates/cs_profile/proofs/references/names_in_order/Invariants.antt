use Rattle.std.proofs.Common.{◌≡◌, ◌++◌, List, String, Global, map}
use Rattle.std.specs.BTreeMap.{keys}
use Rattle.cs_profile.proofs.references.names_in_order.Given as goal

abbrev pub invariant-loop-name : goal.invariant-loop-name
invariant-loop-name l = record {
  done : List (String Global);
  all : keys l.definitions ≡ done ++ l.name-iterator;
  made : map (λ n. n.now) l.ordered.items ≡ done;
}
