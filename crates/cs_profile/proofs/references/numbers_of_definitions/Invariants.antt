use Rattle.std.proofs.Common.{◌≡◌, ◌++◌, List, String, Global, map, string_bytes}
use Rattle.std.specs.BTreeMap.{keys}
use Rattle.cs_profile.specs.Numbered.{by_text, numbered}
use Rattle.cs_profile.proofs.references.numbers_of_definitions.Given as goal

abbrev pub invariant-loop-name : goal.invariant-loop-name
invariant-loop-name l = record {
  done : List (String Global);
  all : keys l.definitions ≡ done ++ l.name-iterator;
  made : by_text l.numbers.entries ≡ numbered 0 (map string_bytes done);
}
