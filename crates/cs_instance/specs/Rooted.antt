-- The numbering of what a root reaches, and of all that a package declares.
use Rattle.std.specs.Prelude.{◌≡◌, ℕ, ◌<◌, List, Some, length, map, slice_get, slice_index}
use Rattle.std.specs.List.Sorted.{IsPermutation}
use Rattle.cs_package.specs.Environment.{Environment, declared_names}
use Rattle.cs_guard.specs.Numbered.{name_of}
use Rattle.cs_instance.specs.Instance.{Rule, definition}
use Rattle.cs_instance.specs.Numbering.{IsNumbering}
use Rattle.cs_instance.specs.Rules.{AreRules, rules_of}
use Rattle.cs_instance.specs.declared.rules.Rule.{Rule as Coded}
use Rattle.cs_instance.specs.Steps.{numbered}

-- these are the rules of all that n reaches, and n has this number
pub record IsRooted (E : Environment) (n : List ℕ) (rules : List Coded) (inner : List ℕ) (number : ℕ) : Type 0 where
  pub all : List Rule
  pub are : AreRules E n all
  pub numbering : IsNumbering E all (map (numbered inner) rules)
  pub root : slice_get all number ≡ Some (definition n)

-- these are the rules of all definitions, and each of them has its number
pub record IsNumberedWhole (E : Environment) (rules : List Coded) (inner numbers : List ℕ) : Type 0 where
  pub all : List Rule
  pub are : IsPermutation (rules_of E (declared_names E)) all
  pub numbering : IsNumbering E all (map (numbered inner) rules)
  pub long : length numbers ≡ length E
  pub each : (i : ℕ) → i < length E → slice_get all (slice_index numbers i) ≡ Some (definition (name_of E i))
