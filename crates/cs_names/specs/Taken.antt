-- Which names of definitions are taken, as tables tell it.
use Rattle.std.specs.Prelude.{◌≡◌, ◌≤◌, ◌<◌, ℕ, Bool, true, ◌||◌, List, Some}
use Rattle.std.specs.Borrow.{Bor}
use Rattle.std.specs.BTreeMap as tree
use Rattle.std.specs.BTreeMap.{BTreeMap}
use Rattle.std.specs.BTreeSet as sorted
use Rattle.std.specs.BTreeSet.{BTreeSet}
use Rattle.std.specs.Cmp.Lexicographic.{slice_cmp}
use Rattle.std.specs.Ordering.{nat_cmp}
use Rattle.std.specs.declared.alloc.Global.{Global}
use Rattle.std.specs.declared.string.String.{String}
use Rattle.cs_grammar.specs.Tree.{DefinitionTree}
use Rattle.cs_names.specs.Lifted.{is_defined, numbered}
use Rattle.cs_names.specs.declared.taken.TakenNames.{TakenNames}

-- the set has the names of these definitions
abbrev pub TellsDefined : BTreeSet (Bor (List ℕ)) → List DefinitionTree → Type 0
TellsDefined t ds = (s : List ℕ) → sorted.contains_by (λ k. slice_cmp nat_cmp s k.now) t ≡ is_defined ds s

-- a definition of the files has the name, or it was given
abbrev pub is_named : List DefinitionTree → (List ℕ → Bool) → List ℕ → Bool
is_named all given s = is_defined all s || given s

-- behind the name, each number from 1 on that is before n is taken
pub record IsBehind (is_taken : List ℕ → Bool) (s : List ℕ) (n : ℕ) : Type 0 where
  pub first : 1 ≤ n
  pub taken : (k : ℕ) → 1 ≤ k → k < n → is_taken (numbered s k) ≡ true

abbrev pub AreBehind : BTreeMap (String Global) ℕ → (List ℕ → Bool) → Type 0
AreBehind numbers is_taken = (s : List ℕ) (n : ℕ) → tree.get_by_text numbers s ≡ Some n → IsBehind is_taken s n

-- the tables have the names of these definitions and those that were given, and no number is free before one that is kept
pub record TellsTaken (t : TakenNames) (all : List DefinitionTree) (given : List ℕ → Bool) : Type 0 where
  pub files : TellsDefined t.defined all
  pub since : (s : List ℕ) → sorted.contains_text t.given s ≡ given s
  pub numbers : AreBehind t.numbers (is_named all given)
