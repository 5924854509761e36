-- What the checks of a package answer.
use Rattle.std.specs.Prelude.{◌≡◌, ℕ, ◌+◌, ◌<◌, Bool, true, false, not, ◌⊎◌, List, [], Option, Some, Result, Ok, Err, MatchOption, filter, count_by, slice_get, unwrap_or}
use Rattle.std.specs.Borrow.{Bor}
use Rattle.std.specs.BTreeMap.{BTreeMap, get_by}
use Rattle.std.specs.Cmp.Lexicographic.{slice_cmp}
use Rattle.std.specs.Option.{option_map}
use Rattle.std.specs.Ordering.{nat_cmp}
use Rattle.cs_grammar.specs.View.{field_view, fields_view}
use Rattle.cs_grammar.specs.declared.ast.Field.{Field}
use Rattle.cs_resolve.specs.declared.fault.ResolveFault.{ResolveFault}
use Rattle.cs_resolve.specs.declared.fault.ResolveFault.TheVariants.{OutOfMemory, NotOpened}
use Rattle.cs_resolve.specs.declared.opening.Count.{Count}
use Rattle.cs_resolve.specs.declared.opening.Count.TheVariants as count
use Rattle.cs_resolve.specs.declared.opening.LabelRepeats.{LabelRepeats}
use Rattle.cs_resolve.specs.declared.opening.OpeningCheck.{OpeningCheck}
use Rattle.cs_resolve.specs.Narrowed.{TellsRefinements}
use Rattle.cs_resolve.specs.Opening.{Declared, one, every_key, Named, declared_for, named_fields, values, has_literal_or_reference}
use Rattle.cs_resolve.specs.Refinement.{Refinements}

-- the refusal is for want of memory, or is the first of these faults, as f says it
abbrev pub Refuses : {X : Type 0} → ResolveFault → (X → ResolveFault) → List X → Type 0
Refuses e f xs = (e ≡ OutOfMemory) ⊎ (option_map f (slice_get xs 0) ≡ Some e)

-- a check that finds these faults, in order, is Ok exactly where there is none
abbrev pub Checks : {X Y : Type 0} → Result Y ResolveFault → (X → ResolveFault) → List X → Type 0
Checks (Ok y) f xs = xs ≡ []
Checks (Err e) f xs = Refuses e f xs

-- the check of a file, of which these are the plain refinements, finds these literals
abbrev pub FindsUnopened : {Y : Type 0} → Result Y ResolveFault → OpeningCheck → (Refinements → List ℕ) → Type 0
FindsUnopened r c found = (rs : Refinements) → TellsRefinements c.bases.now rs → Checks r (NotOpened c.file) (found rs)

-- what is left of a room after so many nodes, where it has so many
abbrev pub Leaves : Option ℕ → ℕ → ℕ → Type 0
Leaves left room taken = MatchOption left (room < taken) (λ rest. rest + taken ≡ room)

-- the count of so many values
abbrev pub CountsAs : Count → ℕ → Type 0
CountsAs count.None k = k ≡ 0
CountsAs count.One k = k ≡ 1
CountsAs count.Several k = 1 < k

-- how many of the values that are declared for a name, or for every key, aren't plain
abbrev pub unplain : Declared → List Named → ℕ
unplain d ns = count_by has_literal_or_reference (values d ns)

-- the table has each name that has a value that isn't plain, with how many it has
abbrev pub Repeats : BTreeMap (Bor (List ℕ)) Count → List Named → Type 0
Repeats m ns = (t : List ℕ) → CountsAs (unwrap_or (get_by (λ k. slice_cmp nat_cmp t k.now) m) count.None) (unplain (one t) ns)

-- ---- the fields of a struct literal

abbrev pub is_every_key : Declared → Bool
is_every_key (one s) = false
is_every_key every_key = true

-- those that aren't declared for every key
abbrev pub with_own_name : List Named → List Named
with_own_name ns = filter (λ n. not (is_every_key n.name)) ns

-- the value of a field under its label, or for every key
abbrev pub named_by : Field → Named
named_by f = record { name = declared_for (field_view f).label (field_view f).mark; value = (field_view f).value }

-- those of all fields
abbrev pub named_values : List Field → List Named
named_values fs = named_fields (fields_view fs)

-- the table of the labels, and what it has for every key
pub record TellsLabels (r : LabelRepeats) (ns : List Named) : Type 0 where
  pub own : Repeats r.names (with_own_name ns)
  pub shared : CountsAs r.every (unplain every_key ns)
