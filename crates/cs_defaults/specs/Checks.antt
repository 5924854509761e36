-- What the checks of marks answer, and what the tables tell.
use Rattle.std.specs.Prelude.{◌≡◌, ℕ, ◌<◌, Bool, ◌&&◌, List, [], ◌∷◌, length, Option, Some, None, Result, Ok, Err, slice_get}
use Rattle.std.specs.Borrow.{Bor}
use Rattle.std.specs.BTreeMap.{BTreeMap, get_by}
use Rattle.std.specs.BTreeSet.{BTreeSet, contains_by}
use Rattle.std.specs.Cmp.Lexicographic.{slice_cmp}
use Rattle.std.specs.List.{list_any}
use Rattle.std.specs.Ordering.{nat_cmp}
use Rattle.std.specs.Str.{bytes_eq}
use Rattle.cs_grammar.specs.declared.ast.Expr.{Expr}
use Rattle.cs_grammar.specs.Tree.{Tree, DefinitionTree, defined_name}
use Rattle.cs_grammar.specs.Bodies.{bodies}
use Rattle.cs_grammar.specs.View.{expr_view, Seen}
use Rattle.cs_defaults.specs.Absent.{is_repeated}
use Rattle.cs_defaults.specs.Leading.{Leading, nowhere, by_mark, to, leading, has_default}
use Rattle.cs_defaults.specs.Unmarked.{unasked, optional_if, unmarked}
use Rattle.cs_defaults.specs.declared.leading.Lead as rust
use Rattle.cs_defaults.specs.declared.leading.Lead.TheVariants as variants
use Rattle.cs_defaults.specs.declared.leading.Handing.{Handing}
use Rattle.cs_defaults.specs.declared.fault.DefaultFault.{DefaultFault}
use Rattle.cs_defaults.specs.declared.fault.DefaultFault.TheVariants.{OutOfMemory, Mark}

-- Ok where nothing is found, or else the first that is found
abbrev pub Finds : {Y : Type 0} → Result Y ℕ → List ℕ → Type 0
Finds (Ok y) found = found ≡ []
Finds (Err o) found = slice_get found 0 ≡ Some o

-- it is the first of those that are found in the file of that number, or memory ran out
abbrev pub Fails : DefaultFault → ℕ → List ℕ → Type 0
Fails OutOfMemory file found = Unit {0}
Fails (Mark f o) file found = (f ≡ file) × (slice_get found 0 ≡ Some o)

-- the same of a check that may lack memory, in the file of that number
abbrev pub FindsIn : {Y : Type 0} → Result Y DefaultFault → ℕ → List ℕ → Type 0
FindsIn (Ok y) file found = found ≡ []
FindsIn (Err e) file found = Fails e file found

-- the same in several files
abbrev pub FailsAny : DefaultFault → List (ℕ × ℕ) → Type 0
FailsAny OutOfMemory found = Unit {0}
FailsAny (Mark f o) found = slice_get found 0 ≡ Some (f, o)

abbrev pub FindsAny : {Y : Type 0} → Result Y DefaultFault → List (ℕ × ℕ) → Type 0
FindsAny (Ok y) found = found ≡ []
FindsAny (Err e) found = FailsAny e found

-- an offset, if there is one
abbrev pub place_list : Option ℕ → List ℕ
place_list None = []
place_list (Some o) = o ∷ []

-- how the code says that a value comes to a default
abbrev pub leading_view : rust.Lead → Leading
leading_view variants.Nowhere = nowhere
leading_view (variants.Marked o) = by_mark o
leading_view (variants.To s o) = to s.now o

-- the only body of a definition; none of several
abbrev pub TellsBody : Option (Option (Bor Expr)) → List Tree → Type 0
TellsBody None bs = bs ≡ []
TellsBody (Some (Some e)) bs = bs ≡ expr_view e.now ∷ []
TellsBody (Some None) bs = 1 < length bs

-- the table has the bodies of each definition
abbrev pub TellsBodies : BTreeMap (Bor (List ℕ)) (Option (Bor Expr)) → List DefinitionTree → Type 0
TellsBodies m ds = (s : List ℕ) → TellsBody (get_by (λ k. slice_cmp nat_cmp s k.now) m) (bodies s ds)

abbrev pub is_declared : List DefinitionTree → List ℕ → Bool
is_declared ds s = list_any (λ d. bytes_eq (defined_name d) s) ds

-- the set has just the names among those of ds that hand on a default
abbrev pub TellsHandingOf : BTreeSet (Bor (List ℕ)) → (List ℕ → Bool) → List DefinitionTree → Type 0
TellsHandingOf names has ds = (s : List ℕ) → contains_by (λ k. slice_cmp nat_cmp s k.now) names ≡ (has s && is_declared ds s)

-- the set has just the names of the definitions that hand on a default
abbrev pub TellsHanding : Handing → (List ℕ → Bool) → Type 0
TellsHanding h has = (s : List ℕ) → contains_by (λ k. slice_cmp nat_cmp s k.now) h.names ≡ has s

-- what is told of labels so far: those that were seen, and of them those that were seen again
pub record TellsSeen (seen repeated : BTreeSet (Bor (List ℕ))) (labels : List (List ℕ)) : Type 0 where
  pub once : (s : List ℕ) → contains_by (λ k. slice_cmp nat_cmp s k.now) seen ≡ list_any (bytes_eq s) labels
  pub again : (s : List ℕ) → contains_by (λ k. slice_cmp nat_cmp s k.now) repeated ≡ is_repeated s labels

-- the set has just the labels that stand there twice or more
abbrev pub TellsRepeated : BTreeSet (Bor (List ℕ)) → List (List ℕ) → Type 0
TellsRepeated m absent = (s : List ℕ) → contains_by (λ k. slice_cmp nat_cmp s k.now) m ≡ is_repeated s absent

-- a field without its marks, and as authors write it
abbrev pub unmarked_seen : (List ℕ → Bool) → Seen → Seen
unmarked_seen has f =
    record { label = unasked f.label; mark = optional_if (has_default has (leading f.value)) f.mark; value = unmarked has f.value }
