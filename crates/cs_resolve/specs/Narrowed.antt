-- What the table of closed bases says, for contracts of private functions.
use Rattle.std.specs.Prelude.{◌≡◌, ℕ, ◌<◌, true, List, [], ◌∷◌, ◌++◌, Option, Some, None, is_some, slice_get, MatchOption, Vec}
use Rattle.std.specs.Borrow.{Bor}
use Rattle.std.specs.BTreeSet.{BTreeSet, contains_by}
use Rattle.std.specs.Cmp.Lexicographic.{slice_cmp}
use Rattle.std.specs.HashMap.{HashMap, get_by, keys}
use Rattle.std.specs.List.{list_any, IsDistinct}
use Rattle.std.specs.Option.{option_map}
use Rattle.std.specs.Ordering.{nat_cmp}
use Rattle.std.specs.declared.alloc.Global.{Global}
use Rattle.std.specs.Str.{bytes_eq}
use Rattle.cs_grammar.specs.Tree.{Tree, Fields, DefinitionTree}
use Rattle.cs_grammar.specs.View.{expr_view, fields_view}
use Rattle.cs_grammar.specs.declared.ast.Expr.{Expr}
use Rattle.cs_resolve.specs.Declarations.{bodies_of}
use Rattle.cs_resolve.specs.ClosedBases as ClosedBases
use Rattle.cs_resolve.specs.Refinement as Refinement
use Rattle.cs_resolve.specs.declared.refinement.Bases.{Bases}
use Rattle.cs_resolve.specs.declared.narrowing.Narrowing.{Narrowing}

-- which definition is narrowed, and by which fields
abbrev pub narrowing_view : Narrowing → Refinement.Narrowing
narrowing_view n = (n.base.now, fields_view n.fields.now.items)

-- the set has just these texts
abbrev pub HoldsTexts : BTreeSet (Bor (List ℕ)) → List (List ℕ) → Type 0
HoldsTexts s ts = (t : List ℕ) → contains_by (λ k. slice_cmp nat_cmp t k.now) s ≡ list_any (bytes_eq t) ts

-- these are the labels that are found, and the set has just them
abbrev pub HoldsFound : Option (List (List ℕ)) → BTreeSet (Bor (List ℕ)) → Type 0
HoldsFound found s = (ls : List (List ℕ)) × (found ≡ Some ls) × HoldsTexts s ls

-- by the number of a set: these are the labels that are found, where a number is, and none where none is
abbrev pub Numbers : List (BTreeSet (Bor (List ℕ))) → Option ℕ → Option (List (List ℕ)) → Type 0
Numbers sets number found = MatchOption number (found ≡ None) (λ i. MatchOption (slice_get sets i) ⊥ (HoldsFound found))

-- the table says of each name what is given of it
abbrev pub HoldBases : Bases → ClosedBases.Bases → Type 0
HoldBases b bs = (n : List ℕ) → Numbers b.sets.items (get_by (λ k. bytes_eq n k.now) b.numbers) (bs n)

-- by the table it is told which operands that `&` joins are a plain refinement
pub record TellsRefinements (b : Bases) (rs : Refinement.Refinements) : Type 0 where
  pub labels : ClosedBases.Bases
  pub held : HoldBases b labels
  pub same : ClosedBases.is_refinement labels ≡ rs

-- ---- the sole bodies of names

abbrev pub sole_body : List Tree → Option (Option Tree)
sole_body [] = None
sole_body (e ∷ []) = Some (Some e)
sole_body (e ∷ f ∷ es) = Some None

-- the table has each name that is declared, with its sole body, or none where it has several
abbrev pub HoldsSole : {S : Type 0} → HashMap (Bor (List ℕ)) (Option (Bor Expr)) S → List DefinitionTree → Type 0
HoldsSole m ds = (n : List ℕ) → option_map (option_map (λ e. expr_view e.now)) (get_by (λ k. bytes_eq n k.now) m) ≡ sole_body (bodies_of n ds)

-- an entry whose name has only one body
abbrev pub sole_entry : Option (Bor (List ℕ) × Option (Bor Expr)) → Option (Bor (List ℕ) × Bor Expr)
sole_entry None = None
sole_entry (Some (k, None)) = None
sole_entry (Some (k, Some e)) = Some (k, e)

-- ---- the search for closed bases

abbrev pub Has : Bases → List ℕ → Type 0
Has b n = is_some (get_by (λ k. bytes_eq n k.now) b.numbers) ≡ true

-- the set has the labels of the closed base n
abbrev pub HoldsBase : List DefinitionTree → List ℕ → BTreeSet (Bor (List ℕ)) → Type 0
HoldsBase ds n s = (ls : List (List ℕ)) × Refinement.IsBase ds n ls × HoldsTexts s ls

-- all of the old stay
abbrev pub StillHas : Bases → Bases → Type 0
StillHas old new = (n : List ℕ) → Has old n → Has new n

-- at that number is the set for the closed base n
abbrev pub NumbersBase : List DefinitionTree → Bases → List ℕ → ℕ → Type 0
NumbersBase ds b n number = MatchOption (slice_get b.sets.items number) ⊥ (HoldsBase ds n)

-- each that was found is a closed base, with its labels, and stands there once
pub record Sound (ds : List DefinitionTree) (b : Bases) : Type 0 where
  pub each : (n : List ℕ) → MatchOption (get_by (λ k. bytes_eq n k.now) b.numbers) (Unit {0}) (NumbersBase ds b n)
  pub once : IsDistinct (λ k l. bytes_eq k.now l.now) (keys b.numbers)

-- what was found stays, each in its place
pub record Grown (old new : Bases) : Type 0 where
  pub kept : StillHas old new
  pub more : List (Bor (List ℕ))
  pub behind : keys new.numbers ≡ keys old.numbers ++ more

-- n is a plain refinement of m
pub record Refines (ds : List DefinitionTree) (n m : List ℕ) : Type 0 where
  pub body : Tree
  pub fields : Fields
  pub labels : List (List ℕ)
  pub is : bodies_of n ds ≡ body ∷ []
  pub narrowed : Refinement.narrowing_in body ≡ Some (m, fields)
  pub base : Refinement.IsBase ds m labels
  pub fits : Refinement.narrows fields labels ≡ true

abbrev pub IsAmong : List ℕ → List (Bor (List ℕ)) → Type 0
IsAmong n names = list_any (λ k. bytes_eq n k.now) names ≡ true

-- the definitions that may narrow a base, by its name
abbrev pub Refiners : Type 0 → Type 0
Refiners S = HashMap (Bor (List ℕ)) (Vec (Bor (List ℕ)) Global) S

-- n is listed among those that may narrow m
abbrev pub Lists : {S : Type 0} → Refiners S → List ℕ → List ℕ → Type 0
Lists r m n = MatchOption (get_by (λ k. bytes_eq m k.now) r) ⊥ (λ names. IsAmong n names.items)

-- all that the old lists stay
abbrev pub StillLists : {S : Type 0} → Refiners S → Refiners S → Type 0
StillLists old new = (m n : List ℕ) → Lists old m n → Lists new m n

-- a literal is found, and what narrows is listed
pub record IsClassified {S : Type 0} (b : Bases) (r : Refiners S) (n : List ℕ) (e : Tree) : Type 0 where
  pub literal : (fs : Fields) → Refinement.closed_literal e ≡ Some fs → Has b n
  pub listed : (m : List ℕ) (fs : Fields) → Refinement.narrowing_in e ≡ Some (m, fs) → Lists r m n

-- each sole body is classified
abbrev pub AreClassified : {S : Type 0} → List DefinitionTree → Bases → Refiners S → Type 0
AreClassified ds b r = (n : List ℕ) (e : Tree) → bodies_of n ds ≡ e ∷ [] → IsClassified b r n e

-- what refines the first so many that were found is found
abbrev pub Closed : List DefinitionTree → Bases → ℕ → Type 0
Closed ds b most = (i : ℕ) (k : Bor (List ℕ)) → i < most → slice_get (keys b.numbers) i ≡ Some k → (n : List ℕ) → Refines ds n k.now → Has b n
