-- What the checks of embeddings answer, and what the tables tell.
use Rattle.std.specs.Prelude.{◌≡◌, ℕ, zero, suc, ◌<◌, ◌≤◌, Bool, true, false, not, if◌then◌else◌, nat_le, List, [], ◌∷◌, ◌++◌, map, Option, Some, None, Result, Ok, Err, slice_get}
use Rattle.std.specs.List.{list_any, AllByRecursion}
use Rattle.std.specs.Str.{bytes_eq}
use Rattle.std.specs.declared.alloc.Global.{Global}
use Rattle.std.specs.declared.vec.Vec.{Vec}
use Rattle.std.specs.Borrow.{Bor}
use Rattle.std.specs.BTreeMap.{BTreeMap, get_by}
use Rattle.std.specs.Cmp.Lexicographic.{slice_cmp}
use Rattle.std.specs.Ordering.{nat_cmp}
use Rattle.cs_grammar.specs.declared.ast.Expr.{Expr}
use Rattle.cs_grammar.specs.Tree.{Tree, reference, DefinitionTree, body}
use Rattle.cs_grammar.specs.Bodies.{bodies}
use Rattle.cs_grammar.specs.View.{expr_view, SeenDeclaration, field_seen, embedding_seen, conditional_seen}
use Rattle.cs_embeddings.specs.Alternatives.{Alternative, most_steps}
use Rattle.cs_embeddings.specs.Embedded.{can_be_embedded, embeds_well}
use Rattle.cs_embeddings.specs.Flaws.{Flaw, unknown, no_struct, is_none, flaws, flaws_here}
use Rattle.cs_embeddings.specs.Views.{alternatives_view, IsTooMuch}
use Rattle.cs_embeddings.specs.declared.found.Found.{Found}
use Rattle.cs_embeddings.specs.declared.definitions.Bodies.{Bodies}
use Rattle.cs_embeddings.specs.declared.embedded.Embeddable.{Embeddable}
use Rattle.cs_embeddings.specs.declared.flaws.Flaw as seen
use Rattle.cs_embeddings.specs.declared.flaws.Flaw.TheVariants as variants
use Rattle.cs_embeddings.specs.declared.fault.EmbeddingFault.{EmbeddingFault}

abbrev pub bodies_view : List (Bor Expr) → List Tree
bodies_view es = map (λ e. expr_view e.now) es

-- a name that the table has is declared
abbrev pub TellsEntry : Option (Vec (Bor Expr) Global) → List Tree → Type 0
TellsEntry None es = es ≡ []
TellsEntry (Some v) es = (bodies_view v.items ≡ es) × (is_none es ≡ false)

-- the table has the bodies of each definition
abbrev pub TellsTable : BTreeMap (Bor (List ℕ)) (Vec (Bor Expr) Global) → List DefinitionTree → Type 0
TellsTable m ds = (s : List ℕ) → TellsEntry (get_by (λ k. slice_cmp nat_cmp s k.now) m) (bodies s ds)

-- it has them, and the list has the name of each definition and no other
pub record TellsBodies (b : Bodies) (ds : List DefinitionTree) : Type 0 where
  pub table : TellsTable b.by_name ds
  pub none : b.none.items ≡ []
  pub named : (s : List ℕ) → list_any (λ t. bytes_eq s t.now) b.names.items ≡ not (is_none (bodies s ds))

-- whether a definition can be embedded in so many steps, as the table tells it
abbrev pub takes_by : Option ℕ → Bool → ℕ → Bool
takes_by None undeclared zero = false
takes_by None undeclared (suc n) = undeclared
takes_by (Some least) undeclared n = nat_le least n

abbrev pub takes : BTreeMap (Bor (List ℕ)) ℕ → List DefinitionTree → List ℕ → ℕ → Bool
takes m ds s n = takes_by (get_by (λ k. slice_cmp nat_cmp s k.now) m) (is_none (bodies s ds)) n

-- the table tells it of each definition, for at most so many steps
abbrev pub TellsSteps : Embeddable → List DefinitionTree → ℕ → Type 0
TellsSteps e ds most = (s : List ℕ) (o n : ℕ) → n ≤ most → takes e.steps ds s n ≡ can_be_embedded ds n (reference s o)

-- what the table has of a definition: the least number of steps, at most so many; or nothing, where so many are too few
abbrev pub TellsLeast : Option ℕ → List DefinitionTree → List ℕ → ℕ → Type 0
TellsLeast None ds s most = is_none (bodies s ds) ≡ false → can_be_embedded ds most (reference s 0) ≡ false
TellsLeast (Some least) ds s most = (least ≤ most) × (is_none (bodies s ds) ≡ false) × (can_be_embedded ds least (reference s 0) ≡ true)
    × ((n : ℕ) → n < least → can_be_embedded ds n (reference s 0) ≡ false)

-- so it is after so many rounds, and after one more of the definitions of these names
abbrev pub TellsRounds : Embeddable → List DefinitionTree → ℕ → List (Bor (List ℕ)) → Type 0
TellsRounds e ds rounds names = (s : List ℕ) → TellsLeast (get_by (λ k. slice_cmp nat_cmp s k.now) e.steps) ds s
    (if list_any (λ t. bytes_eq s t.now) names then suc rounds else rounds)

-- ---- flaws

-- this is the first that is found, where there is one
abbrev pub IsFirst : {A : Type 0} → Option A → List A → Type 0
IsFirst None found = Unit {0}
IsFirst (Some x) found = slice_get found 0 ≡ Some x

-- Ok where nothing is found, or else the first that is found; or nothing that was looked for
abbrev pub Finds : {Y E A : Type 0} → (E → Option A) → Result Y E → List A → Type 0
Finds view (Ok y) found = found ≡ []
Finds view (Err e) found = IsFirst (view e) found

-- none where memory ran out
abbrev pub flaw_view : seen.Flaw → Option Flaw
flaw_view (variants.Unknown o) = Some (unknown o)
flaw_view (variants.NoStruct o) = Some (no_struct o)
flaw_view variants.OutOfMemory = None

-- those of one declaration of a literal with embeddings
abbrev pub flaws_seen : List DefinitionTree → SeenDeclaration → List Flaw
flaws_seen ds (field_seen f) = flaws ds f.value
flaws_seen ds (embedding_seen o e) = flaws_here ds o e ++ flaws ds e
flaws_seen ds (conditional_seen o cs e) = no_struct o ∷ []

-- the table of what can be embedded tells these, and has the bodies of each
pub record TellsTables (e : Embeddable) (ds : List DefinitionTree) : Type 0 where
  pub bodies : TellsBodies e.bodies.now ds
  pub steps : TellsSteps e ds most_steps

-- ---- alternatives

-- the alternatives that are answered are these, unless memory ran out or these are more than there is room for
abbrev pub ReachesAll : Result Found EmbeddingFault → ℕ → List Alternative → Type 0
ReachesAll (Ok f) room xs = alternatives_view f.alternatives.items ≡ xs
ReachesAll (Err e) room xs = IsTooMuch e room xs

-- each expression that the bodies embed can be embedded
abbrev pub AreWell : List DefinitionTree → Type 0
AreWell ds = AllByRecursion (λ d. embeds_well (can_be_embedded ds most_steps) (body d) ≡ true) ds
