-- What the code remembers of definitions where it asks which labels they declare, and what they join; for private contracts alone.
use Rattle.std.specs.Prelude.{◌≡◌, ℕ, ◌<◌, ◌≤◌, Bool, true, false, ◌||◌, List, length, get_or, Option, Some, None}
use Rattle.std.specs.List.{list_all, list_any}
use Rattle.std.specs.Borrow.{Bor}
use Rattle.std.specs.BTreeMap.{BTreeMap, get_by}
use Rattle.std.specs.Cmp.Lexicographic.{slice_cmp}
use Rattle.std.specs.Ordering.{nat_cmp}
use Rattle.std.specs.Str.{bytes_eq}
use Rattle.std.specs.declared.alloc.Global.{Global}
use Rattle.std.specs.declared.vec.Vec.{Vec}
use Rattle.cs_grammar.specs.Tree.{Tree, DefinitionTree}
use Rattle.cs_grammar.specs.Bodies.{bodies}
use Rattle.cs_embeddings.specs.Alternatives.{most_steps}
use Rattle.cs_embeddings.specs.Checks.{TellsBodies, TellsSteps}
use Rattle.cs_embeddings.specs.Embedded.{can_be_embedded}
use Rattle.cs_embeddings.specs.Held.{or_else}
use Rattle.cs_embeddings.specs.Narrowed.{declares, joins_well}
use Rattle.cs_embeddings.specs.declared.flaws.Flaws.{Flaws}
use Rattle.cs_embeddings.specs.declared.narrowed.Base.{Base}
use Rattle.cs_embeddings.specs.declared.narrowed.Narrowing.{Narrowing}
use Rattle.cs_embeddings.specs.declared.labels.Labels.{Labels}
use Rattle.cs_embeddings.specs.declared.numbers.Numbers.{Numbers}

-- ---- tables by the names of definitions

-- what is told of a definition, where the table has something of it; `Good x es` says that x is right where the bodies are es
abbrev pub ToldOf : {X : Type 0} → (X → List Tree → Type 0) → Option X → List Tree → Type 0
ToldOf Good None es = Unit {0}
ToldOf Good (Some x) es = Good x es

abbrev pub AllTold : {X : Type 0} → (X → List Tree → Type 0) → BTreeMap (Bor (List ℕ)) X → List DefinitionTree → Type 0
AllTold Good m ds = (t : List ℕ) → ToldOf Good (get_by (λ k. slice_cmp nat_cmp t k.now) m) (bodies t ds)

-- an answer is right, however many steps the bodies take; `f n es` is what is right where they take n
abbrev pub IsAnswer : List DefinitionTree → (ℕ → List Tree → Bool) → Bool → List Tree → Type 0
IsAnswer ds f b es = (n : ℕ) → list_all (can_be_embedded ds n) es ≡ true → b ≡ f n es

-- ---- numbers of labels

abbrev pub number_in : Option (Bor (BTreeMap (Bor (List ℕ)) ℕ)) → List ℕ → Option ℕ
number_in None s = None
number_in (Some m) s = get_by (λ k. slice_cmp nat_cmp s k.now) m.now

-- the number of the label s, where it has one
abbrev pub number_of : Numbers → List ℕ → Option ℕ
number_of n s = or_else (number_in n.below s) (get_by (λ k. slice_cmp nat_cmp s k.now) n.own)

-- different labels have different numbers
pub record AreNumbers (n : Numbers) : Type 0 where
  pub low : (s : List ℕ) (i : ℕ) → number_of n s ≡ Some i → i < n.count
  pub apart : (s t : List ℕ) (i : ℕ) → number_of n s ≡ Some i → number_of n t ≡ Some i → bytes_eq s t ≡ true

-- ---- rows by the numbers of labels

abbrev pub has_at : List Bool → Option ℕ → Bool
has_at row None = false
has_at row (Some i) = get_or row i false

-- whether a row has the label s
abbrev pub has_label : Numbers → List Bool → List ℕ → Bool
has_label n row s = has_at row (number_of n s)

-- the numbers of a row are there
abbrev pub IsRow : Numbers → List Bool → Type 0
IsRow n row = AreNumbers n × (length row ≤ n.count)

-- a row has the same labels by the numbers n, which are more
pub record Keeps (m n : Numbers) : Type 0 where
  pub more : m.count ≤ n.count
  pub same : (row : List Bool) → length row ≤ m.count → (s : List ℕ) → has_label n row s ≡ has_label m row s

-- labels got numbers
pub record Grows (m n : Numbers) : Type 0 where
  pub keeps : Keeps m n
  pub below : n.below ≡ m.below

-- a row gets the labels that `declared` says, and no other
pub record Adds (m n : Numbers) (old new : List Bool) (declared : List ℕ → Bool) : Type 0 where
  pub is : IsRow n new
  pub grows : Grows m n
  pub has : (s : List ℕ) → has_label n new s ≡ (has_label m old s || declared s)

-- ---- what definitions declare

-- a row has what one of the bodies declares, however many steps these take
abbrev pub TellsRow : Numbers → List DefinitionTree → Vec Bool Global → List Tree → Type 0
TellsRow n ds row es = (length row.items ≤ n.count)
    × ((k : ℕ) → list_all (can_be_embedded ds k) es ≡ true → (s : List ℕ) → has_label n row.items s ≡ list_any (declares ds k s) es)

-- a row, where there is one, has what an expression declares
abbrev pub IsRowOf : Numbers → List DefinitionTree → ℕ → Tree → Option (Bor (Vec Bool Global)) → Type 0
IsRowOf n ds k e None = Unit {0}
IsRowOf n ds k e (Some row) = (s : List ℕ) → has_label n row.now.items s ≡ declares ds k s e

abbrev pub TellsRows : Numbers → BTreeMap (Bor (List ℕ)) (Vec Bool Global) → List DefinitionTree → Type 0
TellsRows n m ds = AllTold (TellsRow n ds) m ds

pub record TellsLabels (l : Labels) (n : Numbers) (ds : List DefinitionTree) : Type 0 where
  pub numbers : AreNumbers n
  pub bodies : TellsBodies l.bodies.now ds
  pub rows : TellsRows n l.rows.now ds

-- whether what is narrowed declares a label
abbrev pub base_has : Base → List ℕ → Bool
base_has b s = has_label b.numbers.now b.row.now s

-- ---- what is joined

abbrev pub TellsJoins : BTreeMap (Bor (List ℕ)) Bool → List DefinitionTree → Type 0
TellsJoins m ds = AllTold (IsAnswer ds (λ n es. list_all (joins_well ds n) es)) m ds

pub record TellsNarrowing (w : Narrowing) (ds : List DefinitionTree) : Type 0 where
  pub bodies : TellsBodies w.bodies.now ds
  pub numbers : AreNumbers w.numbers
  pub alone : w.numbers.below ≡ None
  pub rows : TellsRows w.numbers w.rows ds
  pub joins : TellsJoins w.joins ds

-- ---- all tables

-- the tables of definitions tell these
pub record TellsEmbeddable (f : Flaws) (ds : List DefinitionTree) : Type 0 where
  pub bodies : TellsBodies f.bodies.now ds
  pub steps : TellsSteps f.embeddable.now ds most_steps
  pub same : TellsBodies f.embeddable.now.bodies.now ds
  pub narrowing : TellsNarrowing f.narrowing.now ds
