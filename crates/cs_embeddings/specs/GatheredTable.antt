-- How the code gathers declarations; for private contracts alone.
use Rattle.std.specs.Prelude.{◌≡◌, ℕ, Bool, true, false, List, [], ◌∷◌, ◌++◌, map, length, string_bytes, Option, Some, None, Result, Ok, Err}
use Rattle.std.specs.List.{list_all, list_any, AllByRecursion}
use Rattle.std.specs.Option.{option_map}
use Rattle.std.specs.declared.alloc.Global.{Global}
use Rattle.std.specs.declared.vec.Vec.{Vec}
use Rattle.std.specs.declared.alloc.AllocError.{AllocError}
use Rattle.std.specs.BTreeMap.{get_by}
use Rattle.std.specs.Cmp.Lexicographic.{slice_cmp}
use Rattle.std.specs.Ordering.{nat_cmp}
use Rattle.cs_grammar.specs.Tree.{written_label, conjunction, DefinitionTree}
use Rattle.cs_grammar.specs.View.{expr_view, trees_of}
use Rattle.cs_embeddings.specs.Alternatives.{Brought}
use Rattle.cs_embeddings.specs.Bodies.{Body, Left, as_declared, bodies_behind}
use Rattle.cs_embeddings.specs.Checks.{bodies_view}
use Rattle.cs_embeddings.specs.Gathered.{is_of, those_of, values_of, gathers, is_gathered, mark_of, place_of, gathered_at}
use Rattle.cs_embeddings.specs.United.{unites}
use Rattle.cs_embeddings.specs.declared.gathered.Declared.{Declared}
use Rattle.cs_embeddings.specs.declared.gathered.Together.{Together}
use Rattle.cs_embeddings.specs.declared.gathered.Gathered.{Gathered}
use Rattle.cs_embeddings.specs.declared.gathered.Gathered.TheVariants.{One, Several}
use Rattle.cs_embeddings.specs.declared.gathered.Label.{Label}
use Rattle.cs_embeddings.specs.declared.gathered.Label.TheVariants.{Unmet, Met}
use Rattle.cs_embeddings.specs.declared.gathered.Labels.{Labels}
use Rattle.cs_embeddings.specs.declared.kept.Kept.{Kept}
use Rattle.cs_embeddings.specs.declared.kept.KeptFile.{KeptFile}

abbrev pub declared_view : Declared → Brought
declared_view d =
    record { label = record { text = d.label.now; quotes = d.quoted; asked = d.asked; scoped = d.scoped }; mark = d.mark; value = expr_view d.value.now; place = d.place; embedding = d.embedding }

-- these are all declarations of the label
pub record IsTogether (t : Together) (s : List ℕ) (bs : List Brought) : Type 0 where
  pub label : t.label.now ≡ s
  pub quoted : t.quoted ≡ list_all (λ d. d.label.quotes) bs
  pub mark : t.mark ≡ mark_of bs
  pub place : t.place ≡ place_of bs
  pub values : trees_of (bodies_view t.values.items) ≡ values_of bs
  pub many : length t.values.items ≡ length bs

-- a declaration, or the one that is left of several
abbrev pub together_view : Together → Brought
together_view t =
    record { label = written_label t.label.now t.quoted; mark = t.mark; value = conjunction (trees_of (bodies_view t.values.items)); place = t.place; embedding = None }

abbrev pub gathered_view : Gathered → Brought
gathered_view (One d) = declared_view d
gathered_view (Several t) = together_view t

-- those that are left of several are put together
abbrev pub IsSound : List DefinitionTree → Gathered → Type 0
IsSound ds (One d) = Unit {0}
IsSound ds (Several t) = unites ds (trees_of (bodies_view t.values.items)) ≡ true

-- what is known of a label is so, where these are before in all of them
abbrev pub TellsLabel : Option Label → List DefinitionTree → List ℕ → List Brought → List Brought → Type 0
TellsLabel None ds s all before = those_of s all ≡ []
TellsLabel (Some (Unmet t)) ds s all before = IsTogether t s (those_of s all) × (list_any (is_of s) before ≡ false)
TellsLabel (Some (Met b)) ds s all before = (b ≡ gathers ds (those_of s all)) × (list_any (is_of s) before ≡ true)

abbrev pub TellsLabels : Labels → List DefinitionTree → List Brought → List Brought → Type 0
TellsLabels l ds all before = (s : List ℕ) → TellsLabel (get_by (λ k. slice_cmp nat_cmp s k.now) l.by_text) ds s all before

-- what stands for a declaration
abbrev pub standing_view : Option Gathered → List Brought
standing_view None = []
standing_view (Some g) = gathered_view g ∷ []

-- several stand for a declaration just where those of its label are put together, as `b` says: all of these
abbrev pub StandsFor : Option Gathered → Bool → List DefinitionTree → List Brought → Brought → Type 0
StandsFor None b ds all d = Unit {0}
StandsFor (Some (One x)) b ds all d = b ≡ false
StandsFor (Some (Several t)) b ds all d =
    (b ≡ true) × (unites ds (trees_of (bodies_view t.values.items)) ≡ true) × (length t.values.items ≡ length (those_of d.label.text all))

-- `b` says whether those of its label are put together, and `g` is what is meant
abbrev pub Stands : Bool → Option Gathered → List DefinitionTree → List Brought → List Brought → Brought → Type 0
Stands b g ds all before d = (b ≡ gathers ds (those_of d.label.text all)) × (standing_view g ≡ gathered_at ds all before d) × StandsFor g b ds all d

-- it is what is meant, and the labels are known with that declaration before
abbrev pub MeetsLabel : Result (Option Gathered) AllocError → Labels → List DefinitionTree → List Brought → List Brought → Brought → Type 0
MeetsLabel (Err e) l ds all before d = Unit {0}
MeetsLabel (Ok g) l ds all before d = (standing_view g ≡ gathered_at ds all before d) × StandsFor g (is_gathered ds all d) ds all d × TellsLabels l ds all (before ++ d ∷ [])

-- ---- bodies of definitions

-- what is left of a definition, as the code has it
abbrev pub body_view : Kept → Body
body_view k = record { declared = gathered_view k.standing; place = k.place }

abbrev pub left_view : KeptFile → Left
left_view f = record { clause = option_map string_bytes f.package.now; bodies = map body_view f.bodies.items }

-- what is left of definitions that are put together can be
abbrev pub AreSound : List DefinitionTree → KeptFile → Type 0
AreSound ds f = AllByRecursion (λ k. IsSound ds k.standing) f.bodies.items

-- what is left in a file, and the labels are known with its declarations before
abbrev pub KeepsBodies : Result (Vec Kept Global) AllocError → Labels → List DefinitionTree → List Brought → List Brought → Type 0
KeepsBodies (Err e) l ds before here = Unit {0}
KeepsBodies (Ok v) l ds before here =
    (map body_view v.items ≡ bodies_behind ds here before here) × AllByRecursion (λ k. IsSound ds k.standing) v.items
    × TellsLabels l ds (map as_declared ds) (before ++ here)
