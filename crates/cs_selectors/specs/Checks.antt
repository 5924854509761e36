-- What the searches answer, and what the tables tell.
use Rattle.std.specs.Prelude.{◌≡◌, ℕ, Bool, ◌||◌, List, [], ◌∷◌, map, Option, Some, None, Result, Ok, Err, slice_get, string_bytes, if◌then◌else◌}
use Rattle.std.specs.Borrow.{Bor}
use Rattle.std.specs.BTreeMap as tree
use Rattle.std.specs.Cmp.Lexicographic.{slice_cmp}
use Rattle.std.specs.Option.{option_map, unwrap_or}
use Rattle.std.specs.Ordering.{nat_cmp}
use Rattle.std.specs.declared.alloc.Global.{Global}
use Rattle.std.specs.declared.cmp.Ordering.{Ordering}
use Rattle.std.specs.declared.vec.Vec.{Vec}
use Rattle.std.specs.Str.{bytes_eq}
use Rattle.cs_grammar.specs.Tree.{Selector, Tree, wide, Wide, DefinitionTree}
use Rattle.cs_grammar.specs.View.{Seen, SeenDeclaration, field_seen, embedding_seen, conditional_seen, expr_view, field_view, selector_view}
use Rattle.cs_grammar.specs.declared.ast.Expr.{Expr}
use Rattle.cs_grammar.specs.declared.ast.Field.{Field}
use Rattle.cs_names.specs.Joined.{is_every}
use Rattle.cs_names.specs.Taken.{TellsTaken}
use Rattle.cs_plain.specs.Bodies.{Body, TellsBodies, values_of}
use Rattle.cs_plain.specs.Selecting.{referring}
use Rattle.cs_selectors.specs.Given as G
use Rattle.cs_selectors.specs.Given.{Path, AreApart, is_given}
use Rattle.cs_selectors.specs.Having.{has_selector}
use Rattle.cs_selectors.specs.Reached.{texts, lack_in}
use Rattle.cs_selectors.specs.Uses as U
use Rattle.cs_selectors.specs.Uses.{Place, uses}
use Rattle.cs_selectors.specs.declared.fault.SelectorFault.{SelectorFault}
use Rattle.cs_selectors.specs.declared.fault.SelectorFault.TheVariants as refused
use Rattle.cs_selectors.specs.declared.given.Given as code
use Rattle.cs_selectors.specs.declared.given.Giving.{Giving}
use Rattle.cs_selectors.specs.declared.lack.Lack.{Lack}
use Rattle.cs_selectors.specs.declared.lack.Lack.TheVariants as lacks
use Rattle.cs_selectors.specs.declared.lack.Stop.{Stop}
use Rattle.cs_selectors.specs.declared.lack.Stop.TheVariants as stops
use Rattle.cs_selectors.specs.declared.uses.Use as uses

-- ---- what is found

-- the search ends since that is lacking, if memory doesn't run out
abbrev pub EndsAt : Stop → Option Lack → Type 0
EndsAt stops.OutOfMemory o = Unit {0}
EndsAt (stops.Lacks l) o = o ≡ Some l

-- Ok where nothing is lacking
abbrev pub Finds : {Y : Type 0} → Result Y Stop → Option Lack → Type 0
Finds (Ok y) o = o ≡ None
Finds (Err e) o = EndsAt e o

abbrev pub tree_at : Bor Expr → Tree
tree_at e = expr_view e.now

abbrev pub field_at : Bor Field → Seen
field_at f = field_view f.now

-- these values, where nothing is lacking
abbrev pub Reaches : Result (Vec (Bor Expr) Global) Stop → Option Lack → List Tree → Type 0
Reaches (Ok v) o es = (o ≡ None) × (map tree_at v.items ≡ es)
Reaches (Err e) o es = EndsAt e o

-- the first of what is at fault
abbrev pub FailsAny : SelectorFault → List (Place × Lack) → Type 0
FailsAny refused.OutOfMemory fs = Unit {0}
FailsAny (refused.LeftOut i o) fs = slice_get fs 0 ≡ Some ((i, o), lacks.LeftOut)
FailsAny (refused.UnknownName i o) fs = slice_get fs 0 ≡ Some ((i, o), lacks.Unknown)
FailsAny (refused.NotRegular i o) fs = slice_get fs 0 ≡ Some ((i, o), lacks.NotRegular)
FailsAny refused.TooLarge fs = ⊥

abbrev pub FindsAny : {Y : Type 0} → Result Y SelectorFault → List (Place × Lack) → Type 0
FindsAny (Ok y) fs = fs ≡ []
FindsAny (Err e) fs = FailsAny e fs

-- ---- selectors and bodies

abbrev pub use_view : uses.Use → U.Use
use_view u = record { place = u.place; head = u.head.now; labels = map selector_view u.labels.now }

abbrev pub uses_seen : ℕ → SeenDeclaration → List U.Use
uses_seen i (field_seen f) = uses i f.value
uses_seen i (embedding_seen o e) = uses i e
uses_seen i (conditional_seen o cs e) = uses i e

abbrev pub seen_has : SeenDeclaration → Bool
seen_has (field_seen f) = has_selector f.value
seen_has (embedding_seen o e) = has_selector e
seen_has (conditional_seen o cs e) = has_selector e

abbrev pub is_for_seen : List ℕ → Seen → Bool
is_for_seen s f = is_every f.mark || bytes_eq f.label.text s

-- a field, if it is a declaration of the label
abbrev pub only_if : Bool → Seen → List Seen
only_if b f = if b then f ∷ [] else []

abbrev pub only_for : List ℕ → Seen → List Seen
only_for s f = only_if (is_for_seen s f) f

-- ---- definitions that are made

abbrev pub texts_at : List (Bor (List ℕ)) → Path
texts_at p = map (λ t. t.now) p

abbrev pub given_view : code.Given → G.Given
given_view g = record { path = texts_at g.path.items; name = string_bytes g.name; home = g.home; values = map tree_at g.values.items }

-- how a path of texts compares with one of the table
abbrev pub path_cmp : Path → List (Bor (List ℕ)) → Ordering
path_cmp p q = slice_cmp (λ s t. slice_cmp nat_cmp s t.now) p q

-- the name of the definition that is made of selectors with this path
abbrev pub name_at : Giving → Path → Option (List ℕ)
name_at g p = option_map string_bytes (tree.get_by (λ k. path_cmp p k.items) g.known)

-- what is lacking where a path leads
abbrev pub lack_on : List Body → Path → Option Lack
lack_on bs [] = None
lack_on bs (s ∷ ss) = lack_in (values_of s bs) ss

-- the tables have what is made, beside the definitions of all files, which have these bodies
pub record TellsGifts (g : Giving) (all : List DefinitionTree) (bs : List Body) (gs : List G.Given) : Type 0 where
  pub bodies : TellsBodies g.bodies.now bs
  pub names : TellsTaken g.names all (is_given gs)
  pub known : (p : Path) → name_at g p ≡ G.known gs p
  pub order : map given_view g.order.items ≡ gs
  pub apart : AreApart all gs
  pub well : (p : Path) (s : List ℕ) → G.known gs p ≡ Some s → lack_on bs p ≡ None

-- the tables tell these names of the definitions that selectors are made
abbrev pub TellsNames : Giving → (List ℕ → List Selector → List ℕ) → Type 0
TellsNames g by = (s : List ℕ) (ls : List Selector) → unwrap_or (name_at g (s ∷ texts ls)) s ≡ by s ls

-- ---- expressions without selectors

module _ (by : List ℕ → List Selector → List ℕ) where
  abbrev pub referring_wide : Wide → Tree
  referring_wide w = referring by (wide w)

  abbrev pub referring_field_seen : Seen → Seen
  referring_field_seen f = record { label = f.label; mark = f.mark; value = referring by f.value }

  abbrev pub referring_seen : SeenDeclaration → SeenDeclaration
  referring_seen (field_seen f) = field_seen (referring_field_seen f)
  referring_seen (embedding_seen o e) = embedding_seen o (referring by e)
  referring_seen (conditional_seen o cs e) = conditional_seen o cs (referring by e)
