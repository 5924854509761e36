-- What the searches answer, and what the tables tell.
use Rattle.std.specs.Prelude.{◌≡◌, ℕ, Bool, true, false, ◌||◌, ◌++◌, List, [], ◌∷◌, map, Option, Some, None, Result, Ok, Err, slice_get, if◌then◌else◌, is_some, string_bytes}
use Rattle.std.specs.Borrow.{Bor}
use Rattle.std.specs.BTreeMap as tree
use Rattle.std.specs.BTreeSet as sorted
use Rattle.std.specs.Cmp.Lexicographic.{slice_cmp}
use Rattle.std.specs.Option.{option_map}
use Rattle.std.specs.Ordering.{nat_cmp, ordering_then}
use Rattle.std.specs.declared.cmp.Ordering.{Ordering}
use Rattle.std.specs.Str.{bytes_eq}
use Rattle.cs_grammar.specs.Tree.{DefinitionTree}
use Rattle.cs_grammar.specs.View.{Seen, SeenDeclaration, field_seen, embedding_seen, conditional_seen}
use Rattle.cs_names.specs.Flaws.{flaws, let_flaws}
use Rattle.cs_names.specs.Having.{has_name}
use Rattle.cs_names.specs.Lifted as S
use Rattle.cs_names.specs.Lifted.{Lifts, AreApart, known, is_lifted, is_open, lift_in, lift_own, own_place, within}
use Rattle.cs_names.specs.Named.{resolved, inside, label_definitions}
use Rattle.cs_names.specs.Nested.{nested_by, untold}
use Rattle.cs_names.specs.Scopes as M
use Rattle.cs_names.specs.Scopes.{Place, entry, declared_by, value_scope}
use Rattle.cs_names.specs.Taken.{TellsTaken}
use Rattle.cs_names.specs.declared.fault.NameFault.{NameFault}
use Rattle.cs_names.specs.declared.fault.NameFault.TheVariants as refused
use Rattle.cs_names.specs.declared.flaws.Flaw.{Flaw}
use Rattle.cs_names.specs.declared.flaws.Flaw.TheVariants as found
use Rattle.cs_names.specs.declared.flaws.Stop.{Stop}
use Rattle.cs_names.specs.declared.flaws.Stop.TheVariants as stops
use Rattle.cs_names.specs.declared.lifting.Lifted as code
use Rattle.cs_names.specs.declared.lifting.Lifting.{Lifting}
use Rattle.cs_names.specs.declared.nested.Path.{Path}
use Rattle.cs_names.specs.declared.scopes.Around.{Around}
use Rattle.cs_names.specs.declared.scopes.Entry.{Entry}
use Rattle.cs_names.specs.declared.scopes.Scope.{Scope}

-- ---- what is found

-- the search ends at the first that is found, if memory doesn't run out
abbrev pub EndsAt : Stop → List Flaw → Type 0
EndsAt stops.OutOfMemory fs = Unit {0}
EndsAt (stops.Flawed f) fs = slice_get fs 0 ≡ Some f

-- Ok where nothing is found
abbrev pub Finds : {Y : Type 0} → Result Y Stop → List Flaw → Type 0
Finds (Ok y) fs = fs ≡ []
Finds (Err e) fs = EndsAt e fs

-- the same in several files
abbrev pub FailsAny : NameFault → List (ℕ × Flaw) → Type 0
FailsAny refused.OutOfMemory fs = Unit {0}
FailsAny (refused.LeftOut i o) fs = slice_get fs 0 ≡ Some (i, found.LeftOut o)
FailsAny (refused.UnknownName i o) fs = slice_get fs 0 ≡ Some (i, found.Unknown o)
FailsAny (refused.NamesField i o) fs = slice_get fs 0 ≡ Some (i, found.Field o)
FailsAny (refused.Redeclared i o) fs = slice_get fs 0 ≡ Some (i, found.Again o)

abbrev pub FindsAny : {Y : Type 0} → Result Y NameFault → List (ℕ × Flaw) → Type 0
FindsAny (Ok y) fs = fs ≡ []
FindsAny (Err e) fs = FailsAny e fs

-- ---- scopes

abbrev pub entry_of : Scope → List ℕ → Option Entry
entry_of t s = tree.get_by (λ k. slice_cmp nat_cmp s k.now) t.names

-- the table has what a scope declares
abbrev pub TellsScope : Scope → M.Scope → Type 0
TellsScope t ds = (s : List ℕ) → entry_of t s ≡ entry ds s

-- but for a name
abbrev pub unless_hidden : Option (Bor (List ℕ)) → List ℕ → Option Entry → Option Entry
unless_hidden None s e = e
unless_hidden (Some h) s e = if bytes_eq h.now s then None else e

abbrev pub TellsAround : Around → M.Scope → Type 0
TellsAround a ds = (s : List ℕ) → unless_hidden a.hidden s (entry_of a.scope.now s) ≡ entry ds s

-- the scopes around an expression, from the innermost on
abbrev pub TellScopes : List Around → List M.Scope → Type 0
TellScopes [] [] = Unit {0}
TellScopes [] (ds ∷ scopes) = ⊥
TellScopes (a ∷ around) [] = ⊥
TellScopes (a ∷ around) (ds ∷ scopes) = TellsAround a ds × TellScopes around scopes

-- one declaration
abbrev pub declared_seen : ℕ → SeenDeclaration → M.Scope
declared_seen i (field_seen f) = declared_by i f.label
declared_seen i (embedding_seen o e) = []
declared_seen i (conditional_seen o cs e) = []

-- a nested definition, as all files share it; and those of one declaration
abbrev pub path_view : Path → M.Declared
path_view p = record { name = string_bytes p.text; place = p.place }

abbrev pub nested_seen : ℕ → List ℕ → SeenDeclaration → M.Scope
nested_seen i s (field_seen f) = nested_by i s f.label
nested_seen i s (embedding_seen o e) = untold i s
nested_seen i s (conditional_seen o cs e) = []

-- ---- what is lifted

abbrev pub place_cmp : Place → Place → Ordering
place_cmp p q = ordering_then (nat_cmp p.0 q.0) (nat_cmp p.1 q.1)

abbrev pub lifted_view : code.Lifted → S.Lifted
lifted_view t = record { place = t.place; text = t.text.now; name = string_bytes t.name; origin = t.origin }

-- the tables have what is lifted, beside the definitions of all files
pub record TellsLifts (l : Lifting) (all : List DefinitionTree) (ts : Lifts) : Type 0 where
  pub names : TellsTaken l.names all (is_lifted ts)
  pub known : (p : Place) → option_map string_bytes (tree.get place_cmp l.known p) ≡ known ts p
  pub opens : (s : List ℕ) → sorted.contains_text l.unclosed s ≡ is_open ts s
  pub order : map lifted_view l.order.items ≡ ts
  pub apart : AreApart all ts

-- with a field more, of a literal with that scope
abbrev pub lift_seen_field : List DefinitionTree → ℕ → List ℕ → M.Scope → Seen → Lifts → Lifts
lift_seen_field all i outer own f ts = lift_in all i
    (within (lift_own all outer (own_place own f.label) f.label.text ts) outer (own_place own f.label)) f.value (lift_own all outer (own_place own f.label) f.label.text ts)

abbrev pub lift_seen : List DefinitionTree → ℕ → List ℕ → M.Scope → SeenDeclaration → Lifts → Lifts
lift_seen all i outer own (field_seen f) ts = lift_seen_field all i outer own f ts
lift_seen all i outer own (embedding_seen o e) ts = lift_in all i outer e ts
lift_seen all i outer own (conditional_seen o cs e) ts = lift_in all i outer e ts

-- ---- flaws

abbrev pub flaws_field_seen : Lifts → ℕ → Bool → M.Scope → List M.Scope → Seen → List Flaw
flaws_field_seen ts i inner own scopes f = let_flaws own f.label ++ flaws ts i (inner || is_some f.label.scoped) (value_scope f.label own ∷ scopes) f.value

abbrev pub flaws_seen : Lifts → ℕ → Bool → M.Scope → List M.Scope → SeenDeclaration → List Flaw
flaws_seen ts i inner own scopes (field_seen f) = flaws_field_seen ts i inner own scopes f
flaws_seen ts i inner own scopes (embedding_seen o e) = flaws ts i inner (own ∷ scopes) e
flaws_seen ts i inner own scopes (conditional_seen o cs e) = flaws ts i inner (own ∷ scopes) e

-- ---- expressions without names

module _ (by : Place → Option (List ℕ)) (opens : List ℕ → Bool) (i : ℕ) (own : M.Scope) (scopes : List M.Scope) where
  abbrev pub resolved_field_seen : Seen → Seen
  resolved_field_seen f = record { label = f.label; mark = f.mark; value = resolved by opens i (value_scope f.label own ∷ scopes) f.value }

  -- a declaration that is kept
  abbrev pub resolved_seen : SeenDeclaration → SeenDeclaration
  resolved_seen (field_seen f) = field_seen (resolved_field_seen f)
  resolved_seen (embedding_seen o e) = embedding_seen o (resolved by opens i (own ∷ scopes) e)
  resolved_seen (conditional_seen o cs e) = conditional_seen o cs (resolved by opens i (own ∷ scopes) e)

  abbrev pub inside_field_seen : Seen → List DefinitionTree
  inside_field_seen f = label_definitions by own f.label (resolved by opens i (value_scope f.label own ∷ scopes) f.value) (inside by opens i (value_scope f.label own ∷ scopes) f.value)

  abbrev pub inside_seen : SeenDeclaration → List DefinitionTree
  inside_seen (field_seen f) = inside_field_seen f
  inside_seen (embedding_seen o e) = inside by opens i (own ∷ scopes) e
  inside_seen (conditional_seen o cs e) = inside by opens i (own ∷ scopes) e

-- a declaration is one of a name, and none of the data
abbrev pub is_scoped_seen : SeenDeclaration → Bool
is_scoped_seen (field_seen f) = is_some f.label.scoped
is_scoped_seen (embedding_seen o e) = false
is_scoped_seen (conditional_seen o cs e) = false

-- ---- names

abbrev pub field_has : Seen → Bool
field_has f = is_some f.label.scoped || has_name f.value

abbrev pub seen_has : SeenDeclaration → Bool
seen_has (field_seen f) = field_has f
seen_has (embedding_seen o e) = has_name e
seen_has (conditional_seen o cs e) = has_name e

-- an entry with a declaration more
abbrev pub again_entry : Option Entry → Option Place → Entry
again_entry None p = record { place = p; is_repeated = false }
again_entry (Some e) p = record { place = e.place; is_repeated = true }
