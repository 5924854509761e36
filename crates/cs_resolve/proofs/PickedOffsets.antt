-- The offsets of faults are some of those that a tree has, in the same order.
use Rattle.std.proofs.Common.{ℕ, suc, ◌≤◌, Bool, true, false, ◌||◌, List, [], ◌∷◌, ◌++◌, is_some, arith}
use Rattle.std.specs.List.{list_any}
use Rattle.std.specs.Str.{bytes_eq}
use Rattle.cs_grammar.specs.Tree.{Label, Tree, named, reference, conjunction, disjunction, paren, struct, list, Trees, none, more, Fields, no_field, field, End, closed, any, each, DefinitionTree, body, defined_name}
use Rattle.cs_grammar.specs.declared.ast.FieldMark.{FieldMark}
use Rattle.cs_grammar.specs.declared.ast.FieldMark.TheVariants.{Regular, Optional, Required, Every}
use Rattle.cs_resolve.specs.Declarations.{places_of}
use Rattle.cs_resolve.specs.Offsets.{offset}
use Rattle.cs_resolve.specs.Opening.{one, Named, named_fields, values, declared_for}
use Rattle.cs_resolve.specs.Unopened.{joined_demand_open, demands_open, demands_open_of, at_fault, unopened, unopened_all, unopened_fields, unopened_end, unopened_definitions}
use Rattle.cs_resolve.specs.Refinement.{Refinements}
use Rattle.cs_resolve.specs.Predeclared.{predeclared}
use Rattle.cs_resolve.specs.Scopes.{labels, names_field, Place, a_name, a_reference, key_places, places, places_all, places_fields, places_end, name_faults, reference_faults, place_faults, faults}
use Rattle.cs_resolve.proofs.MarkOrder.{key_marks, marks, marks_all, marks_in, marks_end, marks_of, Within}

-- ---- some of the marks

-- the values of xs by f are some of these numbers, in the same order
pub data Picks {X : Type 0} (f : X → ℕ) : List X → List ℕ → Type 0 where
  nothing : Picks f [] []
  taken : {x : X} {xs : List X} {os : List ℕ} → Picks f xs os → Picks f (x ∷ xs) (f x ∷ os)
  left : {o : ℕ} {xs : List X} {os : List ℕ} → Picks f xs os → Picks f xs (o ∷ os)

module _ {X : Type 0} (f : X → ℕ) where
  join_picks : {xs ys : List X} {os ps : List ℕ} → Picks f xs os → Picks f ys ps → Picks f (xs ++ ys) (os ++ ps)
  join_picks nothing k = k
  join_picks (taken h) k = taken (join_picks h k)
  join_picks (left h) k = left (join_picks h k)

  -- they rise, from o on
  abbrev pub Rise : ℕ → List X → Type 0
  Rise o [] = Unit {0}
  Rise o (x ∷ xs) = (o ≤ f x) × Rise (suc (f x)) xs

  rise_later : (o p : ℕ) (xs : List X) → o ≤ p → Rise p xs → Rise o xs
  rise_later o p [] le h = tt
  rise_later o p (x ∷ xs) le h = let at = h.0 in (omega arith, h.1)

  pub picks_rise : {xs : List X} {os : List ℕ} → Picks f xs os → (o p : ℕ) → Within o os p → Rise o xs
  picks_rise nothing o p h = tt
  picks_rise (taken {x} {xs} {os} k) o p h = (h.0, picks_rise k (suc (f x)) p h.1)
  picks_rise (left {o = q} {xs} {os} k) o p h = let at = h.0 in rise_later o (suc q) xs (omega arith) (picks_rise k (suc q) p h.1)

-- ---- places of names

abbrev pub at : Place → ℕ
at (a_name around t o) = o
at (a_reference t o) = o

-- the name in the brackets of `[string]`
key_picks : (around : List (List Label)) (m : FieldMark) → Picks at (key_places around m) (key_marks m)
key_picks around Regular = nothing
key_picks around Optional = nothing
key_picks around Required = nothing
key_picks around (Every o) = taken nothing

mutual
  place_picks : (around : List (List Label)) (e : Tree) → Picks at (places around e) (marks e)
  place_picks around (named t o) = taken nothing
  place_picks around (reference t o) = taken nothing
  place_picks around (conjunction es) = place_picks_all around es
  place_picks around (disjunction es) = place_picks_all around es
  place_picks around (paren e) = place_picks around e
  place_picks around (struct o fs b) = left (place_picks_in (labels fs ∷ around) fs)
  place_picks around (list es end) = join_picks at (place_picks_all around es) (place_picks_end around end)
  place_picks around _ = nothing

  place_picks_all : (around : List (List Label)) (es : Trees) → Picks at (places_all around es) (marks_all es)
  place_picks_all around none = nothing
  place_picks_all around (more e es) = join_picks at (place_picks around e) (place_picks_all around es)

  place_picks_in : (around : List (List Label)) (fs : Fields) → Picks at (places_fields around fs) (marks_in fs)
  place_picks_in around no_field = nothing
  place_picks_in around (field l m e fs) = join_picks at (join_picks at (key_picks around m) (place_picks around e)) (place_picks_in around fs)

  place_picks_end : (around : List (List Label)) (end : End) → Picks at (places_end around end) (marks_end end)
  place_picks_end around closed = nothing
  place_picks_end around any = nothing
  place_picks_end around (each e) = place_picks around e

pub place_picks_of : (ds : List DefinitionTree) → Picks at (places_of ds) (marks_of ds)
place_picks_of [] = nothing
place_picks_of (d ∷ ds) = join_picks at (place_picks [] (body d)) (place_picks_of ds)

-- ---- faults at places

name_fault_picks : (o : ℕ) (a b : Bool) → Picks offset (name_faults o a b) (o ∷ [])
name_fault_picks o true b = taken nothing
name_fault_picks o false true = left nothing
name_fault_picks o false false = taken nothing

reference_fault_picks : (o : ℕ) (a : Bool) → Picks offset (reference_faults o a) (o ∷ [])
reference_fault_picks o true = left nothing
reference_fault_picks o false = taken nothing

fault_picks : (ns : List (List ℕ)) (p : Place) → Picks offset (place_faults ns p) (at p ∷ [])
fault_picks ns (a_name around t o) = name_fault_picks o (names_field t around) (is_some (predeclared t))
fault_picks ns (a_reference t o) = reference_fault_picks o (list_any (bytes_eq t) ns)

pub faults_pick : (ns : List (List ℕ)) {ps : List Place} {os : List ℕ} → Picks at ps os → Picks offset (faults ns ps) os
faults_pick ns nothing = nothing
faults_pick ns (taken {x} k) = join_picks offset (fault_picks ns x) (faults_pick ns k)
faults_pick ns (left k) = left (faults_pick ns k)

-- ---- literals

abbrev pub own : ℕ → ℕ
own o = o

at_fault_picks : (demanded opened : Bool) (o : ℕ) → Picks own (at_fault demanded opened o) (o ∷ [])
at_fault_picks true false o = taken nothing
at_fault_picks true true o = left nothing
at_fault_picks false opened o = left nothing

-- no literal stands in those brackets
behind_key : (m : FieldMark) {xs os : List ℕ} → Picks own xs os → Picks own xs (key_marks m ++ os)
behind_key Regular k = k
behind_key Optional k = k
behind_key Required k = k
behind_key (Every o) k = left k

mutual
  literal_picks : (rs : Refinements) (demanded : Bool) (e : Tree) → Picks own (unopened rs demanded e) (marks e)
  literal_picks rs demanded (named t o) = left nothing
  literal_picks rs demanded (reference t o) = left nothing
  literal_picks rs demanded (conjunction es) = literal_picks_all rs (demanded || joined_demand_open rs es) es
  literal_picks rs demanded (disjunction es) = literal_picks_all rs demanded es
  literal_picks rs demanded (paren e) = literal_picks rs demanded e
  literal_picks rs demanded (struct o fs opened) = join_picks own (at_fault_picks demanded opened o) (literal_picks_in rs demanded (named_fields fs) fs)
  literal_picks rs demanded (list es end) = join_picks own (literal_picks_all rs demanded es) (literal_picks_end rs demanded end)
  literal_picks rs demanded _ = nothing

  literal_picks_all : (rs : Refinements) (demanded : Bool) (es : Trees) → Picks own (unopened_all rs demanded es) (marks_all es)
  literal_picks_all rs demanded none = nothing
  literal_picks_all rs demanded (more e es) = join_picks own (literal_picks rs demanded e) (literal_picks_all rs demanded es)

  literal_picks_in : (rs : Refinements) (demanded : Bool) (all : List Named) (fs : Fields) → Picks own (unopened_fields rs demanded all fs) (marks_in fs)
  literal_picks_in rs demanded all no_field = nothing
  literal_picks_in rs demanded all (field l m e fs) = join_picks own (behind_key m (literal_picks rs (demanded || demands_open_of (declared_for l m) all) e)) (literal_picks_in rs demanded all fs)

  literal_picks_end : (rs : Refinements) (demanded : Bool) (end : End) → Picks own (unopened_end rs demanded end) (marks_end end)
  literal_picks_end rs demanded closed = nothing
  literal_picks_end rs demanded any = nothing
  literal_picks_end rs demanded (each e) = literal_picks rs demanded e

pub literal_picks_of : (rs : Refinements) (all : List Named) (ds : List DefinitionTree) → Picks own (unopened_definitions rs all ds) (marks_of ds)
literal_picks_of rs all [] = nothing
literal_picks_of rs all (d ∷ ds) = join_picks own (literal_picks rs (demands_open (values (one (defined_name d)) all)) (body d)) (literal_picks_of rs all ds)
