-- What the parts of an expression resolve to, where sets hold the labels of the struct literals around it.
use Rattle.std.specs.Prelude.{◌≡◌, ℕ, Bool, true, List, Result, map, length}
use Rattle.std.specs.Borrow.{Bor}
use Rattle.std.specs.BTreeSet.{BTreeSet, contains_by}
use Rattle.std.specs.Cmp.Lexicographic.{slice_cmp}
use Rattle.std.specs.List.{list_any, list_all}
use Rattle.std.specs.Ordering.{nat_cmp}
use Rattle.cs_grammar.specs.Tree.{Label, Trees, Fields, End}
use Rattle.cs_resolve.specs.Refinement.{Refinements}
use Rattle.cs_resolve.specs.Resolved.{resolved_all, resolved_fields, resolved_end}
use Rattle.cs_resolve.specs.Scopes.{Place, has_label, names_field}
use Rattle.cs_resolve.specs.Steps.{ResolvesIn}
use Rattle.cs_resolve.specs.declared.fault.ResolveFault.{ResolveFault}
use Rattle.cs_resolve.specs.declared.shapes.Resolver.{Resolver}
use Rattle.cs_package.specs.View.{expression_of, expressions_of, part_of, declarations_of, rest_of, is_known, is_known_part, is_known_end}
use Rattle.cs_package.specs.declared.shape.Shape.{Shape}
use Rattle.cs_package.specs.declared.shape.ShapeEnd.{ShapeEnd}
use Rattle.cs_package.specs.declared.shape.Part.{Part}

abbrev pub has_text : List ℕ → BTreeSet (Bor (List ℕ)) → Bool
has_text t s = contains_by (λ k. slice_cmp nat_cmp t k.now) s

-- the set holds the identifier labels among these
abbrev pub HoldsLabels : BTreeSet (Bor (List ℕ)) → List Label → Type 0
HoldsLabels s ls = (t : List ℕ) → has_text t s ≡ has_label t ls

-- the sets together hold what can be referred to in these literals
abbrev pub HoldAround : List (BTreeSet (Bor (List ℕ))) → List (List Label) → Type 0
HoldAround sets scopes = (t : List ℕ) → list_any (has_text t) sets ≡ names_field t scopes

-- the shapes stand for the resolved expressions, as one does (IsShapeOf); likewise the declarations of a struct
-- literal, and the end of a list
pub record AreShapesOf (rs : Refinements) (ns : List (List ℕ)) (ss : List Shape) (ts : Trees) : Type 0 where
  pub same : expressions_of (map (expression_of ns) ss) ≡ resolved_all rs ts
  pub known : list_all (is_known (length ns)) ss ≡ true

pub record ArePartsOf (rs : Refinements) (ns : List (List ℕ)) (ps : List Part) (fs : Fields) : Type 0 where
  pub same : declarations_of (map (part_of ns) ps) ≡ resolved_fields rs fs
  pub known : list_all (is_known_part (length ns)) ps ≡ true

pub record IsEndOf (rs : Refinements) (ns : List (List ℕ)) (s : ShapeEnd) (e : End) : Type 0 where
  pub same : rest_of ns s ≡ resolved_end rs e
  pub known : is_known_end (length ns) s ≡ true

-- what is answered is so, and no name is at fault, where sets hold the labels of the literals around, innermost first
abbrev pub ResolvesAround : {X : Type 0} → Result X ResolveFault → Resolver → List (BTreeSet (Bor (List ℕ))) → (Refinements → List (List ℕ) → X → Type 0) → (List (List Label) → List Place) → Type 0
ResolvesAround answer r sets IsSo found = (scopes : List (List Label)) → HoldAround sets scopes → ResolvesIn answer r IsSo (found scopes)
