-- Samples of what the first edition took for a package. A wrong expectation stops the check here.
use Rattle.std.proofs.Common.{◌≡◌, ℕ, Bool, true, false, List, [], ◌∷◌, length, get_or, Some, None, codes, inl, inr, refl, ap, arith}
use Rattle.cs_grammar.specs.Tree.{written_label, Tree, named, reference, conjunction, struct, Trees, none, more, no_field, field, DefinitionTree, definition, FileTree, file}
use Rattle.cs_grammar.specs.declared.ast.FieldMark.TheVariants.{Regular}
use Rattle.cs_package.specs.Environment.{Environment}
use Rattle.cs_package.specs.Expression as cue
use Rattle.cs_package.specs.Expression.{Expression}
use Rattle.cs_package.specs.View.{expressions_of}
use Rattle.cs_resolve.specs.ClosedBases.{bases, is_refinement}
use Rattle.cs_resolve.specs.Earlier.{no_refinements, IsPackageEarlier}
use Rattle.cs_resolve.specs.Opening.{conjunctions, KeepsRule, IsOpened}
use Rattle.cs_resolve.specs.Refinement.{Refinements}
use Rattle.cs_resolve.specs.Resolved.{resolved, environment_of_files}
use Rattle.cs_resolve.proofs.OnePackage.{one_package}

-- ---- short forms

-- `{k: int}` at an offset, and whether it ends with `...`; the same resolved
abbrev literal : ℕ → Bool → Tree
literal o opened = struct o (field (written_label (codes "k") false) Regular (named (codes "int") 0) no_field) opened

abbrev k_int : Bool → Expression
k_int opened = cue.struct (cue.declaration (codes "k") cue.regular (cue.kind cue.int) cue.no_declarations) opened

-- `#B: {k: int}`
abbrev base : DefinitionTree
base = definition (codes "B") 0 (literal 4 false)

-- `#B` and `{k: int}`, or `{k: int, ...}`, and both joined by `&`
abbrev b_and : Bool → Trees
b_and opened = more (reference (codes "B") 4) (more (literal 9 opened) none)

-- a file with `#B: {k: int}`, and one with `#C: e`
abbrev with_b : Tree → List FileTree
with_b e = file None (base ∷ []) [] ∷ file None (definition (codes "C") 0 e ∷ []) [] ∷ []

-- the plain refinements of `#B: {k: int}` alone
abbrev of_base : Refinements
of_base = is_refinement (bases (base ∷ []))

-- the two environments of `#B: {k: int}` with `#C: #B & {k: int}`, where the literal of #C is read as it is written or not
abbrev b_and_c : Bool → Environment
b_and_c opened = (codes "B", k_int false ∷ []) ∷ (codes "C", cue.conjunction (expressions_of (cue.reference (codes "B") ∷ k_int opened ∷ [])) ∷ []) ∷ []

-- ---- the opening rule

-- `#B & {k: int}` was no plain refinement, and is one now
refinement_earlier : no_refinements (b_and false) ≡ false
refinement_earlier = refl

refinement_now : of_base (b_and false) ≡ true
refinement_now = refl

-- so it asked its literal to end with `...`, which it doesn't do now
asked : ¬ KeepsRule (reference (codes "B") 4 ∷ literal 9 false ∷ [])
asked (inl few) = omega (arith, few)
asked (inr all) = let e = all.0 in cc

narrowed : ¬ IsOpened no_refinements (with_b (conjunction (b_and false)))
narrowed h = asked h.1.1.1.0

asked_of_none_now : conjunctions of_base (conjunction (b_and false)) ≡ (named (codes "int") 0 ∷ []) ∷ []
asked_of_none_now = refl

-- `#C: #B & {k: int, ...}`, and `#C: {k: int}`
opened_literal : IsOpened no_refinements (with_b (conjunction (b_and true)))
opened_literal = (inl (omega arith), (inl (omega arith), (inl (omega arith), (inr (refl, tt), (inl (omega arith), tt)))))

alone : IsOpened no_refinements (with_b (literal 4 false))
alone = (inl (omega arith), (inl (omega arith), (inl (omega arith), (inl (omega arith), tt))))

-- `#B: {k: int}` in one file and `#B: #C` in the next: the bodies of a name are a conjunction
two_bodies : ¬ IsOpened no_refinements (file None (base ∷ []) [] ∷ file None (definition (codes "B") 0 (reference (codes "C") 4) ∷ []) [] ∷ [])
two_bodies h = by h.0
  where
    by : KeepsRule (literal 4 false ∷ reference (codes "C") 4 ∷ []) → ⊥
    by (inl few) = omega (arith, few)
    by (inr all) = let e = all.0 in cc

-- ---- environments

-- the literal of `#C: #B & {k: int}` was read as it is written, and ends with `...` now
as_written : environment_of_files no_refinements (with_b (conjunction (b_and false))) ≡ b_and_c false
as_written = refl

read_opened_now : resolved of_base (conjunction (b_and false)) ≡ cue.conjunction (expressions_of (cue.reference (codes "B") ∷ k_int true ∷ []))
read_opened_now = refl

-- `#B: {k: int}` and `#C: int` with `#B: string`: all bodies of a name, by file and then by text
each_body : environment_of_files no_refinements (file None (base ∷ definition (codes "C") 20 (named (codes "int") 24) ∷ []) [] ∷ file None (definition (codes "B") 0 (named (codes "string") 4) ∷ []) [] ∷ [])
    ≡ (codes "B", k_int false ∷ cue.kind cue.string ∷ []) ∷ (codes "C", cue.kind cue.int ∷ []) ∷ []
each_body = refl

-- ---- packages

-- `#B: {k: int}` with `#C: #B & {k: int, ...}`
abbrev opened_package : List FileTree
opened_package = with_b (conjunction (b_and true))

was_package : IsPackageEarlier opened_package (b_and_c true)
was_package = record {
  agree = (one_package opened_package).0 refl;
  small = record { definitions = omega arith; nodes = omega arith };
  resolved = refl;
  opened = opened_literal;
  declares = refl;
}

-- no other one: without #C
other_environment : ¬ IsPackageEarlier opened_package ((codes "B", k_int false ∷ []) ∷ [])
other_environment h = omega (arith, ap length h.declares)

-- `#C: #B & {k: int}`, `#C: #D`, and `package p` with `package q`
not_opened : (E : Environment) → ¬ IsPackageEarlier (with_b (conjunction (b_and false))) E
not_opened E h = narrowed h.opened

not_resolved : (E : Environment) → ¬ IsPackageEarlier (with_b (reference (codes "D") 4)) E
not_resolved E h = let e = h.resolved in cc

two_names : (E : Environment) → ¬ IsPackageEarlier (file (Some (codes "p")) [] [] ∷ file (Some (codes "q")) [] [] ∷ []) E
two_names E h = let e : codes "p" ≡ codes "q" = h.agree 0 1 _ _ _ _ refl refl refl refl in omega (arith, ap (λ n. get_or n 0 0) e)
