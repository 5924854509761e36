-- Offsets change nothing of a package, and nor does how its definitions are divided among files: a file that is the same as all files
-- together, apart from offsets, declares the same environment.
use Rattle.std.proofs.Common.{◌≡◌, ℕ, zero, suc, ◌+◌, ◌≤◌, ◌↔◌, List, [], ◌∷◌, ◌++◌, map, length, slice_get, Option, Some, None, refl, sym, ap, ap₂, ◌∙◌, subst}
use Rattle.std.specs.List.{flat_map}
use Rattle.std.specs.Option.{option_map}
use Rattle.std.proofs.lemmas.List.{append-nil, map-append}
use Rattle.std.proofs.lemmas.List.Sums.{sum_by-cons}
use Rattle.std.proofs.lemmas.Option.{slice_get-map}
use Rattle.cs_grammar.specs.declared.ast.FieldMark.{FieldMark}
use Rattle.cs_grammar.specs.declared.ast.FieldMark.TheVariants.{Regular, Optional, Required, Every}
use Rattle.cs_grammar.specs.Tree as T
use Rattle.cs_grammar.specs.Tree.{Tree, Trees, Fields, End, DefinitionTree, definition, defined_name, body, FileTree, file, definitions, package_name}
use Rattle.cs_package.specs.Environment.{Environment}
use Rattle.cs_package.specs.Expression as cue
use Rattle.cs_package.specs.Expression.{Expression, mark_of}
use Rattle.cs_print.specs.Printed.{unplaced_mark, unplaced, unplaced_all, unplaced_fields, unplaced_end, unplaced_definition, unplaced_file, joined_file}
use Rattle.cs_resolve.specs.ClosedBases.{bases, is_refinement}
use Rattle.cs_resolve.specs.Declarations.{distinct, names, bodies_of, declared}
use Rattle.cs_resolve.specs.Opening.{all_conjunctions, IsOpened}
use Rattle.cs_resolve.specs.PackageName.{IsOnePackage}
use Rattle.cs_resolve.specs.Refinement.{Refinements}
use Rattle.cs_resolve.specs.Resolved.{narrowed_operands, resolved, resolved_all, resolved_fields, resolved_end, environment_of_files, IsPackage}
use Rattle.cs_grammar.specs.Limits.{most_definitions, most_nodes}
use Rattle.cs_grammar.specs.Size.{nodes, nodes_of_definitions}
use Rattle.cs_resolve.proofs.BaseLaw.{found_refinements, one_refinements}
use Rattle.cs_widen.proofs.UnplacedTrees.{same_name, same_nodes}
use Rattle.cs_widen.proofs.UnplacedBases.{same_bodies, same_refinements}
use Rattle.cs_widen.proofs.UnplacedPlaces.{faults_in, no_faults, same_resolved}
use Rattle.cs_widen.proofs.UnplacedRule.{Keeps, same_rule}

-- ---- what trees resolve to

same_mark_of : (m : FieldMark) → mark_of (unplaced_mark m) ≡ mark_of m
same_mark_of Regular = refl
same_mark_of Optional = refl
same_mark_of Required = refl
same_mark_of (Every o) = refl

abbrev without : List DefinitionTree → List DefinitionTree
without ds = map unplaced_definition ds

-- a name with its resolved bodies
abbrev with_resolved : Refinements → List ℕ × List Tree → List ℕ × List Expression
with_resolved rs d = (d.0, map (resolved rs) d.1)

abbrev with_bodies : List DefinitionTree → List ℕ → List ℕ × List Tree
with_bodies ds n = (n, bodies_of n ds)

-- the plain refinements of one are those of the other
module _ (rs qs : Refinements) (same : (es : Trees) → qs (unplaced_all es) ≡ rs es) where
  mutual
    same_expression : (e : Tree) → resolved qs (unplaced e) ≡ resolved rs e
    same_expression (T.atom a) = refl
    same_expression (T.named s o) = refl
    same_expression (T.reference s o) = refl
    same_expression (T.conjunction es) = ap cue.conjunction (ap₂ narrowed_operands (same es) (same_expressions es))
    same_expression (T.disjunction es) = ap cue.disjunction (same_expressions es)
    same_expression (T.paren e) = same_expression e
    same_expression (T.struct o fs b) = ap (λ ds. cue.struct ds b) (same_declarations fs)
    same_expression (T.list es end) = ap₂ cue.list (same_expressions es) (same_rest end)
    same_expression (T.wide w) = refl

    same_expressions : (es : Trees) → resolved_all qs (unplaced_all es) ≡ resolved_all rs es
    same_expressions T.none = refl
    same_expressions (T.more e es) = ap₂ cue.expression (same_expression e) (same_expressions es)

    same_declarations : (fs : Fields) → resolved_fields qs (unplaced_fields fs) ≡ resolved_fields rs fs
    same_declarations T.no_field = refl
    same_declarations (T.field l m e fs) =
        ap (λ k. cue.declaration l.text k (resolved qs (unplaced e)) (resolved_fields qs (unplaced_fields fs))) (same_mark_of m)
        ∙ ap₂ (cue.declaration l.text (mark_of m)) (same_expression e) (same_declarations fs)

    same_rest : (end : End) → resolved_end qs (unplaced_end end) ≡ resolved_end rs end
    same_rest T.closed = refl
    same_rest T.any = refl
    same_rest (T.each e) = ap cue.each (same_expression e)

  same_all_resolved : (es : List Tree) → map (resolved qs) (map unplaced es) ≡ map (resolved rs) es
  same_all_resolved [] = refl
  same_all_resolved (e ∷ es) = ap₂ (λ x xs. x ∷ xs) (same_expression e) (same_all_resolved es)

  same_declared : (ds : List DefinitionTree) (ns : List (List ℕ))
      → map (with_resolved qs) (map (with_bodies (without ds)) ns) ≡ map (with_resolved rs) (map (with_bodies ds) ns)
  same_declared ds [] = refl
  same_declared ds (n ∷ ns) =
      let here = ap (map (resolved qs)) (same_bodies n ds) ∙ same_all_resolved (bodies_of n ds) in
      ap₂ (λ es rest. (n, es) ∷ rest) here (same_declared ds ns)

-- ---- definitions

-- their plain refinements, as they are computed
abbrev refinements_of : List DefinitionTree → Refinements
refinements_of ds = is_refinement (bases ds)

abbrev environment_of : List DefinitionTree → Environment
environment_of ds = map (with_resolved (refinements_of ds)) (declared ds)

-- what a package has of its definitions alone, whichever files they are in
record Declares (ds : List DefinitionTree) (E : Environment) : Type 0 where
  few : length (names ds) ≤ most_definitions
  nodes : nodes_of_definitions ds ≤ most_nodes
  resolved : faults_in (names ds) ds ≡ []
  opened : Keeps (all_conjunctions (refinements_of ds) ds)
  declares : E ≡ environment_of ds

declares_of : (fs : List FileTree) (E : Environment) → IsPackage fs E → Declares (flat_map definitions fs) E
declares_of fs E h =
    let ds = flat_map definitions fs in
    let same = one_refinements ds h.refinements (refinements_of ds) h.are_refinements (found_refinements ds) in
    record {
      few = h.small.definitions;
      nodes = h.small.nodes;
      resolved = (no_faults fs).0 h.resolved;
      opened = subst (λ rs. IsOpened rs fs) same h.opened;
      declares = h.declares ∙ ap (λ rs. environment_of_files rs fs) same;
    }

package_of : (fs : List FileTree) (E : Environment) → IsOnePackage fs → Declares (flat_map definitions fs) E → IsPackage fs E
package_of fs E agree h =
    let ds = flat_map definitions fs in
    record {
      agree = agree;
      small = record { definitions = h.few; nodes = h.nodes };
      resolved = (no_faults fs).1 h.resolved;
      refinements = refinements_of ds;
      are_refinements = found_refinements ds;
      opened = h.opened;
      declares = h.declares;
    }

same_defined : (ds : List DefinitionTree) → map defined_name (without ds) ≡ map defined_name ds
same_defined [] = refl
same_defined (d ∷ ds) = ap₂ (λ n ns. n ∷ ns) (same_name d) (same_defined ds)

same_names : (ds : List DefinitionTree) → names (without ds) ≡ names ds
same_names ds = ap distinct (same_defined ds)

same_size : (ds : List DefinitionTree) → nodes_of_definitions (without ds) ≡ nodes_of_definitions ds
same_size [] = refl
same_size (definition s o e ∷ ds) =
    sum_by-cons (λ d. nodes (body d)) (definition s 0 (unplaced e)) (without ds)
    ∙ ap₂ (λ m n. m + n) (same_nodes e) (same_size ds)
    ∙ sym (sum_by-cons (λ d. nodes (body d)) (definition s o e) ds)

same_environment : (ds : List DefinitionTree) → environment_of (without ds) ≡ environment_of ds
same_environment ds =
    ap (λ ns. map (with_resolved (refinements_of (without ds))) (map (with_bodies (without ds)) ns)) (same_names ds)
    ∙ same_declared (refinements_of ds) (refinements_of (without ds)) (same_refinements ds) ds (names ds)

same_opened : (ds : List DefinitionTree) → Keeps (all_conjunctions (refinements_of (without ds)) (without ds)) ↔ Keeps (all_conjunctions (refinements_of ds) ds)
same_opened ds = same_rule (refinements_of ds) (refinements_of (without ds)) (same_refinements ds) ds

-- definitions declare what they do without their offsets
without_offsets : (ds : List DefinitionTree) (E : Environment) → Declares ds E → Declares (without ds) E
without_offsets ds E h = record {
  few = subst (λ ns. length ns ≤ most_definitions) (sym (same_names ds)) h.few;
  nodes = subst (λ n. n ≤ most_nodes) (sym (same_size ds)) h.nodes;
  resolved = ap (λ ns. faults_in ns (without ds)) (same_names ds) ∙ (same_resolved (names ds) ds).1 h.resolved;
  opened = (same_opened ds).1 h.opened;
  declares = h.declares ∙ sym (same_environment ds);
}

with_offsets : (ds : List DefinitionTree) (E : Environment) → Declares (without ds) E → Declares ds E
with_offsets ds E h = record {
  few = subst (λ ns. length ns ≤ most_definitions) (same_names ds) h.few;
  nodes = subst (λ n. n ≤ most_nodes) (same_size ds) h.nodes;
  resolved = (same_resolved (names ds) ds).0 (sym (ap (λ ns. faults_in ns (without ds)) (same_names ds)) ∙ h.resolved);
  opened = (same_opened ds).0 h.opened;
  declares = h.declares ∙ same_environment ds;
}

other_offsets : (ds es : List DefinitionTree) (E : Environment) → without ds ≡ without es → Declares ds E → Declares es E
other_offsets ds es E same h = with_offsets es E (subst (λ xs. Declares xs E) same (without_offsets ds E h))

-- ---- files

-- a file alone is one package
alone : (f : FileTree) → IsOnePackage (f ∷ [])
alone f zero zero g k n m at-i at-j own-g own-k =
    let first : g ≡ k = cc in
    let named : Some n ≡ Some m = sym own-g ∙ ap package_name first ∙ own-k in
    cc
alone f zero (suc j) g k n m at-i at-j own-g own-k = cc
alone f (suc i) j g k n m at-i at-j own-g own-k = cc

-- the definitions of a file alone
own_definitions : (f : FileTree) → flat_map definitions (f ∷ []) ≡ definitions f
own_definitions f = append-nil (definitions f)

-- a file with the package clause of g stands there
abbrev HasAt : List FileTree → ℕ → FileTree → Type 0
HasAt fs i g = (f : FileTree) × (slice_get fs i ≡ Some f) × (package_name f ≡ package_name g)

same_place : (fs gs : List FileTree) → map unplaced_file fs ≡ map unplaced_file gs → (i : ℕ) (g : FileTree) → slice_get gs i ≡ Some g → HasAt fs i g
same_place fs gs same i g at =
    let there = ap (λ xs. slice_get xs i) same ∙ slice_get-map unplaced_file gs i ∙ ap (option_map unplaced_file) at in
    by (slice_get fs i) refl (sym (slice_get-map unplaced_file fs i) ∙ there)
  where
    by : (o : Option FileTree) → slice_get fs i ≡ o → option_map unplaced_file (slice_get fs i) ≡ Some (unplaced_file g) → HasAt fs i g
    by None is h = let no : None ≡ Some (unplaced_file g) = sym (ap (option_map unplaced_file) is) ∙ h in cc
    by (Some f) is h =
        let both : Some (unplaced_file f) ≡ Some (unplaced_file g) = sym (ap (option_map unplaced_file) is) ∙ h in
        let files : unplaced_file f ≡ unplaced_file g = cc in
        (f, is, ap package_name files)

same_agreement : (fs gs : List FileTree) → map unplaced_file fs ≡ map unplaced_file gs → IsOnePackage fs → IsOnePackage gs
same_agreement fs gs same one i j f g n m at-i at-j own-f own-g =
    let first = same_place fs gs same i f at-i in
    let second = same_place fs gs same j g at-j in
    one i j first.0 second.0 n m first.1 second.1 (first.2 ∙ own-f) (second.2 ∙ own-g)

same_definitions : (fs : List FileTree) → without (flat_map definitions fs) ≡ flat_map definitions (map unplaced_file fs)
same_definitions [] = refl
same_definitions (f ∷ fs) =
    map-append unplaced_definition (definitions f) (flat_map definitions fs)
    ∙ ap (λ ds. without (definitions f) ++ ds) (same_definitions fs)

-- files that are the same apart from offsets
pub same_package : (fs gs : List FileTree) (E : Environment) → map unplaced_file fs ≡ map unplaced_file gs → IsPackage fs E → IsPackage gs E
same_package fs gs E same h =
    let ds = flat_map definitions fs in
    let es = flat_map definitions gs in
    let same_ones = same_definitions fs ∙ ap (flat_map definitions) same ∙ sym (same_definitions gs) in
    package_of gs E (same_agreement fs gs same h.agree) (other_offsets ds es E same_ones (declares_of fs E h))

-- all files together
pub joined_package : (fs : List FileTree) (E : Environment) → IsPackage fs E → IsPackage (joined_file fs ∷ []) E
joined_package fs E h =
    let f = joined_file fs in
    package_of (f ∷ []) E (alone f) (subst (λ ds. Declares ds E) (sym (own_definitions f)) (declares_of fs E h))

-- and a file that is the same as them
pub printed_package : (fs : List FileTree) (tree : FileTree) (E : Environment)
    → unplaced_file tree ≡ unplaced_file (joined_file fs) → IsPackage fs E → IsPackage (tree ∷ []) E
printed_package fs tree E same h =
    same_package (joined_file fs ∷ []) (tree ∷ []) E (ap (λ f. f ∷ []) (sym same)) (joined_package fs E h)
