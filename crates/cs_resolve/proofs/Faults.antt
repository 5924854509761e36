-- Faults of names, part by part, and what is refused for the first of them.
use Rattle.std.proofs.Common.{◌≡◌, ℕ, ◌+◌, ◌<◌, List, [], ◌∷◌, ◌++◌, map, drop, length, get_or, Option, Some, None, option_map, slice_get, inl, inr, refl, sym, ap, ◌∙◌, subst, add-one}
use Rattle.std.proofs.lemmas.Option.{same_Some}
use Rattle.std.specs.List.{flat_map}
use Rattle.cs_grammar.specs.Tree.{FileTree, definitions}
use Rattle.cs_grammar.specs.View.{definition_view, file_view}
use Rattle.cs_grammar.specs.declared.ast.File.{File}
use Rattle.cs_resolve.specs.Checks.{Refuses}
use Rattle.cs_resolve.specs.Declarations.{faults_from, faults_of_files, places_of}
use Rattle.cs_resolve.specs.Unopened.{unopened_files}
use Rattle.cs_resolve.specs.PackageName.{IsOnePackage}
use Rattle.cs_resolve.specs.Refinement.{Refinements, AreRefinements}
use Rattle.cs_resolve.specs.Resolved.{IsResolved, IsSmall}
use Rattle.cs_resolve.specs.Refusal.{IsRefusal}
use Rattle.cs_resolve.specs.Scopes.{NameFault}
use Rattle.cs_resolve.specs.Steps.{faults_in, IsNameRefusal}
use Rattle.cs_resolve.specs.declared.fault.ResolveFault.{ResolveFault}
use Rattle.cs_resolve.specs.declared.fault.ResolveFault.TheVariants.{OutOfMemory, UnknownName, FieldReference, NotOpened}
use Rattle.cs_resolve.proofs.Refusals.{at_place, cut}
use Rattle.cs_resolve.proofs.NameFaults.{Found}
pub use Rattle.cs_resolve.proofs.NameFaults.{faults_in-append, refused-same as refusal-same, refused-left as refusal-first}

-- the faults from a file on
pub faults-cut : (ns : List (List ℕ)) (fs : List File) (i : ℕ) (f : File) → i < length fs → f ≡ get_or fs i f → faults_from i ns (map file_view (drop i fs)) ≡ faults_in i ns (places_of (map definition_view f.definitions.items)) ++ faults_from (i + 1) ns (map file_view (drop (i + 1) fs))
faults-cut ns fs i f l is =
    ap (λ gs. faults_from i ns (map file_view gs)) (at_place fs i f l is)
    ∙ ap (λ j. faults_in i ns (places_of (map definition_view f.definitions.items)) ++ faults_from j ns (map file_view (drop (i + 1) fs))) (sym (add-one i))

-- ---- refusals for names

-- F gathers the faults of a list part by part, and the part at a place is refused
module _ {A : Type 0} (F : List A → Found) (h : A → Found) (parts : (a : A) (rest : List A) → F (a ∷ rest) ≡ h a ++ F rest) where
  pub refusal-at : (e : ResolveFault) (xs : List A) (i : ℕ) (a : A) → i < length xs → a ≡ get_or xs i a → F xs ≡ F (drop i xs) → IsNameRefusal e (h a) → IsNameRefusal e (F xs)
  refusal-at e xs i a l is all here =
      refusal-same e (h a ++ F (drop (i + 1) xs)) (F xs) (sym (cut F h parts xs i a l is all)) (refusal-first e (h a) (F (drop (i + 1) xs)) here)

-- where no name is at fault
pub refusal-none : (e : ResolveFault) (xs : Found) → xs ≡ [] → IsNameRefusal e xs → e ≡ OutOfMemory
refusal-none OutOfMemory xs none h = refl
refusal-none (UnknownName f o) xs none h = let first : slice_get {X = ℕ × NameFault} [] 0 ≡ Some _ = sym (ap (λ zs. slice_get zs 0) none) ∙ h in cc
refusal-none (FieldReference f o) xs none h = let first : slice_get {X = ℕ × NameFault} [] 0 ≡ Some _ = sym (ap (λ zs. slice_get zs 0) none) ∙ h in cc
refusal-none _ xs none h = absurd h

-- ---- refusals of files

pub name-refusal : (e : ResolveFault) (fs : List FileTree) → IsOnePackage fs → IsSmall fs → IsNameRefusal e (faults_of_files fs) → IsRefusal e fs
name-refusal OutOfMemory fs one small h = tt
name-refusal (UnknownName f o) fs one small h = (one, small, h)
name-refusal (FieldReference f o) fs one small h = (one, small, h)
name-refusal _ fs one small h = absurd h

abbrev unopened : ℕ × ℕ → ResolveFault
unopened p = NotOpened p.0 p.1

pub opening-refusal : (e : ResolveFault) (fs : List FileTree) (rs : Refinements) → AreRefinements (flat_map definitions fs) rs → IsOnePackage fs → IsSmall fs → IsResolved fs → Refuses e (λ p. NotOpened p.0 p.1) (unopened_files rs fs) → IsRefusal e fs
opening-refusal e fs rs are one small resolved (inl memory) = subst (λ x. IsRefusal x fs) (sym memory) tt
opening-refusal e fs rs are one small resolved (inr first) = by (slice_get (unopened_files rs fs) 0) refl first
  where
    by : (o : Option (ℕ × ℕ)) → slice_get (unopened_files rs fs) 0 ≡ o → option_map unopened o ≡ Some e → IsRefusal e fs
    by None is has = cc
    by (Some p) is has = subst (λ x. IsRefusal x fs) (same_Some (unopened p) e has) (one, small, resolved, record { refinements = rs; are_refinements = are; first = is })

-- where no literal is at fault
pub opening-none : (e : ResolveFault) (xs : List (ℕ × ℕ)) → xs ≡ [] → Refuses e (λ p. NotOpened p.0 p.1) xs → e ≡ OutOfMemory
opening-none e [] none (inl memory) = memory
opening-none e [] none (inr first) = cc
opening-none e (x ∷ xs) none h = cc
