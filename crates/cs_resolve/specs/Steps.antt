-- What the steps from files to a package answer.
use Rattle.std.specs.Prelude.{◌≡◌, ℕ, true, List, [], map, length, slice_get, Some, Result, Ok, Err, Vec}
use Rattle.std.specs.Borrow.{Bor}
use Rattle.std.specs.BTreeSet.{BTreeSet}
use Rattle.std.specs.List.{AllByRecursion, flat_map, list_all}
use Rattle.std.specs.declared.alloc.Global.{Global}
use Rattle.cs_grammar.specs.Tree.{Tree, DefinitionTree, definitions}
use Rattle.cs_grammar.specs.View.{file_view}
use Rattle.cs_grammar.specs.declared.ast.File.{File}
use Rattle.cs_package.specs.Expression.{Expression}
use Rattle.cs_resolve.specs.Scopes.{Place, NameFault, unknown, of_field, faults}
use Rattle.cs_resolve.specs.Declarations.{distinct, bodies_of}
use Rattle.cs_resolve.specs.Narrowed.{HoldsTexts, TellsRefinements}
use Rattle.cs_resolve.specs.Refinement.{Refinements}
use Rattle.cs_resolve.specs.Resolved.{resolved}
use Rattle.cs_package.specs.View as View
use Rattle.cs_package.specs.View.{expression_of, is_known}
use Rattle.cs_package.specs.declared.shape.Shape.{Shape}
use Rattle.cs_resolve.specs.declared.shapes.Resolver.{Resolver}
use Rattle.cs_resolve.specs.declared.fault.ResolveFault.{ResolveFault}
use Rattle.cs_resolve.specs.declared.fault.ResolveFault.TheVariants.{OutOfMemory, PackageName, TooLarge, UnknownName, FieldReference, NotOpened}

-- the definitions of files
abbrev pub declared_in : List File → List DefinitionTree
declared_in fs = flat_map definitions (map file_view fs)

-- the set has each of these names, once
pub record HoldsNames (s : BTreeSet (Bor (List ℕ))) (ns : List (List ℕ)) : Type 0 where
  pub texts : HoldsTexts s (distinct ns)
  pub count : length s.keys ≡ length (distinct ns)

-- the faults at places in the file of that number
abbrev pub faults_in : ℕ → List (List ℕ) → List Place → List (ℕ × NameFault)
faults_in file names ps = map (λ x. (file, x)) (faults names ps)

-- the resolved bodies that definitions give to each of the names
abbrev pub gathered : Refinements → List (List ℕ) → List DefinitionTree → List (List Expression)
gathered rs names ds = map (λ n. map (resolved rs) (bodies_of n ds)) names

-- the refusal is for want of memory, or is the first of these faults of names
abbrev pub IsNameRefusal : ResolveFault → List (ℕ × NameFault) → Type 0
IsNameRefusal OutOfMemory faults = Unit {0}
IsNameRefusal (UnknownName f o) faults = slice_get faults 0 ≡ Some (f, unknown o)
IsNameRefusal (FieldReference f o) faults = slice_get faults 0 ≡ Some (f, of_field o)
IsNameRefusal (PackageName f) faults = ⊥
IsNameRefusal (TooLarge count) faults = ⊥
IsNameRefusal (NotOpened f o) faults = ⊥

-- what is answered is so, and no name is at fault; or it is refused for the first that is
abbrev pub Resolves : {X : Type 0} → Result X ResolveFault → (X → Type 0) → List (ℕ × NameFault) → Type 0
Resolves (Ok x) IsSo faults = IsSo x × (faults ≡ [])
Resolves (Err e) IsSo faults = IsNameRefusal e faults

-- the shape stands for the resolved expression, where the plain refinements and the names of the definitions are these, and
-- refers to these names alone
pub record IsShapeOf (rs : Refinements) (ns : List (List ℕ)) (s : Shape) (t : Tree) : Type 0 where
  pub same : expression_of ns s ≡ resolved rs t
  pub known : is_known (length ns) s ≡ true

-- the names of the definitions by which names are resolved
abbrev pub known_names : Resolver → List (List ℕ)
known_names r = View.names_of r.names.now.entries

-- what is answered is so for the plain refinements and these names, and no name at these places of the file is at fault; or
-- it is refused for the first that is
abbrev pub ResolvesIn : {X : Type 0} → Result X ResolveFault → Resolver → (Refinements → List (List ℕ) → X → Type 0) → List Place → Type 0
ResolvesIn answer r IsSo ps = (rs : Refinements) → TellsRefinements r.bases.now rs → Resolves answer (IsSo rs (known_names r)) (faults_in r.file (known_names r) ps)

-- these are the resolved bodies that definitions give to each of the names, as shapes that refer to these names alone
pub record AreBodiesOf (rs : Refinements) (ns : List (List ℕ)) (vs : List (Vec Shape Global)) (ds : List DefinitionTree) : Type 0 where
  pub same : View.bodies_of ns vs ≡ gathered rs ns ds
  pub known : AllByRecursion (λ v. list_all (is_known (length ns)) v.items ≡ true) vs
