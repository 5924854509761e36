-- The root of a compiled schema: a `$ref` beside the definitions, or the definitions alone.
use Rattle.std.proofs.Common.{◌≡◌, ℕ, List, [], ◌∷◌, ◌++◌, Bool, Some, IsSome, codes, String, Global, refl, ap, ap₂, ◌∙◌}
use Rattle.std.proofs.Math.Bool.{and-true}
use Rattle.std.proofs.lemmas.List.{append-nil}
use Rattle.cs_document.specs.Document.{Document, text, object, Members, no_members, member, entries, under}
use Rattle.cs_document.specs.View.{members_of}
use Rattle.cs_profile.specs.Keywords.{reference_start, defined}
use Rattle.cs_profile.specs.Shapes.{dialect}
use Rattle.cs_profile.specs.Trim.{with_dialect}
use Rattle.cs_profile.specs.SchemaDocument.{SchemaValue, document_of, schema_view, definitions_view, unless_no_map}
use Rattle.cs_profile.specs.Root.{reference_to, with_definitions}
use Rattle.cs_profile.specs.Validity.{IsValidity}
use Rattle.cs_compile.specs.Definitions.{definition_entries}

-- the root with these definitions, which refers to the definition n
abbrev pub root_of : Members → List ℕ → Document
root_of ms n = object (member (codes "$defs") (object ms) (member (codes "$ref") (text (reference_start ++ n)) (member (codes "$schema") (text dialect) no_members)))

some_there : (ds : List (String Global × Document)) (n : List ℕ) → IsSome (under n (entries (members_of ds))) → unless_no_map ds ≡ Some (object (members_of ds))
some_there [] n h = cc
some_there (d ∷ ds) n h = refl

-- a root of one `$ref`, put together with definitions of which the name is one
pub document_of-root : (s : SchemaValue) (n : List ℕ) → schema_view s.root ≡ reference_to n
    → IsSome (under n (definition_entries s.definitions)) → document_of s ≡ root_of (members_of (definitions_view s.definitions)) n
document_of-root s n root there =
    ap₂ (λ o d. with_dialect (with_definitions o d)) (some_there (definitions_view s.definitions) n there) root

-- its definitions
pub defined-root_of : (ms : Members) (n m : List ℕ) → defined (root_of ms n) m ≡ under m (entries ms)
defined-root_of ms n m = ap (under m) (append-nil (entries ms))

-- it validates what the definition of its name validates
pub valid-root_of : (ms : Members) (n : List ℕ) (d : Document) (V : Document → Document → Bool) → IsValidity (root_of ms n) V → under n (entries ms) ≡ Some d
    → (x : Document) → V (root_of ms n) x ≡ V d x
valid-root_of ms n d V g is x = g (root_of ms n) x ∙ rw (defined-root_of ms n n ∙ is) (and-true _)

-- ---- the root that asks nothing

abbrev dialect_alone : Members
dialect_alone = member (codes "$schema") (text dialect) no_members

-- the root with these definitions alone
abbrev pub bare_root : Members → Document
bare_root no_members = object dialect_alone
bare_root (member n d ms) = object (member (codes "$defs") (object (member n d ms)) dialect_alone)

definitions-beside : (ds : List (String Global × Document)) → with_dialect (with_definitions (unless_no_map ds) (object no_members)) ≡ bare_root (members_of ds)
definitions-beside [] = refl
definitions-beside (d ∷ ds) = refl

-- an object without a keyword, put together with definitions
pub document_of-bare : (s : SchemaValue) → schema_view s.root ≡ object no_members → document_of s ≡ bare_root (members_of (definitions_view s.definitions))
document_of-bare s root = ap (λ d. with_dialect (with_definitions (unless_no_map (definitions_view s.definitions)) d)) root ∙ definitions-beside (definitions_view s.definitions)

pub defined-bare_root : (ms : Members) (m : List ℕ) → defined (bare_root ms) m ≡ under m (entries ms)
defined-bare_root no_members m = refl
defined-bare_root (member n d ms) m = ap (under m) (append-nil (entries (member n d ms)))

-- a reference validates what the definition of its name validates
pub valid-reference : (R : Document) (n : List ℕ) (d : Document) (V : Document → Document → Bool) → IsValidity R V → defined R n ≡ Some d
    → (x : Document) → V (reference_to n) x ≡ V d x
valid-reference R n d V g is x = g (reference_to n) x ∙ rw is (and-true _)
