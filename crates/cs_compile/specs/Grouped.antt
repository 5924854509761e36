-- The schemas of a struct's declared values, label by label; for private contracts and proofs alone.
use Rattle.std.specs.Prelude.{◌≡◌, ℕ, List, [], ◌∷◌, map, Bool, ◌&&◌, String, string_bytes, string_cmp, Vec, codes}
use Rattle.std.specs.declared.alloc.Global.{Global}
use Rattle.std.specs.BTreeMap.{BTreeMap, get, keys, IsOrdered}
use Rattle.std.specs.BTreeSet.{BTreeSet, insert_key, contains}
use Rattle.std.specs.Borrow.{Bor}
use Rattle.std.specs.Cmp.Lexicographic.{slice_cmp}
use Rattle.std.specs.List.{list_any}
use Rattle.std.specs.Option.{option_map_or}
use Rattle.std.specs.Ordering.{nat_cmp}
use Rattle.std.specs.Str.{bytes_eq}
use Rattle.cs_document.specs.Document.{Document, object, Members, no_members, member}
use Rattle.cs_document.specs.View.{members_of}
use Rattle.cs_package.specs.Expression.{Expression, DeclarationMark, Declaration}
use Rattle.cs_package.specs.View.{part_of, mark_of}
use Rattle.cs_package.specs.declared.shape.Part.{Part}
use Rattle.cs_profile.specs.SchemaDocument.{schema_view, schemas_view}
use Rattle.cs_profile.specs.declared.schema.Schema.{Schema}
use Rattle.cs_compile.specs.Translation.{schema_of, labels_of, must_be_there, values_of, one_or_all, labelled, under_every_key}
use Rattle.cs_compile.specs.declared.fields.Values.{Values}

-- a declaration, with the schema of its value
abbrev pub declared : List ℕ → DeclarationMark → Document → Declaration Document
declared l m d = record { label = l; mark = m; value = d }

abbrev pub declared_part : Part → Schema → Declaration Document
declared_part p s = declared (string_bytes p.label) (mark_of p.mark) (schema_view s)

abbrev pub with_schema : Declaration Expression → Declaration Document
with_schema d = declared d.label d.mark (schema_of d.value)

-- the declarations of a struct literal, where the names of the definitions are these
abbrev pub declarations_at : List (List ℕ) → List Part → List (Declaration Document)
declarations_at ns ps = map (λ p. with_schema (part_of ns p)) ps

-- the labels, each once, in byte order
abbrev pub in_order : List (List ℕ) → List (List ℕ)
in_order [] = []
in_order (l ∷ ls) = insert_key (slice_cmp nat_cmp) (in_order ls) l

abbrev pub Groups : Type 0
Groups = BTreeMap (String Global) (Vec Schema Global)

-- the schemas of a label, in order
abbrev pub group : Groups → String Global → List Document
group g l = option_map_or (λ v. schemas_view v.items) (get string_cmp g l) []

-- the groups of the declared values, those of each label in one
pub record IsGrouped (ds : List (Declaration Document)) (g : Groups) : Type 0 where
  pub ordered : IsOrdered string_cmp g
  pub labels : map string_bytes (keys g) ≡ in_order (labels_of ds)
  pub values : (l : String Global) → group g l ≡ values_of (string_bytes l) ds

-- the schema of maps with a value of a schema under every key
abbrev pub for_every_key : Document → Document
for_every_key d = object (member (codes "additionalProperties") d no_members)

-- the schemas of the declared values: those of each label in one group, and those of every key in their order
pub record AreValues (ds : List (Declaration Document)) (v : Values) : Type 0 where
  pub grouped : IsGrouped (labelled ds) v.labelled
  pub every : schemas_view v.every.items ≡ under_every_key ds

-- under each label one schema, that of its group
abbrev pub joined : Groups → Members
joined g = members_of (map (λ e. (e.0, one_or_all (schemas_view e.1.items))) g.entries)

-- a set of labels has the label
abbrev pub has_label : BTreeSet (Bor (List ℕ)) → Bor (List ℕ) → Bool
has_label s l = contains (λ x y. slice_cmp nat_cmp x.now y.now) s l

-- some declaration asks for the label
abbrev pub is_asked : List (Declaration Document) → List ℕ → Bool
is_asked ds l = list_any (λ d. bytes_eq l d.label && must_be_there d.mark) ds
