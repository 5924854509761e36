-- What the components of a schema are, worked by the definitions. A wrong expectation stops the check here.
use Rattle.std.proofs.Common.{◌≡◌, true, false, [], ◌∷◌, refl}
use Rattle.cs_document.specs.Document.{Document, null, boolean}
use Rattle.cs_document.proofs.SampleDocuments.{string as t, array as l, named_map as o, number}
use Rattle.cs_export.specs.Components.{components_of}

abbrev components : Document → Document
components d = o (("components", o (("schemas", d) ∷ [])) ∷ [])

-- a schema with one definition of these keywords, and a component of these
abbrev Becomes : Document → Document → Type 0
Becomes d e = components_of (o (("$defs", o (("P", d) ∷ [])) ∷ ("$ref", t "#/$defs/P") ∷ [])) ≡ components (o (("P", e) ∷ []))

-- ---- which references are moved

reference : Becomes (o (("$ref", t "#/$defs/Q.r-s_$1") ∷ [])) (o (("$ref", t "#/components/schemas/Q.r-s_$1") ∷ []))
reference = refl

-- the name may be empty, or begin as a reference does: what is in front is moved alone
front_alone : Becomes (o (("$ref", t "#/$defs/#/$defs/Q") ∷ ("not", o (("$ref", t "#/$defs/") ∷ [])) ∷ []))
    (o (("$ref", t "#/components/schemas/#/$defs/Q") ∷ ("not", o (("$ref", t "#/components/schemas/") ∷ [])) ∷ []))
front_alone = refl

-- another text stays, and so does what is no text
other_references : Becomes (o (("allOf", l (o (("$ref", t "#/$defs") ∷ []) ∷ o (("$ref", t "/$defs/Q") ∷ []) ∷ o (("$ref", l (t "#/$defs/Q" ∷ [])) ∷ []) ∷ [])) ∷ []))
    (o (("allOf", l (o (("$ref", t "#/$defs") ∷ []) ∷ o (("$ref", t "/$defs/Q") ∷ []) ∷ o (("$ref", l (t "#/$defs/Q" ∷ [])) ∷ []) ∷ [])) ∷ []))
other_references = refl

-- ---- where they are moved

abbrev before : Document
before = o (("$ref", t "#/$defs/Q") ∷ [])

abbrev after : Document
after = o (("$ref", t "#/components/schemas/Q") ∷ [])

in_one_schema : Becomes (o (("additionalProperties", before) ∷ ("items", before) ∷ ("not", before) ∷ [])) (o (("additionalProperties", after) ∷ ("items", after) ∷ ("not", after) ∷ []))
in_one_schema = refl

in_a_list : Becomes (o (("allOf", l (before ∷ boolean true ∷ before ∷ [])) ∷ ("anyOf", l (before ∷ [])) ∷ ("prefixItems", l (before ∷ [])) ∷ []))
    (o (("allOf", l (after ∷ boolean true ∷ after ∷ [])) ∷ ("anyOf", l (after ∷ [])) ∷ ("prefixItems", l (after ∷ [])) ∷ []))
in_a_list = refl

-- a property may be named as a keyword
in_a_map : Becomes (o (("properties", o (("$ref", before) ∷ ("const", before) ∷ ("x", boolean false) ∷ [])) ∷ [])) (o (("properties", o (("$ref", after) ∷ ("const", after) ∷ ("x", boolean false) ∷ [])) ∷ []))
in_a_map = refl

in_depth : Becomes (o (("items", o (("anyOf", l (o (("properties", o (("a", before) ∷ [])) ∷ []) ∷ [])) ∷ [])) ∷ [])) (o (("items", o (("anyOf", l (o (("properties", o (("a", after) ∷ [])) ∷ []) ∷ [])) ∷ [])) ∷ []))
in_depth = refl

-- what looks like a reference and is none stays, and so does what is under a key that is no keyword below the root
no_schemas : Becomes (o (("$defs", o (("Q", before) ∷ [])) ∷ ("$id", before) ∷ ("const", before) ∷ ("description", t "#/$defs/Q") ∷ ("enum", l (before ∷ [])) ∷ ("required", l (t "#/$defs/Q" ∷ [])) ∷ []))
    (o (("$defs", o (("Q", before) ∷ [])) ∷ ("$id", before) ∷ ("const", before) ∷ ("description", t "#/$defs/Q") ∷ ("enum", l (before ∷ [])) ∷ ("required", l (t "#/$defs/Q" ∷ [])) ∷ []))
no_schemas = refl

-- a list where a schema or a map is to be, and a schema where a list is to be
other_forms : Becomes (o (("allOf", before) ∷ ("items", l (before ∷ [])) ∷ ("properties", l (before ∷ [])) ∷ [])) (o (("allOf", before) ∷ ("items", l (before ∷ [])) ∷ ("properties", l (before ∷ [])) ∷ []))
other_forms = refl

truth : Becomes (boolean true) (boolean true)
truth = refl

-- ---- which definitions there are

each_once : components_of (o (("$defs", o (("A", before) ∷ ("B", boolean false) ∷ ("C", o []) ∷ [])) ∷ [])) ≡ components (o (("A", after) ∷ ("B", boolean false) ∷ ("C", o []) ∷ []))
each_once = refl

none : components_of (o (("$schema", t "s") ∷ [])) ≡ components (o [])
none = refl

no_map : components_of (o (("$defs", number 1) ∷ [])) ≡ components (o [])
no_map = refl

no_object : components_of null ≡ components (o [])
no_object = refl
