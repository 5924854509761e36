-- What the definitions say of whole schemas: the first fault of a walk, references, and trimming, by computation.
use Rattle.std.proofs.Common.{◌≡◌, negsuc, true, false, List, [], ◌∷◌, map, Some, None, codes, refl}
use Rattle.std.specs.Fmt.{digits}
use Rattle.std.specs.Prelude.{replicate}
use Rattle.cs_document.specs.Document.{Document, null, boolean, integer, text}
use Rattle.cs_document.proofs.SampleDocuments.{number as n, string as t, array as l, named_map as o}
use Rattle.cs_profile.specs.Places.{at_key, at_index}
use Rattle.cs_profile.specs.declared.keyword.Vocabulary.{Vocabulary}
use Rattle.cs_profile.specs.declared.keyword.Vocabulary.TheVariants as vocabulary
use Rattle.cs_profile.specs.Profile.{unknown, misshapen, undefined, walk_fault, name_fault}
use Rattle.cs_profile.specs.Trim.{trim}
use Rattle.cs_profile.proofs.Rows.{says}
use Prim.Native.String.{String}

-- ---- the first fault of a walk

walks_without : map (walk_fault vocabulary.Wide) (boolean true ∷ boolean false ∷ o [] ∷ says "allOf" (l (boolean true ∷ says "type" (t "null") ∷ [])) ∷ says "$defs" (o []) ∷ [])
    ≡ None ∷ None ∷ None ∷ None ∷ None ∷ []
walks_without = refl

no_schema : map (walk_fault vocabulary.Wide) (null ∷ n 0 ∷ t "" ∷ l [] ∷ says "allOf" (l (boolean true ∷ n 1 ∷ [])) ∷ says "$defs" (says "a/b" null) ∷ [])
    ≡ Some (misshapen [] []) ∷ Some (misshapen [] []) ∷ Some (misshapen [] []) ∷ Some (misshapen [] []) ∷ Some (misshapen (codes "/allOf/1") []) ∷ Some (misshapen (codes "/$defs/a~1b") []) ∷ []
unfolding at_key at_index digits
no_schema = refl

outside_profile : map (walk_fault vocabulary.Wide) (says "pattern" (t "") ∷ says "allOf" (l (says "x" null ∷ [])) ∷ says "$defs" (says "A" (says "$defs" (o []))) ∷ says "$defs" (says "A" (says "$schema" (t "https://json-schema.org/draft/2020-12/schema"))) ∷ [])
    ≡ Some (unknown [] (codes "pattern")) ∷ Some (unknown (codes "/allOf/0") (codes "x")) ∷ Some (unknown (codes "/$defs/A") (codes "$defs")) ∷ Some (unknown (codes "/$defs/A") (codes "$schema")) ∷ []
unfolding at_key at_index digits
outside_profile = refl

wrong_shape : map (walk_fault vocabulary.Wide) (says "minimum" (t "3") ∷ says "allOf" (l []) ∷ says "allOf" (o []) ∷ says "$defs" (l []) ∷ says "$defs" (says "A" (says "type" (t "int"))) ∷ [])
    ≡ Some (misshapen [] (codes "minimum")) ∷ Some (misshapen [] (codes "allOf")) ∷ Some (misshapen [] (codes "allOf")) ∷ Some (misshapen [] (codes "$defs")) ∷ Some (misshapen (codes "/$defs/A") (codes "type")) ∷ []
unfolding at_key
wrong_shape = refl

-- each keyword with a value that has not its shape; `const` takes any value, and a schema is looked at where it is
abbrev wrong : List (String × Document)
wrong =
    ("$ref", t "#/$defs/") ∷ ("type", t "int") ∷ ("enum", o []) ∷ ("minimum", t "3") ∷ ("maximum", null) ∷ ("exclusiveMinimum", boolean true) ∷ ("exclusiveMaximum", l []) ∷ ("maxItems", integer (negsuc 0)) ∷ ("maxLength", t "3") ∷ ("maxProperties", null) ∷ ("minItems", integer (negsuc 0)) ∷ ("minLength", integer (negsuc 9223372036854775807)) ∷ ("minProperties", o [])
    ∷ ("required", l (t "a" ∷ t "a" ∷ [])) ∷ ("properties", l []) ∷ ("prefixItems", l []) ∷ ("allOf", o []) ∷ ("anyOf", l []) ∷ ("title", n 1) ∷ ("description", null) ∷ ("$comment", l []) ∷ []

in_root : map (λ e. walk_fault vocabulary.Wide (says e.0 e.1)) wrong ≡ map (λ e. Some (misshapen [] (codes e.0))) wrong
in_root = refl

below_root : map (λ e. walk_fault vocabulary.Wide (says "not" (says e.0 e.1))) wrong ≡ map (λ e. Some (misshapen (codes "/not") (codes e.0))) wrong
unfolding at_key
below_root = refl

root_alone : map (λ (e : String × Document). walk_fault vocabulary.Wide (says e.0 e.1)) (("$schema", t "http://json-schema.org/draft-07/schema#") ∷ ("$defs", l []) ∷ []) ≡ Some (misshapen [] (codes "$schema")) ∷ Some (misshapen [] (codes "$defs")) ∷ []
root_alone = refl

schema_wrong : map (λ k. walk_fault vocabulary.Wide (says k (n 1))) ("additionalProperties" ∷ "items" ∷ "not" ∷ []) ≡ map (λ k. Some (misshapen (codes k) [])) ("/additionalProperties" ∷ "/items" ∷ "/not" ∷ [])
unfolding at_key
schema_wrong = refl

schemas_wrong : map (λ k. walk_fault vocabulary.Wide (says k (l (boolean true ∷ o [] ∷ null ∷ [])))) ("prefixItems" ∷ "allOf" ∷ "anyOf" ∷ []) ≡ map (λ k. Some (misshapen (codes k) [])) ("/prefixItems/2" ∷ "/allOf/2" ∷ "/anyOf/2" ∷ [])
unfolding at_key at_index digits
schemas_wrong = refl

named_wrong : map (λ k. walk_fault vocabulary.Wide (says k (o (("a", boolean true) ∷ ("b~c", t "") ∷ [])))) ("properties" ∷ "$defs" ∷ []) ≡ map (λ k. Some (misshapen (codes k) [])) ("/properties/b~0c" ∷ "/$defs/b~0c" ∷ [])
unfolding at_key
named_wrong = refl

-- each keyword with a value that it may have
right : map (λ (e : String × Document). walk_fault vocabulary.Wide (says "not" (says e.0 e.1))) (
    ("$ref", t "#/$defs/A") ∷ ("type", t "array") ∷ ("const", says "$defs" null) ∷ ("enum", l (says "x" null ∷ [])) ∷ ("minimum", n 3) ∷ ("maximum", integer (negsuc 2)) ∷ ("exclusiveMinimum", n 0) ∷ ("exclusiveMaximum", n 1) ∷ ("maxItems", n 0) ∷ ("maxLength", n 9223372036854775807) ∷ ("maxProperties", n 1) ∷ ("minItems", n 0) ∷ ("minLength", n 0) ∷ ("minProperties", n 9223372036854775807)
    ∷ ("required", l (t "a" ∷ t "b" ∷ [])) ∷ ("properties", says "$schema" (o [])) ∷ ("additionalProperties", boolean false) ∷ ("prefixItems", l (o [] ∷ [])) ∷ ("items", boolean true) ∷ ("allOf", l (boolean true ∷ []))
    ∷ ("anyOf", l (o [] ∷ boolean false ∷ [])) ∷ ("not", o []) ∷ ("title", t "") ∷ ("description", t "d") ∷ ("$comment", t "c") ∷ [])
    ≡ replicate 25 None
right = refl

-- the keywords of the wide vocabulary alone are unknown to the default one, at the place of their object, whatever their values
abbrev limits : List String
limits = "maxItems" ∷ "maxLength" ∷ "maxProperties" ∷ "minLength" ∷ "minProperties" ∷ []

limits_unknown : map (λ k. walk_fault vocabulary.Default (says k (n 1))) limits ≡ map (λ k. Some (unknown [] (codes k))) limits
limits_unknown = refl

limits_unknown_below : map (λ k. walk_fault vocabulary.Default (says "$defs" (says "A" (says k (t "x"))))) limits ≡ map (λ k. Some (unknown (codes "/$defs/A") (codes k))) limits
unfolding at_key
limits_unknown_below = refl

limits_known : map (λ k. walk_fault vocabulary.Wide (says k (n 1))) limits ≡ replicate 5 None
limits_known = refl

-- the first in the walk's order, where one is unknown to the default vocabulary alone
first_by_vocabulary : map (λ v. walk_fault v (o (("allOf", l (says "maxLength" (n 1) ∷ [])) ∷ ("minItems", null) ∷ []))) (vocabulary.Default ∷ vocabulary.Wide ∷ [])
    ≡ Some (unknown (codes "/allOf/0") (codes "maxLength")) ∷ Some (misshapen [] (codes "minItems")) ∷ []
unfolding at_key at_index digits
first_by_vocabulary = refl

-- what both take, and what neither does
alike_by_vocabulary : (v : Vocabulary) → map (walk_fault v) (says "minItems" (n 1) ∷ says "const" (says "maxLength" (n 1)) ∷ says "properties" (says "maxLength" (boolean true)) ∷ says "minItems" (integer (negsuc 0)) ∷ says "maxContains" (n 1) ∷ [])
    ≡ None ∷ None ∷ None ∷ Some (misshapen [] (codes "minItems")) ∷ Some (unknown [] (codes "maxContains")) ∷ []
alike_by_vocabulary v = refl

-- `$defs` and `$schema` are in the root alone, and other keys nowhere
unknown_below : map (walk_fault vocabulary.Wide) (
    says "not" (says "$defs" (o [])) ∷ says "properties" (says "$defs" (says "$schema" (t "https://json-schema.org/draft/2020-12/schema"))) ∷ says "items" (says "items" (says "$defs" (o [])))
    ∷ says "anyOf" (l (boolean true ∷ says "oneOf" null ∷ [])) ∷ says "additionalProperties" (says "format" (t "date")) ∷ [])
    ≡ Some (unknown (codes "/not") (codes "$defs")) ∷ Some (unknown (codes "/properties/$defs") (codes "$schema")) ∷ Some (unknown (codes "/items/items") (codes "$defs"))
    ∷ Some (unknown (codes "/anyOf/1") (codes "oneOf")) ∷ Some (unknown (codes "/additionalProperties") (codes "format")) ∷ []
unfolding at_key at_index digits
unknown_below = refl

-- the keys in their order, and the schemas under a key before the next key
first_of_two : map (walk_fault vocabulary.Wide) (o (("a", null) ∷ ("minimum", t "") ∷ []) ∷ o (("allOf", l (says "z" null ∷ [])) ∷ ("b", null) ∷ []) ∷ o (("maximum", null) ∷ ("n", null) ∷ []) ∷ [])
    ≡ Some (unknown [] (codes "a")) ∷ Some (unknown (codes "/allOf/0") (codes "z")) ∷ Some (misshapen [] (codes "maximum")) ∷ []
unfolding at_key at_index digits
first_of_two = refl

references_named : map name_fault (says "$ref" (t "#/$defs/A") ∷ o (("$defs", says "B" (boolean true)) ∷ ("$ref", t "#/$defs/A") ∷ []) ∷ o (("$defs", says "A" (boolean true)) ∷ ("$ref", t "#/$defs/A") ∷ []) ∷ boolean true ∷ [])
    ≡ Some (undefined [] (codes "A")) ∷ Some (undefined [] (codes "A")) ∷ None ∷ None ∷ []
references_named = refl

abbrev to : String → Document
to name = says "$ref" (text (codes name))

-- with the place of the schema below the root that refers to it; what is in a `const` refers to nothing
references_below : map name_fault (
    says "not" (to "#/$defs/A") ∷ says "properties" (says "a/b" (to "#/$defs/A")) ∷ says "allOf" (l (boolean true ∷ to "#/$defs/A" ∷ [])) ∷ says "$defs" (says "B" (says "items" (to "#/$defs/A"))) ∷ says "$defs" (says "A" (to "#/$defs/A"))
    ∷ says "const" (to "#/$defs/A") ∷ [])
    ≡ Some (undefined (codes "/not") (codes "A")) ∷ Some (undefined (codes "/properties/a~1b") (codes "A")) ∷ Some (undefined (codes "/allOf/1") (codes "A")) ∷ Some (undefined (codes "/$defs/B/items") (codes "A")) ∷ None ∷ None ∷ []
unfolding at_key at_index digits
references_below = refl

-- the first in the walk's order
first_reference : map name_fault (o (("$defs", says "A" (to "#/$defs/B")) ∷ ("$ref", t "#/$defs/C") ∷ []) ∷ o (("$ref", t "#/$defs/C") ∷ ("allOf", l (to "#/$defs/D" ∷ [])) ∷ []) ∷ o (("anyOf", l (to "#/$defs/E" ∷ to "#/$defs/F" ∷ [])) ∷ ("not", to "#/$defs/D") ∷ []) ∷ [])
    ≡ Some (undefined (codes "/$defs/A") (codes "B")) ∷ Some (undefined [] (codes "C")) ∷ Some (undefined (codes "/anyOf/0") (codes "E")) ∷ []
unfolding at_key at_index digits
first_reference = refl

-- ---- trimming

-- an object as root gets `$schema`, and a truth value does not
abbrev dialected : List (String × Document) → Document
dialected es = o (("$schema", t "https://json-schema.org/draft/2020-12/schema") ∷ es)

no_objects : map trim (boolean true ∷ boolean false ∷ null ∷ n 1 ∷ t "a" ∷ l (says "$defs" (o []) ∷ []) ∷ []) ≡ boolean true ∷ boolean false ∷ null ∷ n 1 ∷ t "a" ∷ l (says "$defs" (o []) ∷ []) ∷ []
no_objects = refl

left : map trim (o [] ∷ dialected [] ∷ says "$defs" (o []) ∷ o (("$defs", o []) ∷ ("type", t "null") ∷ []) ∷ [])
    ≡ dialected [] ∷ dialected [] ∷ dialected [] ∷ dialected (("type", t "null") ∷ []) ∷ []
left = refl

-- what stands stays, in its order, the value of `const` as it is
stays : trim (o (("$defs", says "A" (says "const" (o (("$defs", o []) ∷ ("$schema", null) ∷ [])))) ∷ ("$ref", t "#/$defs/A") ∷ ("maximum", n 1) ∷ []))
    ≡ o (("$defs", says "A" (says "const" (o (("$defs", o []) ∷ ("$schema", null) ∷ [])))) ∷ ("$ref", t "#/$defs/A") ∷ ("$schema", t "https://json-schema.org/draft/2020-12/schema") ∷ ("maximum", n 1) ∷ [])
stays = refl

all_stay : trim (says "allOf" (l (o [] ∷ boolean false ∷ says "allOf" (l (says "type" (t "null") ∷ [])) ∷ [])))
    ≡ dialected (("allOf", l (o [] ∷ boolean false ∷ says "allOf" (l (says "type" (t "null") ∷ [])) ∷ [])) ∷ [])
all_stay = refl

-- below the root there is no dialect to add, and what says nothing is left out as in the root
empty_below : map trim (
    says "not" (o (("$comment", t "c") ∷ ("description", t "d") ∷ ("properties", o []) ∷ ("required", l []) ∷ ("title", t "t") ∷ []))
    ∷ says "properties" (says "a" (says "items" (says "title" (t "t"))))
    ∷ says "anyOf" (l (says "required" (l []) ∷ boolean true ∷ []))
    ∷ says "prefixItems" (l (says "additionalProperties" (says "description" (t "d")) ∷ []))
    ∷ says "$defs" (says "A" (says "$comment" (t "c"))) ∷ [])
    ≡ dialected (("not", o []) ∷ []) ∷ dialected (("properties", says "a" (says "items" (o []))) ∷ []) ∷ dialected (("anyOf", l (o [] ∷ boolean true ∷ [])) ∷ [])
    ∷ dialected (("prefixItems", l (says "additionalProperties" (o []) ∷ [])) ∷ []) ∷ o (("$defs", says "A" (o [])) ∷ ("$schema", t "https://json-schema.org/draft/2020-12/schema") ∷ []) ∷ []
empty_below = refl

-- an empty `enum` validates nothing, and stays; so do the values of `enum` and `const`, and names that are no keywords there
says_something : map trim (
    says "not" (says "enum" (l [])) ∷ says "not" (says "enum" (l (says "title" (t "t") ∷ []))) ∷ says "not" (says "const" (says "required" (l []))) ∷ says "properties" (says "title" (boolean false)) ∷ says "not" (says "required" (l (t "a" ∷ []))) ∷ says "minItems" (n 0) ∷ says "minLength" (n 0) ∷ says "maxProperties" (n 9223372036854775807) ∷ [])
    ≡ dialected (("not", says "enum" (l [])) ∷ []) ∷ dialected (("not", says "enum" (l (says "title" (t "t") ∷ []))) ∷ []) ∷ dialected (("not", says "const" (says "required" (l []))) ∷ [])
    ∷ dialected (("properties", says "title" (boolean false)) ∷ []) ∷ dialected (("not", says "required" (l (t "a" ∷ []))) ∷ []) ∷ dialected (("minItems", n 0) ∷ []) ∷ dialected (("minLength", n 0) ∷ []) ∷ dialected (("maxProperties", n 9223372036854775807) ∷ []) ∷ []
says_something = refl
