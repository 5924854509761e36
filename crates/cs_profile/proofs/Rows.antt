-- Schemas with documents that they validate and documents that they do not, by computation.
use Rattle.std.proofs.Common.{◌≡◌, ℕ, negsuc, Bool, true, false, List, [], ◌∷◌, ◌++◌, codes, refl}
use Rattle.std.specs.List.{list_all, list_any}
use Rattle.cs_document.specs.Document.{Document, null, boolean, integer, text}
use Rattle.cs_document.proofs.SampleDocuments.{number as n, string as t, array as l, named_map as o}
use Rattle.cs_profile.specs.Validity.{IsValidity}
use Rattle.cs_profile.specs.Refusal.{IsLoop}
use Rattle.cs_profile.proofs.Unfolded.{unfolded, all_valid, none_valid}
use Prim.Native.String.{String}

-- a schema of one keyword
abbrev pub says : String → Document → Document
says keyword v = o ((keyword, v) ∷ [])

abbrev pub typed : String → Document
typed kind = says "type" (t kind)

-- a schema document of one definition that the root refers to
abbrev defines : String → Document → Document
defines name schema =
    o (("$defs", says name schema) ∷ ("$ref", text (codes "#/$defs/" ++ codes name)) ∷ ("$schema", t "https://json-schema.org/draft/2020-12/schema") ∷ [])

-- the schema document R validates each of the documents `valid`, and none of the documents `invalid`
pub record Judges (R : Document) (valid invalid : List Document) : Type 0 where
  pub all : {V : Document → Document → Bool} → IsValidity R V → list_all (V R) valid ≡ true
  pub none : {V : Document → Document → Bool} → IsValidity R V → list_any (V R) invalid ≡ false

-- by so many steps, whatever comes after them
judges : (k : ℕ) (R : Document) (valid invalid : List Document)
    → ((V : Document → Document → Bool) → (list_all (unfolded k R V R) valid ≡ true) × (list_any (unfolded k R V R) invalid ≡ false))
    → Judges R valid invalid
judges k R valid invalid e = record {
  all = λ {V} h. all_valid k R h valid (e V).0;
  none = λ {V} h. none_valid k R h invalid (e V).1;
}

-- #P: int & >=1 & <=65535
port : Judges
    (defines "P" (says "allOf" (l (typed "integer" ∷ o (("minimum", n 1) ∷ ("type", t "number") ∷ []) ∷ o (("maximum", n 65535) ∷ ("type", t "number") ∷ []) ∷ []))))
    (n 1 ∷ n 65535 ∷ [])
    (n 0 ∷ n 65536 ∷ t "1" ∷ [])
port = judges 5 _ _ _ (λ V. (refl, refl))

-- #T: {v: int, kids?: [...#T]}
tree : Judges
    (defines "T" (o (
    ("additionalProperties", boolean false)
    ∷ ("properties", o (("kids", o (("items", says "$ref" (t "#/$defs/T")) ∷ ("type", t "array") ∷ [])) ∷ ("v", typed "integer") ∷ []))
    ∷ ("required", l (t "v" ∷ []))
    ∷ ("type", t "object") ∷ []
    )))
    (o (("kids", l (says "v" (n 2) ∷ [])) ∷ ("v", n 1) ∷ []) ∷ [])
    (o (("kids", l (o [] ∷ [])) ∷ ("v", n 1) ∷ []) ∷ [])
tree = judges 8 _ _ _ (λ V. (refl, refl))

-- #L: [string, ...int]
open_list : Judges
    (defines "L" (o (("items", typed "integer") ∷ ("minItems", n 1) ∷ ("prefixItems", l (typed "string" ∷ [])) ∷ ("type", t "array") ∷ [])))
    (l (t "a" ∷ []) ∷ l (t "a" ∷ n 1 ∷ []) ∷ [])
    (l [] ∷ l (t "a" ∷ n 1 ∷ t "b" ∷ []) ∷ [])
open_list = judges 4 _ _ _ (λ V. (refl, refl))

-- #E: {}
empty_struct : Judges
    (defines "E" (o (("additionalProperties", boolean false) ∷ ("type", t "object") ∷ [])))
    (o [] ∷ [])
    (says "a" (n 1) ∷ l [] ∷ [])
empty_struct = judges 4 _ _ _ (λ V. (refl, refl))

-- #R: {a?: int, a: >3}
repeated_label : Judges
    (defines "R" (o (
    ("additionalProperties", boolean false)
    ∷ ("properties", says "a" (says "allOf" (l (typed "integer" ∷ o (("exclusiveMinimum", n 3) ∷ ("type", t "number") ∷ []) ∷ []))))
    ∷ ("required", l (t "a" ∷ []))
    ∷ ("type", t "object") ∷ []
    )))
    (says "a" (n 4) ∷ [])
    (o [] ∷ says "a" (n 3) ∷ [])
repeated_label = judges 6 _ _ _ (λ V. (refl, refl))

-- #S: !="s"
other_text : Judges
    (defines "S" (o (("not", says "const" (t "s")) ∷ ("type", t "string") ∷ [])))
    (t "t" ∷ [])
    (t "s" ∷ n 1 ∷ [])
other_text = judges 4 _ _ _ (λ V. (refl, refl))

-- a struct of one regular field of integers
abbrev one_field : String → Document
one_field label =
    o (("additionalProperties", boolean false) ∷ ("properties", says label (typed "integer")) ∷ ("required", l (t label ∷ [])) ∷ ("type", t "object") ∷ [])

-- #D: {a: int} | {b: int}
either_struct : Judges
    (defines "D" (says "anyOf" (l (one_field "a" ∷ one_field "b" ∷ []))))
    (says "a" (n 1) ∷ [])
    (o (("a", n 1) ∷ ("b", n 2) ∷ []) ∷ [])
either_struct = judges 5 _ _ _ (λ V. (refl, refl))

-- #M: -9_223_372_036_854_775_808
least_integer : Judges
    (defines "M" (says "const" (integer (negsuc 9223372036854775807))))
    (integer (negsuc 9223372036854775807) ∷ [])
    (integer (negsuc 9223372036854775806) ∷ null ∷ [])
least_integer = judges 3 _ _ _ (λ V. (refl, refl))

-- #G: >9223372036854775807
above_all : Judges
    (defines "G" (o (("exclusiveMinimum", n 9223372036854775807) ∷ ("type", t "number") ∷ [])))
    []
    (n 9223372036854775807 ∷ n 0 ∷ t "x" ∷ null ∷ l [] ∷ o [] ∷ boolean true ∷ [])
above_all = judges 3 _ _ _ (λ V. (refl, refl))

-- #B: {k: string}, and #C: #B & {k: "x", ...}
refined : Judges
    (o ((
      "$defs",
      o (
          ("B", o (("additionalProperties", boolean false) ∷ ("properties", says "k" (typed "string")) ∷ ("required", l (t "k" ∷ [])) ∷ ("type", t "object") ∷ []))
          ∷ ("C", says "allOf" (l (says "$ref" (t "#/$defs/B") ∷ o (("properties", says "k" (says "const" (t "x"))) ∷ ("required", l (t "k" ∷ [])) ∷ ("type", t "object") ∷ []) ∷ []))) ∷ []
          ),
    )
    ∷ ("$ref", t "#/$defs/C") ∷ []
    ))
    (says "k" (t "x") ∷ [])
    (says "k" (t "y") ∷ o (("k", t "x") ∷ ("z", n 1) ∷ []) ∷ [])
refined = judges 7 _ _ _ (λ V. (refl, refl))

-- #S: a: b?: int
short_fields : Judges
    (defines "S" (o (
    ("additionalProperties", boolean false)
    ∷ ("properties", says "a" (o (("additionalProperties", boolean false) ∷ ("properties", says "b" (typed "integer")) ∷ ("type", t "object") ∷ [])))
    ∷ ("required", l (t "a" ∷ []))
    ∷ ("type", t "object") ∷ []
    )))
    (says "a" (o []) ∷ [])
    (o [] ∷ says "a" (says "b" null) ∷ [])
short_fields = judges 5 _ _ _ (λ V. (refl, refl))

-- #Q: 1 | int & >5
one_or_above : Judges
    (defines "Q" (says "anyOf" (l (says "const" (n 1) ∷ says "allOf" (l (typed "integer" ∷ o (("exclusiveMinimum", n 5) ∷ ("type", t "number") ∷ []) ∷ [])) ∷ []))))
    (n 1 ∷ n 6 ∷ [])
    (n 5 ∷ [])
one_or_above = judges 5 _ _ _ (λ V. (refl, refl))

-- #Z: [int, string]
closed_list : Judges
    (defines "Z" (o (("items", boolean false) ∷ ("minItems", n 2) ∷ ("prefixItems", l (typed "integer" ∷ typed "string" ∷ [])) ∷ ("type", t "array") ∷ [])))
    (l (n 1 ∷ t "a" ∷ []) ∷ [])
    (l (n 1 ∷ []) ∷ l (n 1 ∷ t "a" ∷ n 2 ∷ []) ∷ [])
closed_list = judges 4 _ _ _ (λ V. (refl, refl))

-- #Z: []
empty_list : Judges
    (defines "Z" (o (("items", boolean false) ∷ ("type", t "array") ∷ [])))
    (l [] ∷ [])
    (l (n 1 ∷ []) ∷ o [] ∷ [])
empty_list = judges 4 _ _ _ (λ V. (refl, refl))

-- #A: int, and #A: >2
two_bodies : Judges
    (defines "A" (says "allOf" (l (typed "integer" ∷ o (("exclusiveMinimum", n 2) ∷ ("type", t "number") ∷ []) ∷ []))))
    (n 3 ∷ [])
    (n 2 ∷ [])
two_bodies = judges 4 _ _ _ (λ V. (refl, refl))

-- #W: !=null & (1 | "s" | null)
not_null : Judges
    (defines "W" (says "allOf" (l (says "not" (says "const" null) ∷ says "anyOf" (l (says "const" (n 1) ∷ says "const" (t "s") ∷ says "const" null ∷ [])) ∷ []))))
    (t "s" ∷ [])
    (null ∷ n 2 ∷ [])
not_null = judges 5 _ _ _ (λ V. (refl, refl))

-- a keyword beside `$ref`
beside_reference : Judges
    (o (("$defs", says "A" (typed "number")) ∷ ("$ref", t "#/$defs/A") ∷ ("minimum", n 3) ∷ []))
    (n 3 ∷ [])
    (n 2 ∷ t "x" ∷ [])
beside_reference = judges 3 _ _ _ (λ V. (refl, refl))

-- a definition that goes on inside the document alone
goes_inside : Judges
    (o (("$defs", says "A" (says "properties" (says "a" (says "$ref" (t "#/$defs/A"))))) ∷ ("$ref", t "#/$defs/A") ∷ []))
    (says "a" (says "a" (n 1)) ∷ [])
    []
goes_inside = judges 8 _ _ _ (λ V. (refl, refl))

-- the truth values
validates_all : Judges (boolean true) (null ∷ boolean false ∷ n 0 ∷ t "" ∷ l [] ∷ o [] ∷ []) []
validates_all = judges 1 _ _ _ (λ V. (refl, refl))

validates_none : Judges (boolean false) [] (null ∷ boolean true ∷ n 0 ∷ t "" ∷ l [] ∷ o [] ∷ [])
validates_none = judges 1 _ _ _ (λ V. (refl, refl))

-- The keywords one by one: what they hold of, what not, and what is of another kind.
no_keyword : Judges (o []) (null ∷ n 0 ∷ o [] ∷ []) []
no_keyword = judges 1 _ _ _ (λ V. (refl, refl))

dialect : Judges (says "$schema" (t "https://json-schema.org/draft/2020-12/schema")) (null ∷ n 0 ∷ o [] ∷ []) []
dialect = judges 1 _ _ _ (λ V. (refl, refl))

definitions : Judges (says "$defs" (says "A" (boolean false))) (null ∷ n 0 ∷ o [] ∷ []) []
definitions = judges 1 _ _ _ (λ V. (refl, refl))

reference : Judges (o (("$defs", o (("A", typed "string") ∷ ("B", typed "null") ∷ [])) ∷ ("$ref", t "#/$defs/B") ∷ [])) (null ∷ []) (t "x" ∷ n 1 ∷ [])
reference = judges 2 _ _ _ (λ V. (refl, refl))

-- a name that is not defined has no schema to validate anything
undefined_reference : Judges (says "$ref" (t "#/$defs/A")) [] (null ∷ n 0 ∷ o [] ∷ [])
undefined_reference = judges 1 _ _ _ (λ V. (refl, refl))

-- a `$ref` below the root
reference_below : Judges (o (("$defs", says "A" (typed "null")) ∷ ("properties", says "a" (says "not" (says "$ref" (t "#/$defs/A")))) ∷ [])) (says "a" (n 1) ∷ null ∷ []) (says "a" null ∷ [])
reference_below = judges 4 _ _ _ (λ V. (refl, refl))

type_null : Judges (typed "null") (null ∷ []) (boolean false ∷ n 0 ∷ t "" ∷ l [] ∷ o [] ∷ [])
type_null = judges 1 _ _ _ (λ V. (refl, refl))

type_boolean : Judges (typed "boolean") (boolean true ∷ boolean false ∷ []) (null ∷ n 0 ∷ t "" ∷ l [] ∷ o [] ∷ [])
type_boolean = judges 1 _ _ _ (λ V. (refl, refl))

type_object : Judges (typed "object") (o [] ∷ says "a" null ∷ []) (null ∷ boolean false ∷ n 0 ∷ t "" ∷ l [] ∷ [])
type_object = judges 1 _ _ _ (λ V. (refl, refl))

type_array : Judges (typed "array") (l [] ∷ l (null ∷ []) ∷ []) (null ∷ boolean false ∷ n 0 ∷ t "" ∷ o [] ∷ [])
type_array = judges 1 _ _ _ (λ V. (refl, refl))

type_number : Judges (typed "number") (n 0 ∷ integer (negsuc 4) ∷ []) (null ∷ boolean false ∷ t "" ∷ l [] ∷ o [] ∷ [])
type_number = judges 1 _ _ _ (λ V. (refl, refl))

type_string : Judges (typed "string") (t "" ∷ t "a" ∷ []) (null ∷ boolean false ∷ n 0 ∷ l [] ∷ o [] ∷ [])
type_string = judges 1 _ _ _ (λ V. (refl, refl))

type_integer : Judges (typed "integer") (n 0 ∷ integer (negsuc 4) ∷ []) (null ∷ boolean false ∷ t "" ∷ l [] ∷ o [] ∷ [])
type_integer = judges 1 _ _ _ (λ V. (refl, refl))

equal : Judges (says "const" (o (("a", n 1) ∷ ("b", l []) ∷ []))) (o (("a", n 1) ∷ ("b", l []) ∷ []) ∷ []) (o (("a", n 1) ∷ []) ∷ o (("a", n 1) ∷ ("b", o []) ∷ []) ∷ n 1 ∷ [])
equal = judges 1 _ _ _ (λ V. (refl, refl))

among : Judges (says "enum" (l (n 1 ∷ t "s" ∷ null ∷ []))) (n 1 ∷ t "s" ∷ null ∷ []) (n 2 ∷ l (n 1 ∷ []) ∷ [])
among = judges 1 _ _ _ (λ V. (refl, refl))

among_none : Judges (says "enum" (l [])) [] (null ∷ boolean true ∷ n 0 ∷ t "" ∷ l [] ∷ o [] ∷ [])
among_none = judges 1 _ _ _ (λ V. (refl, refl))

at_least : Judges (says "minimum" (n 3)) (n 3 ∷ n 4 ∷ t "x" ∷ null ∷ []) (n 2 ∷ integer (negsuc 9) ∷ [])
at_least = judges 1 _ _ _ (λ V. (refl, refl))

at_most : Judges (says "maximum" (n 3)) (n 3 ∷ n 2 ∷ integer (negsuc 9) ∷ t "x" ∷ []) (n 4 ∷ [])
at_most = judges 1 _ _ _ (λ V. (refl, refl))

above : Judges (says "exclusiveMinimum" (n 3)) (n 4 ∷ l [] ∷ []) (n 3 ∷ n 2 ∷ [])
above = judges 1 _ _ _ (λ V. (refl, refl))

below : Judges (says "exclusiveMaximum" (n 3)) (n 2 ∷ boolean true ∷ []) (n 3 ∷ n 4 ∷ [])
below = judges 1 _ _ _ (λ V. (refl, refl))

requires : Judges (says "required" (l (t "a" ∷ t "b" ∷ []))) (o (("a", null) ∷ ("b", null) ∷ ("c", null) ∷ []) ∷ l [] ∷ []) (o [] ∷ says "a" null ∷ [])
requires = judges 1 _ _ _ (λ V. (refl, refl))

properties : Judges (says "properties" (says "a" (typed "integer"))) (says "a" (n 1) ∷ says "b" (t "x") ∷ o [] ∷ t "x" ∷ []) (says "a" (t "x") ∷ [])
properties = judges 2 _ _ _ (λ V. (refl, refl))

other_properties : Judges
    (o (("additionalProperties", typed "string") ∷ ("properties", says "a" (typed "integer")) ∷ []))
    (says "a" (n 1) ∷ says "b" (t "x") ∷ o [] ∷ n 1 ∷ [])
    (says "b" (n 1) ∷ says "a" (t "x") ∷ [])
other_properties = judges 2 _ _ _ (λ V. (refl, refl))

-- `additionalProperties` sees the `properties` of its own object alone
properties_elsewhere : Judges
    (o (("additionalProperties", boolean false) ∷ ("allOf", l (says "properties" (says "a" (boolean true)) ∷ [])) ∷ []))
    (o [] ∷ n 1 ∷ [])
    (says "a" (n 1) ∷ [])
properties_elsewhere = judges 3 _ _ _ (λ V. (refl, refl))

front : Judges (says "prefixItems" (l (typed "integer" ∷ typed "string" ∷ []))) (l [] ∷ l (n 1 ∷ []) ∷ l (n 1 ∷ t "a" ∷ null ∷ []) ∷ o [] ∷ []) (l (t "a" ∷ []) ∷ l (n 1 ∷ n 1 ∷ []) ∷ [])
front = judges 2 _ _ _ (λ V. (refl, refl))

items_alone : Judges (says "items" (typed "integer")) (l [] ∷ l (n 1 ∷ n 2 ∷ []) ∷ t "x" ∷ []) (l (t "a" ∷ []) ∷ l (n 1 ∷ t "a" ∷ []) ∷ [])
items_alone = judges 2 _ _ _ (λ V. (refl, refl))

items_behind : Judges
    (o (("items", typed "integer") ∷ ("prefixItems", l (typed "string" ∷ [])) ∷ []))
    (l [] ∷ l (t "a" ∷ []) ∷ l (t "a" ∷ n 1 ∷ []) ∷ null ∷ [])
    (l (n 1 ∷ []) ∷ l (t "a" ∷ t "b" ∷ []) ∷ [])
items_behind = judges 2 _ _ _ (λ V. (refl, refl))

-- `items` sees the `prefixItems` of its own object alone
items_elsewhere : Judges
    (o (("allOf", l (says "prefixItems" (l (boolean true ∷ [])) ∷ [])) ∷ ("items", boolean false) ∷ []))
    (l [] ∷ o [] ∷ [])
    (l (n 1 ∷ []) ∷ [])
items_elsewhere = judges 3 _ _ _ (λ V. (refl, refl))

length : Judges (says "minItems" (n 2)) (l (n 1 ∷ n 1 ∷ []) ∷ l (n 1 ∷ n 1 ∷ n 1 ∷ []) ∷ t "x" ∷ o [] ∷ []) (l [] ∷ l (n 1 ∷ []) ∷ [])
length = judges 1 _ _ _ (λ V. (refl, refl))

-- a list as long as it may be, whatever its elements, and what is no list
length_at_most : Judges
    (says "maxItems" (n 2))
    (l [] ∷ l (n 1 ∷ n 1 ∷ []) ∷ l (l (n 1 ∷ n 2 ∷ n 3 ∷ []) ∷ []) ∷ t "abc" ∷ o (("a", n 1) ∷ ("b", n 1) ∷ ("c", n 1) ∷ []) ∷ n 3 ∷ null ∷ boolean true ∷ [])
    (l (n 1 ∷ n 1 ∷ n 1 ∷ []) ∷ l (null ∷ null ∷ null ∷ null ∷ []) ∷ [])
length_at_most = judges 1 _ _ _ (λ V. (refl, refl))

-- texts by their bytes: U+00E9, `e` with the mark U+0301, U+20AC, and U+1F600
abbrev acute : List ℕ
acute = 195 ∷ 169 ∷ []

abbrev marked : List ℕ
marked = 101 ∷ 204 ∷ 129 ∷ []

abbrev euro : List ℕ
euro = 226 ∷ 130 ∷ 172 ∷ []

abbrev face : List ℕ
face = 240 ∷ 159 ∷ 152 ∷ 128 ∷ []

-- 0 takes the empty one alone, or all
lengths_of_none : Judges (o (("maxItems", n 0) ∷ ("maxLength", n 0) ∷ ("maxProperties", n 0) ∷ [])) (l [] ∷ t "" ∷ o [] ∷ n 1 ∷ null ∷ boolean false ∷ []) (l (null ∷ []) ∷ t "a" ∷ text acute ∷ says "" null ∷ [])
lengths_of_none = judges 1 _ _ _ (λ V. (refl, refl))

lengths_of_any : Judges (o (("minItems", n 0) ∷ ("minLength", n 0) ∷ ("minProperties", n 0) ∷ [])) (l [] ∷ l (null ∷ []) ∷ t "" ∷ t "a" ∷ o [] ∷ says "a" null ∷ n 0 ∷ null ∷ boolean true ∷ []) []
lengths_of_any = judges 1 _ _ _ (λ V. (refl, refl))

-- the greatest limit takes all, or none of the kind
lengths_of_most : Judges
    (o (("maxItems", n 9223372036854775807) ∷ ("maxLength", n 9223372036854775807) ∷ ("maxProperties", n 9223372036854775807) ∷ []))
    (l [] ∷ l (null ∷ null ∷ []) ∷ t "" ∷ t "abc" ∷ o [] ∷ says "a" null ∷ n 0 ∷ [])
    []
lengths_of_most = judges 1 _ _ _ (λ V. (refl, refl))

lengths_out_of_reach : Judges
    (o (("minItems", n 9223372036854775807) ∷ ("minLength", n 9223372036854775807) ∷ ("minProperties", n 9223372036854775807) ∷ []))
    (n 0 ∷ n 9223372036854775807 ∷ null ∷ boolean true ∷ [])
    (l [] ∷ l (null ∷ null ∷ []) ∷ t "" ∷ t "abc" ∷ o [] ∷ says "a" null ∷ [])
lengths_out_of_reach = judges 1 _ _ _ (λ V. (refl, refl))

-- characters are code points: one of two, three or four bytes is one, also past U+FFFF, and a combining mark is one more
text_at_least : Judges
    (says "minLength" (n 2))
    (t "ab" ∷ text (acute ++ acute) ∷ text marked ∷ text (face ++ face) ∷ text (euro ++ codes "a") ∷ t "abc" ∷ n 1 ∷ l [] ∷ o [] ∷ null ∷ boolean false ∷ [])
    (t "" ∷ t "a" ∷ text acute ∷ text euro ∷ text face ∷ [])
text_at_least = judges 1 _ _ _ (λ V. (refl, refl))

text_at_most : Judges
    (says "maxLength" (n 2))
    (t "" ∷ t "ab" ∷ text (acute ++ acute) ∷ text marked ∷ text (face ++ face) ∷ n 123 ∷ l (t "abc" ∷ t "abc" ∷ t "abc" ∷ []) ∷ says "abc" (t "abc") ∷ null ∷ [])
    (t "abc" ∷ text (marked ++ codes "a") ∷ text (face ++ (euro ++ acute)) ∷ t "   " ∷ [])
text_at_most = judges 1 _ _ _ (λ V. (refl, refl))

-- keys, whatever stands under them
keys_at_least : Judges
    (says "minProperties" (n 2))
    (o (("a", null) ∷ ("b", null) ∷ []) ∷ o (("", n 1) ∷ ("a", n 1) ∷ ("b", n 1) ∷ []) ∷ t "a" ∷ l [] ∷ n 0 ∷ null ∷ [])
    (o [] ∷ says "a" (o (("b", n 1) ∷ ("c", n 1) ∷ [])) ∷ [])
keys_at_least = judges 1 _ _ _ (λ V. (refl, refl))

keys_at_most : Judges
    (says "maxProperties" (n 1))
    (o [] ∷ says "a" (o (("b", n 1) ∷ ("c", n 1) ∷ [])) ∷ says "ab" null ∷ t "ab" ∷ l (n 1 ∷ n 2 ∷ []) ∷ n 2 ∷ boolean true ∷ [])
    (o (("a", null) ∷ ("b", null) ∷ []) ∷ o (("a", n 1) ∷ ("b", n 1) ∷ ("c", n 1) ∷ []) ∷ [])
keys_at_most = judges 1 _ _ _ (λ V. (refl, refl))

-- a value that is no count asks nothing, as one that has not its shape
length_below_none : Judges (o (("maxItems", integer (negsuc 0)) ∷ ("maxLength", integer (negsuc 0)) ∷ ("maxProperties", t "0") ∷ [])) (l (n 1 ∷ []) ∷ t "a" ∷ says "a" null ∷ []) []
length_below_none = judges 1 _ _ _ (λ V. (refl, refl))

-- both limits, where none is left between them
no_length : Judges (o (("maxLength", n 1) ∷ ("minLength", n 2) ∷ [])) (n 0 ∷ l [] ∷ []) (t "" ∷ t "a" ∷ t "ab" ∷ [])
no_length = judges 1 _ _ _ (λ V. (refl, refl))

-- the limit is of the object that has it: `allOf` and `not` ask the same document
length_elsewhere : Judges
    (o (("allOf", l (says "maxLength" (n 2) ∷ [])) ∷ ("not", says "minLength" (n 2)) ∷ []))
    (t "" ∷ t "a" ∷ [])
    (t "ab" ∷ t "abc" ∷ n 1 ∷ [])
length_elsewhere = judges 2 _ _ _ (λ V. (refl, refl))

all_of : Judges (says "allOf" (l (typed "integer" ∷ says "minimum" (n 3) ∷ []))) (n 3 ∷ []) (n 2 ∷ t "x" ∷ [])
all_of = judges 2 _ _ _ (λ V. (refl, refl))

any_of : Judges (says "anyOf" (l (typed "integer" ∷ typed "string" ∷ []))) (n 1 ∷ t "x" ∷ []) (null ∷ [])
any_of = judges 2 _ _ _ (λ V. (refl, refl))

negation : Judges (says "not" (typed "integer")) (t "x" ∷ null ∷ []) (n 1 ∷ [])
negation = judges 2 _ _ _ (λ V. (refl, refl))

notes : Judges (o (("$comment", t "c") ∷ ("description", t "d") ∷ ("title", t "t") ∷ [])) (null ∷ n 0 ∷ o [] ∷ []) []
notes = judges 1 _ _ _ (λ V. (refl, refl))

-- the keywords of an object combine as a conjunction
conjunction : Judges (o (("minItems", n 1) ∷ ("title", t "t") ∷ [])) (t "x" ∷ l (n 1 ∷ []) ∷ []) (l [] ∷ [])
conjunction = judges 1 _ _ _ (λ V. (refl, refl))

-- Definitions that reach themselves without going into the document.
refers_to_itself : IsLoop (o (("$defs", says "A" (says "$ref" (t "#/$defs/A"))) ∷ ("$ref", t "#/$defs/A") ∷ [])) (codes "A" ∷ [])
refers_to_itself = (refl, tt)

refers_round : IsLoop
    (o (("$defs", o (("A", says "allOf" (l (says "$ref" (t "#/$defs/B") ∷ []))) ∷ ("B", says "not" (says "$ref" (t "#/$defs/A"))) ∷ [])) ∷ ("$ref", t "#/$defs/A") ∷ []))
    (codes "A" ∷ codes "B" ∷ [])
refers_round = (refl, (refl, tt))

goes_inside_first : ¬ (IsLoop (o (("$defs", says "A" (says "properties" (says "a" (says "$ref" (t "#/$defs/A"))))) ∷ ("$ref", t "#/$defs/A") ∷ [])) (codes "A" ∷ []))
goes_inside_first h = cc
