-- What the definitions say of single keywords, names, values, places and loops, by computation.
use Rattle.std.proofs.Common.{◌≡◌, ℕ, negsuc, ◌<◌, Bool, not, ◌&&◌, true, false, List, [], ◌∷◌, inl, inr, map, length, Option, Some, None, option_map, Vec, Global, String as Text, string_bytes, bytes_eq, codes, refl, sym, subst, if◌then◌else◌, arith}
use Rattle.std.specs.Fmt.{digits}
use Rattle.std.specs.Prelude.{replicate}
use Rattle.std.specs.Option.{option_map_or}
use Rattle.std.specs.List.{list_all, list_any, filter, IsDistinct}
use Rattle.cs_document.specs.Document.{Document, null, boolean, integer, text, list, under}
use Rattle.cs_document.specs.View.{doc_view, list_view}
use Rattle.cs_document.proofs.SampleDocuments.{number as n, string as t, array as l, named_map as o}
use Rattle.cs_profile.specs.Keywords.{all_keywords, slot_keywords, keywords, is_in, kinds, reference_start, text_after}
use Rattle.cs_profile.specs.declared.keyword.Keyword.{Keyword}
use Rattle.cs_profile.specs.declared.keyword.Keyword.TheVariants as keyword
use Rattle.cs_profile.specs.declared.keyword.Vocabulary.{Vocabulary}
use Rattle.cs_profile.specs.declared.keyword.Vocabulary.TheVariants as vocabulary
use Rattle.cs_profile.specs.Keywords as schema
use Rattle.cs_profile.specs.Shapes.{kept, left_out, left_out_if_empty, keeping, form_of, stands, form_at, taken_at, is_name_code, is_name, has_form, is_kept, by_form}
use Rattle.cs_profile.specs.declared.keyword.Form.{Form}
use Rattle.cs_profile.specs.declared.keyword.Form.TheVariants as form
use Rattle.cs_profile.specs.Constraint.{nothing, assertion_at}
use Rattle.cs_profile.specs.Places.{at_key, at_index}
use Rattle.cs_graph.specs.Chains.{Chain}
use Rattle.cs_graph.proofs.Paths.{chain_short, no_cycle}
use Rattle.cs_profile.specs.Loops.{direct_names, RefersDirectly, NoLoop, IsRank}
use Rattle.cs_profile.specs.Refusal.{IsLoop}
use Rattle.cs_profile.specs.Refusal.{LeastFirst, IsLeastLoop, IsLoopRefusal}
use Rattle.cs_profile.specs.declared.fault.SchemaFault.TheVariants as fault
use Rattle.cs_profile.specs.SchemaDocument.{Slot, kind_name, keyword_slots, reference_document, text_document, unless_no_list, unless_no_map}
use Rattle.cs_profile.specs.declared.schema.Schema.TheOpen.{Keywords-F}
use Rattle.cs_profile.specs.declared.schema.JsonKind.TheVariants as kind
use Rattle.cs_profile.proofs.Ranked.{on_any}
use Rattle.cs_profile.proofs.Rows.{says}
use Prim.Native.String.{String}

-- ---- keywords by their names

abbrev named : List String → List (Option Keyword)
named ks = map (λ k. under (codes k) keywords) ks

of_core : named ("$schema" ∷ "$defs" ∷ "$ref" ∷ "allOf" ∷ "anyOf" ∷ "not" ∷ "prefixItems" ∷ "items" ∷ "properties" ∷ "additionalProperties" ∷ "$comment" ∷ [])
    ≡ Some keyword.Schema ∷ Some keyword.Defs ∷ Some keyword.Ref ∷ Some keyword.AllOf ∷ Some keyword.AnyOf ∷ Some keyword.Not ∷ Some keyword.PrefixItems ∷ Some keyword.Items
    ∷ Some keyword.Properties ∷ Some keyword.AdditionalProperties ∷ Some keyword.Comment ∷ []
of_core = refl

of_validation : named (
    "type" ∷ "enum" ∷ "const" ∷ "maximum" ∷ "exclusiveMaximum" ∷ "minimum" ∷ "exclusiveMinimum" ∷ "maxLength" ∷ "minLength" ∷ "maxItems" ∷ "minItems" ∷ "maxProperties" ∷ "minProperties" ∷ "required" ∷ "title" ∷ "description" ∷ [])
    ≡ Some keyword.Type ∷ Some keyword.Enum ∷ Some keyword.Const ∷ Some keyword.Maximum ∷ Some keyword.ExclusiveMaximum ∷ Some keyword.Minimum ∷ Some keyword.ExclusiveMinimum ∷ Some keyword.MaxLength ∷ Some keyword.MinLength
    ∷ Some keyword.MaxItems ∷ Some keyword.MinItems ∷ Some keyword.MaxProperties ∷ Some keyword.MinProperties ∷ Some keyword.Required ∷ Some keyword.Title ∷ Some keyword.Description ∷ []
of_validation = refl

-- keywords of the standard that are none of the profile, and names that are almost keywords
left_outside : named ("$id" ∷ "$anchor" ∷ "oneOf" ∷ "maxContains" ∷ "pattern" ∷ "default" ∷ "Type" ∷ "types" ∷ "typ" ∷ "ref" ∷ "maxitems" ∷ "MinLength" ∷ "" ∷ [])
    ≡ None ∷ None ∷ None ∷ None ∷ None ∷ None ∷ None ∷ None ∷ None ∷ None ∷ None ∷ None ∷ None ∷ []
left_outside = refl

-- ---- the keywords of each vocabulary

in_wide_alone : filter (λ w. not (is_in vocabulary.Default w)) all_keywords ≡ keyword.MaxItems ∷ keyword.MaxLength ∷ keyword.MaxProperties ∷ keyword.MinLength ∷ keyword.MinProperties ∷ []
in_wide_alone = refl

all_in_wide : list_all (is_in vocabulary.Wide) all_keywords ≡ true
all_in_wide = refl

-- in the root and below it, beside `$defs`, which is in the root alone, and a name that no vocabulary has
abbrev taken : Vocabulary → Bool → List (Option Form)
taken v root = map (λ k. taken_at v root (codes k)) ("maxItems" ∷ "maxLength" ∷ "maxProperties" ∷ "minItems" ∷ "minLength" ∷ "minProperties" ∷ "minimum" ∷ "$defs" ∷ "pattern" ∷ [])

taken_by_default : map (taken vocabulary.Default) (true ∷ false ∷ [])
    ≡ (None ∷ None ∷ None ∷ Some form.Count ∷ None ∷ None ∷ Some form.Integer ∷ Some form.NamedSchemas ∷ None ∷ []) ∷ (None ∷ None ∷ None ∷ Some form.Count ∷ None ∷ None ∷ Some form.Integer ∷ None ∷ None ∷ []) ∷ []
taken_by_default = refl

taken_by_wide : map (taken vocabulary.Wide) (true ∷ false ∷ [])
    ≡ (Some form.Count ∷ Some form.Count ∷ Some form.Count ∷ Some form.Count ∷ Some form.Count ∷ Some form.Count ∷ Some form.Integer ∷ Some form.NamedSchemas ∷ None ∷ [])
    ∷ (Some form.Count ∷ Some form.Count ∷ Some form.Count ∷ Some form.Count ∷ Some form.Count ∷ Some form.Count ∷ Some form.Integer ∷ None ∷ None ∷ []) ∷ []
taken_by_wide = refl

by_kind : map (λ k. under (codes k) kinds) ("null" ∷ "boolean" ∷ "object" ∷ "array" ∷ "number" ∷ "string" ∷ "integer" ∷ "int" ∷ "Null" ∷ "" ∷ [])
    ≡ Some schema.Null ∷ Some schema.Boolean ∷ Some schema.Object ∷ Some schema.Array ∷ Some schema.Number ∷ Some schema.String ∷ Some schema.Integer ∷ None ∷ None ∷ None ∷ []
by_kind = refl

kind_names : map kind_name (kind.Null ∷ kind.Boolean ∷ kind.Object ∷ kind.Array ∷ kind.Number ∷ kind.String ∷ kind.Integer ∷ [])
    ≡ map codes ("null" ∷ "boolean" ∷ "object" ∷ "array" ∷ "number" ∷ "string" ∷ "integer" ∷ [])
kind_names = refl

-- ---- the forms of their values

abbrev forms : Bool → List String → List (Option Form)
forms root ks = map (λ k. form_at root (codes k)) ks

of_root : forms true ("$schema" ∷ "$defs" ∷ "$ref" ∷ []) ≡ Some form.Dialect ∷ Some form.NamedSchemas ∷ Some form.Reference ∷ []
of_root = refl

of_root_alone : forms false ("$schema" ∷ "$defs" ∷ []) ≡ None ∷ None ∷ []
of_root_alone = refl

of_each : (root : Bool) → forms root (
    "$ref" ∷ "type" ∷ "const" ∷ "enum" ∷ "minimum" ∷ "maximum" ∷ "exclusiveMinimum" ∷ "exclusiveMaximum" ∷ "maxItems" ∷ "maxLength" ∷ "maxProperties" ∷ "minItems" ∷ "minLength" ∷ "minProperties" ∷ "required" ∷ "properties" ∷ "additionalProperties" ∷ "prefixItems" ∷ "items"
    ∷ "allOf" ∷ "anyOf" ∷ "not" ∷ "title" ∷ "description" ∷ "$comment" ∷ [])
    ≡ Some form.Reference ∷ Some form.Kind ∷ Some form.Anything ∷ Some form.Array ∷ Some form.Integer ∷ Some form.Integer ∷ Some form.Integer ∷ Some form.Integer ∷ Some form.Count ∷ Some form.Count ∷ Some form.Count ∷ Some form.Count ∷ Some form.Count ∷ Some form.Count ∷ Some form.Texts ∷ Some form.NamedSchemas
    ∷ Some form.Schema ∷ Some form.Schemas ∷ Some form.Schema ∷ Some form.Schemas ∷ Some form.Schemas ∷ Some form.Schema ∷ Some form.Text ∷ Some form.Text ∷ Some form.Text ∷ []
of_each true = refl
of_each false = refl

of_none : (root : Bool) → forms root ("$id" ∷ "pattern" ∷ "oneOf" ∷ "" ∷ []) ≡ None ∷ None ∷ None ∷ None ∷ []
of_none true = refl
of_none false = refl

-- ---- names in a `$ref`

name_codes : list_all is_name_code (codes "AZaz09_$.-") ≡ true
name_codes = refl

-- the characters beside those of a name, and some beyond
no_name_codes : list_any is_name_code (codes "@[`{/:^%#, ~!+é") ≡ false
no_name_codes = refl

names : map (λ s. is_name (codes s)) ("" ∷ "P" ∷ "9" ∷ "-" ∷ "_a.B-$0" ∷ "a/b" ∷ "a~b" ∷ "a " ∷ " a" ∷ "é" ∷ []) ≡ false ∷ true ∷ true ∷ true ∷ true ∷ false ∷ false ∷ false ∷ false ∷ false ∷ []
names = refl

references : map (λ s. text_after reference_start (codes s)) ("#/$defs/P" ∷ "#/$defs/a/b" ∷ "#/$defs/" ∷ "#/$defs" ∷ "#/definitions/P" ∷ "/$defs/P" ∷ "P" ∷ "" ∷ [])
    ≡ Some (codes "P") ∷ Some (codes "a/b") ∷ Some [] ∷ None ∷ None ∷ None ∷ None ∷ None ∷ []
references = refl

-- ---- the shapes of values

abbrev fit : Form → List Document → Bool
fit form ds = list_all (has_form form) ds

abbrev fits_one : Form → List Document → Bool
fits_one form ds = list_any (has_form form) ds

-- some values that have a shape, and some that have not
record Shaped (form : Form) (right wrong : List Document) : Type 0 where
  each : fit form right ≡ true
  none : fits_one form wrong ≡ false

-- the dialect's text (Core, section 8.1.1)
dialect_text : Shaped form.Dialect
    (t "https://json-schema.org/draft/2020-12/schema" ∷ [])
    (t "https://json-schema.org/draft/2020-12/schema#" ∷ t "http://json-schema.org/draft/2020-12/schema" ∷ t "https://json-schema.org/draft/2019-09/schema" ∷ t "http://json-schema.org/draft-07/schema#" ∷ t "" ∷ null ∷ [])
dialect_text = record { each = refl; none = refl }

reference_text : Shaped form.Reference
    (t "#/$defs/P" ∷ t "#/$defs/a.b-C_$9" ∷ [])
    (t "#/$defs/" ∷ t "#/$defs/a/b" ∷ t "#/$defs/a~0b" ∷ t "#/properties/a" ∷ t "#P" ∷ t "#" ∷ t "P" ∷ t "" ∷ n 1 ∷ o [] ∷ [])
reference_text = record { each = refl; none = refl }

kind_text : Shaped form.Kind
    (t "null" ∷ t "boolean" ∷ t "object" ∷ t "array" ∷ t "number" ∷ t "string" ∷ t "integer" ∷ [])
    (t "int" ∷ t "" ∷ null ∷ l (t "string" ∷ []) ∷ [])
kind_text = record { each = refl; none = refl }

any_value : Shaped form.Anything (null ∷ boolean false ∷ n 0 ∷ t "" ∷ l [] ∷ o [] ∷ []) []
any_value = record { each = refl; none = refl }

array : Shaped form.Array (l [] ∷ l (null ∷ []) ∷ []) (o [] ∷ t "" ∷ n 0 ∷ null ∷ boolean true ∷ [])
array = record { each = refl; none = refl }

whole_number : Shaped form.Integer
    (n 0 ∷ n 9223372036854775807 ∷ integer (negsuc 0) ∷ integer (negsuc 9223372036854775807) ∷ [])
    (t "0" ∷ null ∷ boolean true ∷ l (n 0 ∷ []) ∷ o [] ∷ [])
whole_number = record { each = refl; none = refl }

count : Shaped form.Count (n 0 ∷ n 1 ∷ n 9223372036854775807 ∷ []) (integer (negsuc 0) ∷ integer (negsuc 9223372036854775807) ∷ t "1" ∷ null ∷ [])
count = record { each = refl; none = refl }

different_texts : Shaped form.Texts
    (l [] ∷ l (t "" ∷ []) ∷ l (t "a" ∷ t "b" ∷ t "A" ∷ []) ∷ [])
    (l (t "a" ∷ t "a" ∷ []) ∷ l (t "a" ∷ t "b" ∷ t "a" ∷ []) ∷ l (t "" ∷ t "" ∷ []) ∷ l (t "a" ∷ n 1 ∷ []) ∷ l (null ∷ []) ∷ t "a" ∷ o [] ∷ [])
different_texts = record { each = refl; none = refl }

one_text : Shaped form.Text (t "" ∷ t "x" ∷ []) (n 1 ∷ null ∷ l (t "x" ∷ []) ∷ o [] ∷ [])
one_text = record { each = refl; none = refl }

-- whether a value is a schema is said where it is
one_schema : Shaped form.Schema (boolean true ∷ o [] ∷ n 1 ∷ null ∷ []) []
one_schema = record { each = refl; none = refl }

schemas : Shaped form.Schemas (l (boolean true ∷ []) ∷ l (n 1 ∷ o [] ∷ []) ∷ []) (l [] ∷ o [] ∷ boolean true ∷ null ∷ [])
schemas = record { each = refl; none = refl }

schemas_by_name : Shaped form.NamedSchemas (o [] ∷ says "a" (boolean true) ∷ says "a" (n 1) ∷ []) (l [] ∷ l (o [] ∷ []) ∷ boolean true ∷ null ∷ [])
schemas_by_name = record { each = refl; none = refl }

-- which schemas a value of a shape holds: 0 for none, 1 for itself, 2 for its elements, 3 for its members
holds : map {B = ℕ} (λ form. by_form form (record { none = 0; itself = 1; elements = 2; members = 3 }))
    (form.Dialect ∷ form.Reference ∷ form.Kind ∷ form.Anything ∷ form.Array ∷ form.Integer ∷ form.Count ∷ form.Texts ∷ form.Text ∷ form.Schema ∷ form.Schemas ∷ form.NamedSchemas ∷ [])
    ≡ 0 ∷ 0 ∷ 0 ∷ 0 ∷ 0 ∷ 0 ∷ 0 ∷ 0 ∷ 0 ∷ 1 ∷ 2 ∷ 3 ∷ []
holds = refl

-- ---- what trimming does with a value of a shape

by_its_form : map keeping (form.Dialect ∷ form.Reference ∷ form.Kind ∷ form.Anything ∷ form.Array ∷ form.Integer ∷ form.Count ∷ form.Texts ∷ form.Text ∷ form.Schema ∷ form.Schemas ∷ form.NamedSchemas ∷ [])
    ≡ left_out ∷ kept ∷ kept ∷ kept ∷ kept ∷ kept ∷ kept ∷ left_out_if_empty ∷ left_out ∷ kept ∷ kept ∷ left_out_if_empty ∷ []
by_its_form = refl

keeps : map (λ k. map (is_kept k) (o [] ∷ l [] ∷ says "a" null ∷ l (null ∷ []) ∷ t "" ∷ null ∷ [])) (kept ∷ left_out ∷ left_out_if_empty ∷ [])
    ≡ (true ∷ true ∷ true ∷ true ∷ true ∷ true ∷ []) ∷ (false ∷ false ∷ false ∷ false ∷ false ∷ false ∷ []) ∷ (false ∷ false ∷ true ∷ true ∷ true ∷ true ∷ []) ∷ []
keeps = refl

-- ---- places (RFC 6901, section 5)

under_key : map (λ k. at_key [] (codes k)) ("foo" ∷ "" ∷ "a/b" ∷ "c%d" ∷ "e^f" ∷ " " ∷ "m~n" ∷ "~1" ∷ "//~~" ∷ [])
    ≡ map codes ("/foo" ∷ "/" ∷ "/a~1b" ∷ "/c%d" ∷ "/e^f" ∷ "/ " ∷ "/m~0n" ∷ "/~01" ∷ "/~1~1~0~0" ∷ [])
unfolding at_key
under_key = refl

under_both : at_key (at_key [] (codes "$defs")) (codes "x/y") ≡ codes "/$defs/x~1y"
unfolding at_key
under_both = refl

at_elements : map (at_index (codes "/allOf")) (0 ∷ 9 ∷ 10 ∷ 105 ∷ []) ≡ map codes ("/allOf/0" ∷ "/allOf/9" ∷ "/allOf/10" ∷ "/allOf/105" ∷ [])
unfolding at_index digits
at_elements = refl

-- ---- loops

abbrev to : String → Document
to name = says "$ref" (text (codes name))

-- the names that a schema refers to for the same document
direct : map direct_names (to "#/$defs/A" ∷ says "not" (to "#/$defs/A") ∷ says "allOf" (l (to "#/$defs/B" ∷ to "#/$defs/A" ∷ [])) ∷ says "anyOf" (l (to "#/$defs/A" ∷ says "not" (to "#/$defs/B") ∷ [])) ∷ [])
    ≡ (codes "A" ∷ []) ∷ (codes "A" ∷ []) ∷ (codes "B" ∷ codes "A" ∷ []) ∷ (codes "A" ∷ codes "B" ∷ []) ∷ []
direct = refl

-- what has not its shape has no names
without : map direct_names (boolean true ∷ null ∷ n 1 ∷ t "#/$defs/A" ∷ l (to "#/$defs/A" ∷ []) ∷ o [] ∷ says "$ref" (to "#/$defs/A") ∷ to "#/definitions/A" ∷ says "allOf" (to "#/$defs/A") ∷ says "anyOf" null ∷ [])
    ≡ [] ∷ [] ∷ [] ∷ [] ∷ [] ∷ [] ∷ [] ∷ [] ∷ [] ∷ [] ∷ []
without = refl

-- for documents inside it, or for none
indirect : map direct_names (
    says "properties" (says "a" (to "#/$defs/A")) ∷ says "additionalProperties" (to "#/$defs/A") ∷ says "prefixItems" (l (to "#/$defs/A" ∷ [])) ∷ says "items" (to "#/$defs/A")
    ∷ says "const" (to "#/$defs/A") ∷ says "enum" (l (to "#/$defs/A" ∷ [])) ∷ says "$defs" (says "A" (to "#/$defs/A")) ∷ says "oneOf" (l (to "#/$defs/A" ∷ [])) ∷ [])
    ≡ [] ∷ [] ∷ [] ∷ [] ∷ [] ∷ [] ∷ [] ∷ [] ∷ []
indirect = refl

abbrev defining : List (String × Document) → Document
defining ds = says "$defs" (o ds)

loop_of_one : IsLoop (defining (("A", to "#/$defs/A") ∷ [])) (codes "A" ∷ [])
loop_of_one = (refl, tt)

loop_of_two : IsLoop (defining (("A", says "anyOf" (l (boolean true ∷ to "#/$defs/B" ∷ []))) ∷ ("B", says "not" (to "#/$defs/A")) ∷ [])) (codes "A" ∷ codes "B" ∷ [])
loop_of_two = (refl, (refl, tt))

-- a chain that ends
no_loop_of_one : ¬ (IsLoop (defining (("A", to "#/$defs/B") ∷ ("B", boolean true) ∷ [])) (codes "A" ∷ []))
no_loop_of_one h = cc

no_loop_of_two : ¬ (IsLoop (defining (("A", to "#/$defs/B") ∷ ("B", boolean true) ∷ [])) (codes "A" ∷ codes "B" ∷ []))
no_loop_of_two h = let back = h.1 in cc

no_loop_of_none : ¬ (IsLoop (defining (("A", to "#/$defs/A") ∷ [])) [])
no_loop_of_none h = h

-- told from the least name on, and no name twice
abbrev turning : Document
turning = defining (("A", says "not" (to "#/$defs/B")) ∷ ("B", says "not" (to "#/$defs/A")) ∷ [])

told : IsLeastLoop turning (codes "A" ∷ codes "B" ∷ [])
unfolding IsDistinct
told = record { loop = (refl, (refl, tt)); distinct = ((refl, tt), (tt, tt)); least = (refl, tt) }

told_from_the_other : ¬ (IsLeastLoop turning (codes "B" ∷ codes "A" ∷ []))
told_from_the_other h = let first = h.least.0 in cc

told_twice : ¬ (IsLeastLoop turning (codes "A" ∷ codes "B" ∷ codes "A" ∷ codes "B" ∷ []))
unfolding IsDistinct
told_twice h = let twice = h.distinct.0.1.0 in cc

loop_refused : (v : Vec (Text Global) Global) → map string_bytes v.items ≡ codes "A" ∷ codes "B" ∷ [] → IsLoopRefusal (fault.Loop v) turning
loop_refused v e = subst (IsLeastLoop turning) (sym e) told

memory_refused : IsLoopRefusal fault.OutOfMemory turning
memory_refused = tt

-- ---- ranks: A refers to B and C, and B to C

abbrev falling : Document
falling = defining (("A", says "allOf" (l (to "#/$defs/B" ∷ says "not" (to "#/$defs/C") ∷ []))) ∷ ("B", to "#/$defs/C") ∷ ("C", says "properties" (says "a" (to "#/$defs/A"))) ∷ [])

abbrev rank_in : List ℕ → ℕ
rank_in n = if bytes_eq n (codes "A") then 2 else if bytes_eq n (codes "B") then 1 else 0

falls : (n m : List ℕ) → RefersDirectly falling n m → rank_in m < rank_in n
falls n m r = by (bytes_eq n (codes "A")) (bytes_eq n (codes "B")) (bytes_eq n (codes "C")) r
  where
    by : (a b c : Bool)
        → list_any (bytes_eq m) (option_map_or direct_names (if a then Some (says "allOf" (l (to "#/$defs/B" ∷ says "not" (to "#/$defs/C") ∷ []))) else if b then Some (to "#/$defs/C") else if c then Some (says "properties" (says "a" (to "#/$defs/A"))) else None) []) ≡ true
        → rank_in m < (if a then 2 else if b then 1 else 0)
    by true b c r = elim (on_any m (codes "B" ∷ codes "C" ∷ []) r) as (λ _. rank_in m < 2) [
      | inl e ↦ subst (λ k. rank_in k < 2) (sym e) (omega arith)
      | inr o ↦ elim o as (λ _. rank_in m < 2) [ inl e ↦ subst (λ k. rank_in k < 2) (sym e) (omega arith) | inr none ↦ absurd none ]
    ]
    by false true c r = elim (on_any m (codes "C" ∷ []) r) as (λ _. rank_in m < 1) [ inl e ↦ subst (λ k. rank_in k < 1) (sym e) (omega arith) | inr none ↦ absurd none ]
    by false false true r = cc
    by false false false r = cc

ranked : (n : List ℕ) (ns : List (List ℕ)) → Chain (RefersDirectly falling) n ns → length ns ≡ rank_in n → IsRank falling n (rank_in n)
ranked n ns c e = record { steps = ns; chain = c; long = e; longest = chain_short (RefersDirectly falling) rank_in falls n }

first_rank : IsRank falling (codes "A") 2
first_rank = ranked (codes "A") (codes "B" ∷ codes "C" ∷ []) (refl, (refl, tt)) refl

second_rank : IsRank falling (codes "B") 1
second_rank = ranked (codes "B") (codes "C" ∷ []) (refl, tt) refl

-- what it refers to inside documents counts for nothing
last_rank : IsRank falling (codes "C") 0
last_rank = ranked (codes "C") [] tt refl

-- the longest chain counts
not_the_shortest : ¬ (IsRank falling (codes "A") 1)
not_the_shortest h = let long = h.longest (codes "B" ∷ codes "C" ∷ []) (refl, (refl, tt)) in omega (arith, long)

acyclic : NoLoop falling
acyclic = no_cycle (RefersDirectly falling) rank_in falls

not_acyclic : ¬ (NoLoop turning)
not_acyclic none = none (codes "A") (codes "B" ∷ []) (refl, (refl, tt))

-- the least name first
least : LeastFirst (codes "A" ∷ codes "C" ∷ codes "B" ∷ [])
least = (refl, (refl, tt))

not_least : ¬ (LeastFirst (codes "B" ∷ codes "C" ∷ codes "A" ∷ []))
not_least h = let last = h.1 in cc

-- ---- values without their keyword's shape, which assert nothing

unshaped : map (λ (e : String × Document). assertion_at (boolean true) [] (codes e.0, e.1)) (("$ref", n 1) ∷ ("type", n 1) ∷ ("type", t "any") ∷ ("enum", n 1) ∷ ("minimum", t "1") ∷ ("maximum", null) ∷ ("exclusiveMinimum", l []) ∷ ("exclusiveMaximum", o []) ∷ ("minItems", integer (negsuc 0)) ∷ ("minItems", t "1") ∷ ("maxItems", integer (negsuc 0)) ∷ ("maxItems", t "1") ∷ ("maxLength", integer (negsuc 9223372036854775807)) ∷ ("maxLength", null) ∷ ("maxProperties", integer (negsuc 0)) ∷ ("maxProperties", l [])
    ∷ ("minLength", integer (negsuc 1)) ∷ ("minLength", boolean true) ∷ ("minProperties", integer (negsuc 0)) ∷ ("minProperties", o []) ∷ ("required", t "a") ∷ ("properties", l []) ∷ ("prefixItems", o []) ∷ ("allOf", o []) ∷ ("anyOf", boolean true) ∷ [])
    ≡ replicate 25 nothing
unshaped = refl

-- ---- the keywords of an object, each under its name

keep_slots : filter (λ w. stands false w && is_kept (keeping (form_of w)) null) all_keywords ≡ slot_keywords
keep_slots = refl

slots : (k : Keywords-F Document (List Slot)) → map (λ name. under (codes name) (keyword_slots k))
    ("type" ∷ "const" ∷ "enum" ∷ "minimum" ∷ "maximum" ∷ "exclusiveMinimum" ∷ "exclusiveMaximum" ∷ "maxItems" ∷ "maxLength" ∷ "maxProperties" ∷ "minItems" ∷ "minLength" ∷ "minProperties" ∷ "required" ∷ "properties" ∷ "additionalProperties" ∷ "items" ∷ "not" ∷ "prefixItems" ∷ "allOf" ∷ "anyOf" ∷ "$ref" ∷ [])
    ≡ Some (option_map (λ j. text (kind_name j)) k.kind) ∷ Some (option_map doc_view k.equal) ∷ Some (option_map (λ v. list (list_view v.items)) k.one_of)
    ∷ Some (option_map integer k.minimum) ∷ Some (option_map integer k.maximum) ∷ Some (option_map integer k.above) ∷ Some (option_map integer k.below)
    ∷ Some (option_map integer k.max_items) ∷ Some (option_map integer k.max_length) ∷ Some (option_map integer k.max_properties)
    ∷ Some (option_map integer k.min_items) ∷ Some (option_map integer k.min_length) ∷ Some (option_map integer k.min_properties)
    ∷ Some (unless_no_list (map text_document k.required.items)) ∷ Some (unless_no_map k.properties.entries) ∷ Some k.additional ∷ Some k.rest ∷ Some k.negated
    ∷ Some (unless_no_list k.prefix.items) ∷ Some (unless_no_list k.all_of.items) ∷ Some (unless_no_list k.any_of.items) ∷ Some (option_map reference_document k.reference) ∷ []
slots k = refl
