-- Rows of the translation with their schemas, worked by the definitions. A wrong row stops the check here.
use Rattle.std.proofs.Common.{◌≡◌, ℤ, pos, negsuc, List, [], ◌∷◌, map, true, false, Some, None, codes, refl}
use Rattle.cs_document.specs.Document.{Document, null, boolean, integer, text}
use Rattle.cs_document.proofs.SampleDocuments.{array, named_map}
use Rattle.cs_package.specs.Expression as cue
use Rattle.cs_package.specs.Expression.{Expression, int, number, string, bool, less, at_most, more, at_least}
use Rattle.cs_package.specs.View.{expressions_of, declarations_of}
use Rattle.cs_package.specs.Environment.{Environment, bodies}
use Rattle.cs_profile.specs.Keywords.{defined}
use Rattle.cs_profile.proofs.Rows.{says, typed}
use Rattle.cs_compile.specs.Translation.{schema_of, definition_schema}
use Rattle.cs_profile.specs.Root.{reference_to}
use Prim.Native.String.{String}

-- ---- documents, written briefly

-- the schema of a limit for numbers
abbrev limited : String → ℤ → Document
limited keyword z = named_map ((keyword, integer z) ∷ ("type", text (codes "number")) ∷ [])

abbrev all : List Document → Document
all ds = says "allOf" (array ds)

abbrev any : List Document → Document
any ds = says "anyOf" (array ds)

abbrev one_of : List Document → Document
one_of vs = says "enum" (array vs)

-- ---- expressions

abbrev conjunction : List Expression → Expression
conjunction es = cue.conjunction (expressions_of es)

abbrev bounded : cue.Relation → ℤ → Expression
bounded r n = cue.atom (cue.bound r n)

abbrev int8 : Expression
int8 = cue.range (negsuc 127) (Some (pos 127))

abbrev uint : Expression
uint = cue.range (pos 0) None

abbrev int64 : Expression
int64 = cue.range (negsuc 9223372036854775807) (Some (pos 9223372036854775807))

abbrev disjunction : List Expression → Expression
disjunction es = cue.disjunction (expressions_of es)

abbrev number_one : Expression
number_one = cue.atom (cue.integer (pos 1))

-- `int & >=1 & <=65535`
abbrev port : List Expression
port = cue.kind int ∷ bounded at_least (pos 1) ∷ bounded at_most (pos 65535) ∷ []

-- the schemas of the integers from a least one on, up to a greatest one, and between both
abbrev from : ℤ → Document
from n = named_map (("minimum", integer n) ∷ ("type", text (codes "integer")) ∷ [])

abbrev up_to : ℤ → Document
up_to n = named_map (("maximum", integer n) ∷ ("type", text (codes "integer")) ∷ [])

abbrev between : ℤ → ℤ → Document
between least greatest = named_map (("maximum", integer greatest) ∷ ("minimum", integer least) ∷ ("type", text (codes "integer")) ∷ [])

abbrev above_three : Expression
above_three = bounded more (pos 3)

abbrev declared_as : cue.DeclarationMark → String → Expression → cue.Declaration Expression
declared_as m l e = record { label = codes l; mark = m; value = e }

-- `[string]: e`
abbrev for_all : Expression → cue.Declaration Expression
for_all e = declared_as cue.every "" e

-- the schema of maps with a value of a schema under every key
abbrev under_all : Document → Document
under_all s = says "additionalProperties" s

-- the schema of a list with a front
abbrev fronted : String → Document → List Document → ℤ → Document
fronted keyword rest front count = named_map ((keyword, rest) ∷ ("minItems", integer count) ∷ ("prefixItems", array front) ∷ ("type", text (codes "array")) ∷ [])

abbrev rows : List (Expression × Document)
rows =
    -- `5` and `-9_223_372_036_854_775_808`
    (cue.atom (cue.integer (pos 5)), says "const" (integer (pos 5)))
    ∷ (cue.atom (cue.integer (negsuc 9223372036854775807)), says "const" (integer (negsuc 9223372036854775807)))
    -- `int`, `number`, `string`, `bool`
    ∷ (cue.kind int, typed "integer")
    ∷ (cue.kind number, typed "number")
    ∷ (cue.kind string, typed "string")
    ∷ (cue.kind bool, typed "boolean")
    -- `uint`, and `int8`
    ∷ (uint, from (pos 0))
    ∷ (int8, between (negsuc 127) (pos 127))
    -- `<3`, `<=3`, `>9223372036854775807`, `>=-3`
    ∷ (cue.atom (cue.bound less (pos 3)), limited "exclusiveMaximum" (pos 3))
    ∷ (cue.atom (cue.bound at_most (pos 3)), limited "maximum" (pos 3))
    ∷ (cue.atom (cue.bound more (pos 9223372036854775807)), limited "exclusiveMinimum" (pos 9223372036854775807))
    ∷ (cue.atom (cue.bound at_least (negsuc 2)), limited "minimum" (negsuc 2))
    -- no operand, one, and several, of which one may be a conjunction
    ∷ (conjunction [], named_map [])
    ∷ (conjunction (cue.kind string ∷ []), all (typed "string" ∷ []))
    ∷ (conjunction (cue.kind string ∷ cue.atom (cue.text (codes "s")) ∷ []), all (typed "string" ∷ says "const" (text (codes "s")) ∷ []))
    ∷ (conjunction (cue.kind number ∷ conjunction port ∷ []), all (typed "number" ∷ between (pos 1) (pos 65535) ∷ []))
    -- `_`, `_|_`, `null`, `true`, `"s"`
    ∷ (cue.atom cue.top, boolean true)
    ∷ (cue.atom cue.bottom, boolean false)
    ∷ (cue.atom cue.null, says "const" null)
    ∷ (cue.atom (cue.boolean true), says "const" (boolean true))
    ∷ (cue.atom (cue.text (codes "s")), says "const" (text (codes "s")))
    -- `!=5`, `!="s"`, `!=null`
    ∷ (cue.atom (cue.not_integer (pos 5)), named_map (("not", says "const" (integer (pos 5))) ∷ ("type", text (codes "number")) ∷ []))
    ∷ (cue.atom (cue.not_text (codes "s")), named_map (("not", says "const" (text (codes "s"))) ∷ ("type", text (codes "string")) ∷ []))
    ∷ (cue.atom cue.not_null, says "not" (says "const" null))
    -- `#B`
    ∷ (cue.reference (codes "B"), says "$ref" (text (codes "#/$defs/B")))
    -- no alternative, and `int | "s"`
    ∷ (disjunction [], one_of [])
    ∷ (disjunction (cue.kind int ∷ cue.atom (cue.text (codes "s")) ∷ []), any (typed "integer" ∷ says "const" (text (codes "s")) ∷ []))
    -- literals alone: `true | null | true`, `"a" | "b" | "a"`, `1 | 1`, `0 | false`
    ∷ (disjunction (cue.atom (cue.boolean true) ∷ cue.atom cue.null ∷ cue.atom (cue.boolean true) ∷ []), one_of (boolean true ∷ null ∷ []))
    ∷ (disjunction (cue.atom (cue.text (codes "a")) ∷ cue.atom (cue.text (codes "b")) ∷ cue.atom (cue.text (codes "a")) ∷ []), one_of (text (codes "a") ∷ text (codes "b") ∷ []))
    ∷ (disjunction (number_one ∷ number_one ∷ []), one_of (integer (pos 1) ∷ []))
    ∷ (disjunction (cue.atom (cue.integer (pos 0)) ∷ cue.atom (cue.boolean false) ∷ []), one_of (integer (pos 0) ∷ boolean false ∷ []))
    -- `1 | _|_`
    ∷ (disjunction (number_one ∷ cue.atom cue.bottom ∷ []), any (says "const" (integer (pos 1)) ∷ boolean false ∷ []))
    -- `1 | (2 | 3)`, `(1 | 2) | 3`: a parenthesis is one operand
    ∷ (
      disjunction (number_one ∷ disjunction (cue.atom (cue.integer (pos 2)) ∷ cue.atom (cue.integer (pos 3)) ∷ []) ∷ []),
      any (says "const" (integer (pos 1)) ∷ one_of (integer (pos 2) ∷ integer (pos 3) ∷ []) ∷ []),
    )
    ∷ (
      disjunction (disjunction (number_one ∷ cue.atom (cue.integer (pos 2)) ∷ []) ∷ cue.atom (cue.integer (pos 3)) ∷ []),
      any (one_of (integer (pos 1) ∷ integer (pos 2) ∷ []) ∷ says "const" (integer (pos 3)) ∷ []),
    )
    -- `{}`, `{...}`
    ∷ (cue.struct (declarations_of []) false, named_map (("additionalProperties", boolean false) ∷ ("type", text (codes "object")) ∷ []))
    ∷ (cue.struct (declarations_of []) true, typed "object")
    -- `{a?: int, a: >3}`
    ∷ (
      cue.struct (declarations_of (declared_as cue.optional "a" (cue.kind int) ∷ declared_as cue.regular "a" above_three ∷ [])) false,
      named_map (
          ("additionalProperties", boolean false)
          ∷ ("properties", says "a" (all (typed "integer" ∷ limited "exclusiveMinimum" (pos 3) ∷ [])))
          ∷ ("required", array (text (codes "a") ∷ []))
          ∷ ("type", text (codes "object"))
          ∷ []),
    )
    -- `{c?: int, b: string, a!: bool, b: _, c: _, d?: _, ...}`: labels are asked for in the order in which they are declared
    ∷ (
      cue.struct (declarations_of (
          declared_as cue.optional "c" (cue.kind int) ∷ declared_as cue.regular "b" (cue.kind string) ∷ declared_as cue.required "a" (cue.kind bool)
          ∷ declared_as cue.regular "b" (cue.atom cue.top) ∷ declared_as cue.regular "c" (cue.atom cue.top) ∷ declared_as cue.optional "d" (cue.atom cue.top) ∷ [])) true,
      named_map ((
        "properties",
        named_map (
            ("a", typed "boolean")
            ∷ ("b", all (typed "string" ∷ boolean true ∷ []))
            ∷ ("c", all (typed "integer" ∷ boolean true ∷ []))
            ∷ ("d", boolean true)
            ∷ []),
      )
          ∷ ("required", array (text (codes "c") ∷ text (codes "b") ∷ text (codes "a") ∷ []))
          ∷ ("type", text (codes "object"))
          ∷ []),
    )
    -- `{[string]: int}`, `{[string]: int, ...}`
    ∷ (cue.struct (declarations_of (for_all (cue.kind int) ∷ [])) false, named_map (("allOf", array (under_all (typed "integer") ∷ [])) ∷ ("type", text (codes "object")) ∷ []))
    ∷ (cue.struct (declarations_of (for_all (cue.kind int) ∷ [])) true, named_map (("allOf", array (under_all (typed "integer") ∷ [])) ∷ ("type", text (codes "object")) ∷ []))
    -- `{a: >2, [string]: int}`
    ∷ (
      cue.struct (declarations_of (declared_as cue.regular "a" (bounded more (pos 2)) ∷ for_all (cue.kind int) ∷ [])) false,
      named_map (
          ("allOf", array (under_all (typed "integer") ∷ []))
          ∷ ("properties", says "a" (limited "exclusiveMinimum" (pos 2)))
          ∷ ("required", array (text (codes "a") ∷ []))
          ∷ ("type", text (codes "object"))
          ∷ []),
    )
    -- `{[string]: number, a?: >3, [string]: <9}`: two of every key, in their order
    ∷ (
      cue.struct (declarations_of (for_all (cue.kind number) ∷ declared_as cue.optional "a" above_three ∷ for_all (bounded less (pos 9)) ∷ [])) false,
      named_map (
          ("allOf", array (under_all (typed "number") ∷ under_all (limited "exclusiveMaximum" (pos 9)) ∷ []))
          ∷ ("properties", says "a" (limited "exclusiveMinimum" (pos 3)))
          ∷ ("type", text (codes "object"))
          ∷ []),
    )
    -- `{[string]: string, b: _, "": _}`: the empty label is another one than that of no label
    ∷ (
      cue.struct (declarations_of (for_all (cue.kind string) ∷ declared_as cue.regular "b" (cue.atom cue.top) ∷ declared_as cue.regular "" (cue.atom cue.top) ∷ [])) false,
      named_map (
          ("allOf", array (under_all (typed "string") ∷ []))
          ∷ ("properties", named_map (("", boolean true) ∷ ("b", boolean true) ∷ []))
          ∷ ("required", array (text (codes "b") ∷ text [] ∷ []))
          ∷ ("type", text (codes "object"))
          ∷ []),
    )
    -- `{[string]: {[string]: int}}`
    ∷ (
      cue.struct (declarations_of (for_all (cue.struct (declarations_of (for_all (cue.kind int) ∷ [])) false) ∷ [])) false,
      named_map ((
        "allOf",
        array (under_all (named_map (("allOf", array (under_all (typed "integer") ∷ [])) ∷ ("type", text (codes "object")) ∷ [])) ∷ []),
      )
          ∷ ("type", text (codes "object"))
          ∷ []),
    )
    -- `[]`, `[...]`, `[...int]`
    ∷ (cue.list (expressions_of []) cue.closed, named_map (("items", boolean false) ∷ ("type", text (codes "array")) ∷ []))
    ∷ (cue.list (expressions_of []) cue.any, typed "array")
    ∷ (cue.list (expressions_of []) (cue.each (cue.kind int)), named_map (("items", typed "integer") ∷ ("type", text (codes "array")) ∷ []))
    -- `[int, string]`, `[string, ...int]`
    ∷ (cue.list (expressions_of (cue.kind int ∷ cue.kind string ∷ [])) cue.closed, fronted "items" (boolean false) (typed "integer" ∷ typed "string" ∷ []) (pos 2))
    ∷ (cue.list (expressions_of (cue.kind string ∷ [])) (cue.each (cue.kind int)), fronted "items" (typed "integer") (typed "string" ∷ []) (pos 1))
    ∷ []

each_row : map (λ r. schema_of r.0) rows ≡ map (λ r. r.1) rows
each_row = refl

-- ---- integer kinds with bounds

abbrev intervals : List (Expression × Document)
intervals =
    -- `int & >=1 & <=65535`, `int & int`
    (conjunction port, between (pos 1) (pos 65535))
    ∷ (conjunction (cue.kind int ∷ cue.kind int ∷ []), typed "integer")
    -- a limit of each relation: `int & >2`, `int & >=2`, `int & <2`, `int & <=2`, with the bound first too: `>2 & int`
    ∷ (conjunction (cue.kind int ∷ bounded more (pos 2) ∷ []), from (pos 3))
    ∷ (conjunction (cue.kind int ∷ bounded at_least (pos 2) ∷ []), from (pos 2))
    ∷ (conjunction (cue.kind int ∷ bounded less (pos 2) ∷ []), up_to (pos 1))
    ∷ (conjunction (cue.kind int ∷ bounded at_most (pos 2) ∷ []), up_to (pos 2))
    ∷ (conjunction (bounded more (pos 2) ∷ cue.kind int ∷ []), from (pos 3))
    -- `int & >-1`, `int & <0`
    ∷ (conjunction (cue.kind int ∷ bounded more (negsuc 0) ∷ []), from (pos 0))
    ∷ (conjunction (cue.kind int ∷ bounded less (pos 0) ∷ []), up_to (negsuc 0))
    -- the greatest lower limit and the least upper one: `int & >=1 & >=3 & >=2`, `int & <=2 & <=1 & <=3`
    ∷ (conjunction (cue.kind int ∷ bounded at_least (pos 1) ∷ bounded at_least (pos 3) ∷ bounded at_least (pos 2) ∷ []), from (pos 3))
    ∷ (conjunction (cue.kind int ∷ bounded at_most (pos 2) ∷ bounded at_most (pos 1) ∷ bounded at_most (pos 3) ∷ []), up_to (pos 1))
    -- ranges: `int8 & >=1`, `uint & <5`, `int8 & uint`
    ∷ (conjunction (int8 ∷ bounded at_least (pos 1) ∷ []), between (pos 1) (pos 127))
    ∷ (conjunction (uint ∷ bounded less (pos 5) ∷ []), between (pos 0) (pos 4))
    ∷ (conjunction (int8 ∷ uint ∷ []), between (pos 0) (pos 127))
    -- one integer, and none: `int & >=3 & <=3`, `int & >=3 & <3`, `int8 & >126`, `int8 & >127`
    ∷ (conjunction (cue.kind int ∷ bounded at_least (pos 3) ∷ bounded at_most (pos 3) ∷ []), between (pos 3) (pos 3))
    ∷ (conjunction (cue.kind int ∷ bounded at_least (pos 3) ∷ bounded less (pos 3) ∷ []), boolean false)
    ∷ (conjunction (int8 ∷ bounded more (pos 126) ∷ []), between (pos 127) (pos 127))
    ∷ (conjunction (int8 ∷ bounded more (pos 127) ∷ []), boolean false)
    -- the ends of 64 signed bits: `int & >=9223372036854775807`, and `>` one less and this, `int & <=-9223372036854775808`, and `<` one more and this
    ∷ (conjunction (cue.kind int ∷ bounded at_least (pos 9223372036854775807) ∷ []), from (pos 9223372036854775807))
    ∷ (conjunction (cue.kind int ∷ bounded more (pos 9223372036854775806) ∷ []), from (pos 9223372036854775807))
    ∷ (conjunction (cue.kind int ∷ bounded more (pos 9223372036854775807) ∷ []), boolean false)
    ∷ (conjunction (cue.kind int ∷ bounded at_most (negsuc 9223372036854775807) ∷ []), up_to (negsuc 9223372036854775807))
    ∷ (conjunction (cue.kind int ∷ bounded less (negsuc 9223372036854775806) ∷ []), up_to (negsuc 9223372036854775807))
    ∷ (conjunction (cue.kind int ∷ bounded less (negsuc 9223372036854775807) ∷ []), boolean false)
    -- both: `int & >9223372036854775807 & <-9223372036854775808`
    ∷ (conjunction (cue.kind int ∷ bounded more (pos 9223372036854775807) ∷ bounded less (negsuc 9223372036854775807) ∷ []), boolean false)
    -- `int64 & int`
    ∷ (conjunction (int64 ∷ cue.kind int ∷ []), between (negsuc 9223372036854775807) (pos 9223372036854775807))
    -- no interval: `number & int`, `>1 & <5`, `int & 3`, `int & !=3`, `int & #B`
    ∷ (conjunction (cue.kind number ∷ cue.kind int ∷ []), all (typed "number" ∷ typed "integer" ∷ []))
    ∷ (conjunction (bounded more (pos 1) ∷ bounded less (pos 5) ∷ []), all (limited "exclusiveMinimum" (pos 1) ∷ limited "exclusiveMaximum" (pos 5) ∷ []))
    ∷ (conjunction (cue.kind int ∷ cue.atom (cue.integer (pos 3)) ∷ []), all (typed "integer" ∷ says "const" (integer (pos 3)) ∷ []))
    ∷ (conjunction (cue.kind int ∷ cue.atom (cue.not_integer (pos 3)) ∷ []), all (typed "integer" ∷ schema_of (cue.atom (cue.not_integer (pos 3))) ∷ []))
    ∷ (conjunction (cue.kind int ∷ cue.reference (codes "B") ∷ []), all (typed "integer" ∷ says "$ref" (text (codes "#/$defs/B")) ∷ []))
    -- a conjunction inside one: `(int & >1) & <5`
    ∷ (conjunction (conjunction (cue.kind int ∷ bounded more (pos 1) ∷ []) ∷ bounded less (pos 5) ∷ []), all (from (pos 2) ∷ limited "exclusiveMaximum" (pos 5) ∷ []))
    ∷ []

each_interval : map (λ r. schema_of r.0) intervals ≡ map (λ r. r.1) intervals
each_interval = refl

-- ---- definitions

-- without a body, with one, and with several: `#A: int`, then `#A: >2`
by_bodies : map definition_schema ([] ∷ (cue.kind int ∷ []) ∷ (cue.kind int ∷ cue.atom (cue.bound more (pos 2)) ∷ []) ∷ []) ≡ named_map [] ∷ typed "integer" ∷ all (typed "integer" ∷ limited "exclusiveMinimum" (pos 2) ∷ []) ∷ []
by_bodies = refl

-- a root that refers to a definition
referring : reference_to (codes "P") ≡ says "$ref" (text (codes "#/$defs/P"))
referring = refl

-- ---- packages

abbrev declared : Environment
declared = (codes "A", cue.kind int ∷ []) ∷ (codes "B", cue.kind string ∷ []) ∷ []

abbrev schema : Document
schema = named_map (("$defs", named_map (("A", typed "integer") ∷ ("B", typed "string") ∷ [])) ∷ ("$ref", text (codes "#/$defs/A")) ∷ [])

-- what is under each declared name, and under another one
defines : map (defined schema) (codes "A" ∷ codes "B" ∷ codes "C" ∷ []) ≡ Some (typed "integer") ∷ Some (typed "string") ∷ None ∷ []
defines = refl

declares : map (bodies declared) (codes "A" ∷ codes "B" ∷ codes "C" ∷ []) ≡ Some (cue.kind int ∷ []) ∷ Some (cue.kind string ∷ []) ∷ None ∷ []
declares = refl
