-- Documents and their texts, worked by the definitions. A wrong expectation stops the check here.
use Rattle.std.proofs.Common.{◌≡◌, pos, neg_ℤ, true, false, [], ◌∷◌, map, codes, Option, Some, None, option_and_then, refl}
use Rattle.std.specs.Prelude.{is_some}
use Rattle.std.specs.Fmt.{digits}
use Rattle.std.specs.Str.{chars, is_utf8}
use Rattle.std.proofs.lemmas.Str.{IsUtf8-from_is_utf8}
use Rattle.serde_json.specs.Read.{read}
use Rattle.cs_document.specs.Document.{Document, null, boolean, integer, text}
use Rattle.cs_document.proofs.SampleDocuments.{number, array, map_of}
use Rattle.cs_json.specs.Texts.{document_of, text_of, Reads}
use Rattle.cs_json.specs.Refusal.{IsJson, HasOtherNumber}
use Rattle.cs_json.proofs.OnLiterals.{cs_doc_on_literals}
use Prim.Native.String.{String}

-- ---- short forms

-- ---- what is written (RFC 8259; a text has the shortest escapes, and only those that it must have)

written : map text_of (null ∷ boolean true ∷ boolean false ∷ number 0 ∷ number 9223372036854775807 ∷ integer (neg_ℤ (pos 9223372036854775808))
    ∷ text [] ∷ text (codes "a/b") ∷ array [] ∷ array (number 1 ∷ array (number 2 ∷ []) ∷ null ∷ []) ∷ map_of [] ∷ map_of ((codes "a", array []) ∷ (codes "b", text (codes "c")) ∷ []) ∷ [])
    ≡ codes "null" ∷ codes "true" ∷ codes "false" ∷ codes "0" ∷ codes "9223372036854775807" ∷ codes "-9223372036854775808"
    ∷ codes "\"\"" ∷ codes "\"a/b\"" ∷ codes "[]" ∷ codes "[1,[2],null]" ∷ codes "{}" ∷ codes "{\"a\":[],\"b\":\"c\"}" ∷ []
unfolding cs_doc_on_literals digits
written = refl

-- `"`, `\`, the five control characters with a letter, other ones at each end, and `é`, which is two bytes
escapes : map (λ x. text_of (text x)) ((34 ∷ []) ∷ (92 ∷ []) ∷ (8 ∷ 9 ∷ 10 ∷ 12 ∷ 13 ∷ []) ∷ (0 ∷ 31 ∷ 32 ∷ 127 ∷ []) ∷ (195 ∷ 169 ∷ []) ∷ [])
    ≡ codes "\"\\\"\"" ∷ codes "\"\\\\\"" ∷ codes "\"\\b\\t\\n\\f\\r\"" ∷ (34 ∷ 92 ∷ 117 ∷ 48 ∷ 48 ∷ 48 ∷ 48 ∷ 92 ∷ 117 ∷ 48 ∷ 48 ∷ 49 ∷ 102 ∷ 32 ∷ 127 ∷ 34 ∷ []) ∷ (34 ∷ 195 ∷ 169 ∷ 34 ∷ []) ∷ []
unfolding cs_doc_on_literals
escapes = refl

-- ---- what is read

abbrev read_as : String → Option Document
read_as s = option_and_then document_of (read (codes s))

-- each form, with blanks, and with keys in another order
documents : map read_as ("null" ∷ "true" ∷ "false" ∷ "0" ∷ "\"a\"" ∷ " [ 1 , [ 2 ] , { \"k\" : \"v\" } ] " ∷ "{\"b\":[],\"a\":{}}" ∷ [])
    ≡ Some null ∷ Some (boolean true) ∷ Some (boolean false) ∷ Some (number 0) ∷ Some (text (codes "a")) ∷ Some (array (number 1 ∷ array (number 2 ∷ []) ∷ map_of ((codes "k", text (codes "v")) ∷ []) ∷ []))
    ∷ Some (map_of ((codes "a", map_of []) ∷ (codes "b", array []) ∷ [])) ∷ []
unfolding cs_doc_on_literals
documents = refl

-- integers of 64 signed bits at their ends, and past them
integers : map read_as ("9223372036854775807" ∷ "9223372036854775808" ∷ "-9223372036854775808" ∷ "-9223372036854775809" ∷ "1.0" ∷ "1e3" ∷ "[[9223372036854775808]]" ∷ "{\"a\":1.5}" ∷ [])
    ≡ Some (number 9223372036854775807) ∷ None ∷ Some (integer (neg_ℤ (pos 9223372036854775808))) ∷ None ∷ None ∷ None ∷ None ∷ None ∷ []
unfolding cs_doc_on_literals
integers = refl

-- those numbers are JSON, and a text that is cut off, empty, or has more behind its value isn't
are_json : map (λ s. is_some (read (codes s))) ("9223372036854775808" ∷ "1.0" ∷ "[1]" ∷ "[1" ∷ "" ∷ "1 2" ∷ "nul" ∷ "{\"a\"}" ∷ "'a'" ∷ [])
    ≡ true ∷ true ∷ true ∷ false ∷ false ∷ false ∷ false ∷ false ∷ false ∷ []
unfolding cs_doc_on_literals
are_json = refl

a_document : Reads (codes "[1]") (array (number 1 ∷ []))
unfolding cs_doc_on_literals chars is_utf8
a_document = (IsUtf8-from_is_utf8 (codes "[1]") refl, refl)

another_number : HasOtherNumber (codes "[1.0]")
unfolding cs_doc_on_literals chars is_utf8
another_number = ((IsUtf8-from_is_utf8 (codes "[1.0]") refl, refl), refl)

no_json : IsJson (codes "[1") → ⊥
unfolding cs_doc_on_literals
no_json h = let e = h.1 in cc
