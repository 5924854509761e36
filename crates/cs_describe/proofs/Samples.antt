-- Which schema gets which note, worked by the definitions. A wrong expectation stops the check here.
use Rattle.std.proofs.Common.{◌≡◌, true, false, List, [], ◌∷◌, Option, Some, None, option_map, String as Text, Global, string_bytes, codes, refl, ap}
use Rattle.cs_document.specs.Document.{Document, boolean}
use Rattle.cs_document.proofs.SampleDocuments.{number, string as t, array as l, named_map as o}
use Rattle.cs_describe.specs.declared.notes.Notes.{Notes, out-Notes}
use Rattle.cs_document.specs.View.{doc_view}
use Rattle.cs_document.specs.declared.doc.Doc.{Doc}
use Rattle.cs_describe.specs.declared.note.Note.TheVariants as note
use Rattle.cs_describe.specs.Described.{described, described_document, note_of, unless_deep}
use Rattle.cs_describe.specs.Plain.{without_defaults}
use Prim.Native.String.{String}

-- ---- texts, and where they are for

abbrev IsText : Text Global → String → Type 0
IsText t s = string_bytes t ≡ codes s

-- for the schema itself there is this text, or none
abbrev Says : Notes → Option (Text Global) → Type 0
Says n t = (out-Notes n).text ≡ t

abbrev HasProperties : Notes → List (Text Global × Notes) → Type 0
HasProperties n ns = (out-Notes n).properties.entries ≡ ns

abbrev HasAllOf : Notes → List Notes → Type 0
HasAllOf n ns = (out-Notes n).all_of.items ≡ ns

abbrev HasAnyOf : Notes → List Notes → Type 0
HasAnyOf n ns = (out-Notes n).any_of.items ≡ ns

abbrev HasPrefix : Notes → List Notes → Type 0
HasPrefix n ns = (out-Notes n).prefix.items ≡ ns

abbrev HasRest : Notes → Notes → Type 0
HasRest n m = option_map (λ b. b.value) (out-Notes n).rest ≡ Some m

abbrev HasAdditional : Notes → Notes → Type 0
HasAdditional n m = option_map (λ b. b.value) (out-Notes n).additional ≡ Some m

-- ---- a root with one definition

abbrev root : Document → Document
root d = o (("$defs", o (("P", d) ∷ [])) ∷ ("$ref", t "#/$defs/P") ∷ [])

-- what becomes of the schema of `P`, with these texts for it
abbrev Becomes : Notes → Document → Document → Type 0
Becomes n d e = (p : Text Global) → IsText p "P" → described_document note.Description ((p, n) ∷ []) (root d) ≡ root e

of_root : (n : Notes) (d e : Document) → described note.Description (Some n) d ≡ e → Becomes n d e
of_root n d e h p is = rw is (ap root h)

-- ---- a schema

-- a text is put beside a reference, in place of another
beside_reference : (n : Notes) (one : Text Global) → IsText one "one" → Says n (Some one)
    → Becomes n (o (("$ref", t "#/$defs/Q") ∷ ("description", t "before") ∷ [])) (o (("$ref", t "#/$defs/Q") ∷ ("description", t "one") ∷ []))
beside_reference n one is says = of_root n _ _ (rw (says, is) refl)

-- `true` becomes an object with a text, and stays without one; `false` stays
truth_described : (n : Notes) (any : Text Global) → IsText any "any" → Says n (Some any) → Becomes n (boolean true) (o (("description", t "any") ∷ []))
truth_described n any is says = of_root n _ _ (rw (says, is) refl)

truth_without_text : (n : Notes) → Says n None → Becomes n (boolean true) (boolean true)
truth_without_text n says = of_root n _ _ (rw says refl)

falsity : (n : Notes) (none : Text Global) → IsText none "none" → Says n (Some none) → Becomes n (boolean false) (boolean false)
falsity n none is says = of_root n _ _ refl

-- limits of lengths hold no schemas, and stay beside a text
beside_limits : (n : Notes) (one : Text Global) → IsText one "one" → Says n (Some one)
    → Becomes n (o (("maxItems", number 0) ∷ ("maxLength", number 3) ∷ ("maxProperties", number 1) ∷ ("minLength", number 2) ∷ ("minProperties", number 9) ∷ []))
    (o (("description", t "one") ∷ ("maxItems", number 0) ∷ ("maxLength", number 3) ∷ ("maxProperties", number 1) ∷ ("minLength", number 2) ∷ ("minProperties", number 9) ∷ []))
beside_limits n one is says = of_root n _ _ (rw (says, is) refl)

-- ---- the schemas in it

-- a property may be named as a keyword
named_as_a_keyword : (n m : Notes) (label words : Text Global) → IsText label "description" → IsText words "in words"
    → Says n None → HasProperties n ((label, m) ∷ []) → Says m (Some words)
    → Becomes n (o (("properties", o (("description", boolean true) ∷ ("properties", boolean false) ∷ [])) ∷ []))
    (o (("properties", o (("description", o (("description", t "in words") ∷ [])) ∷ ("properties", boolean false) ∷ [])) ∷ []))
named_as_a_keyword n m label words is_label is none properties says = of_root n _ _ (rw (none, properties, is_label, says, is) refl)

-- the places of nested lists are counted, and texts behind the last schema are for none
nested_lists : (n first below inner past : Notes) (words nowhere : Text Global) → IsText words "first" → IsText nowhere "nowhere"
    → Says n None → HasAllOf n (first ∷ below ∷ past ∷ []) → Says first None → Says below None → HasAnyOf below (inner ∷ []) → Says inner (Some words) → Says past (Some nowhere)
    → Becomes n (o (("allOf", l (boolean true ∷ o (("anyOf", l (boolean true ∷ boolean true ∷ [])) ∷ []) ∷ [])) ∷ []))
    (o (("allOf", l (boolean true ∷ o (("anyOf", l (o (("description", t "first") ∷ []) ∷ boolean true ∷ [])) ∷ []) ∷ [])) ∷ []))
nested_lists n first below inner past words nowhere is is_past none all_of first_none below_none any_of says says_past =
    of_root n _ _ (rw (none, all_of, first_none, below_none, any_of, says, is) refl)

-- the value of `const` is no schema, and that of `prefixItems` is no list here: texts for them change nothing
not_fitting : (n rest front : Notes) (items first : Text Global) → IsText items "of items" → IsText first "of the first"
    → Says n None → HasRest n rest → Says rest (Some items) → HasPrefix n (front ∷ []) → Says front (Some first)
    → Becomes n (o (("const", o (("items", boolean true) ∷ [])) ∷ ("prefixItems", boolean true) ∷ [])) (o (("const", o (("items", boolean true) ∷ [])) ∷ ("prefixItems", boolean true) ∷ []))
not_fitting n rest front items first is_items is_first none has_rest says_rest has_prefix says_front = of_root n _ _ (rw none refl)

rest_and_additional : (n rest additional : Notes) (others more : Text Global) → IsText others "others" → IsText more "more"
    → Says n None → HasRest n rest → Says rest (Some others) → HasAdditional n additional → Says additional (Some more)
    → Becomes n (o (("additionalProperties", boolean true) ∷ ("items", boolean true) ∷ []))
    (o (("additionalProperties", o (("description", t "more") ∷ [])) ∷ ("items", o (("description", t "others") ∷ [])) ∷ []))
rest_and_additional n rest additional others more is_others is_more none has_rest says_rest has_additional says_additional =
    of_root n _ _ (rw (none, has_additional, says_additional, is_more, has_rest, says_rest, is_others) refl)

-- ---- defaults

-- for the schema itself there is this default
abbrev Defaults : Notes → Doc → Document → Type 0
Defaults n v d = ((out-Notes n).default ≡ Some v) × (doc_view v ≡ d)

default_noted : (n : Notes) (v : Doc) (d : Document) → Defaults n v d → note_of note.Default n ≡ unless_deep d
default_noted n v d h = rw (h.0, h.1) refl

-- a default is put in place of another, and a text isn't put with it
beside_constants : (n : Notes) (v : Doc) → Defaults n v (t "a")
    → described note.Default (Some n) (o (("default", t "b") ∷ ("enum", l (t "a" ∷ t "b" ∷ [])) ∷ [])) ≡ o (("default", t "a") ∷ ("enum", l (t "a" ∷ t "b" ∷ [])) ∷ [])
beside_constants n v h = rw (default_noted n v (t "a") h) refl

-- eight lists may nest in it, and not nine
abbrev nested : Document → Document
nested d = l (l (l (l (l (l (l (l (d ∷ []) ∷ []) ∷ []) ∷ []) ∷ []) ∷ []) ∷ []) ∷ [])

eight : unless_deep (nested (boolean true)) ≡ Some (nested (boolean true))
eight = refl

nine : unless_deep (nested (l [])) ≡ None
nine = refl

-- without defaults what asks nothing is `true`; a property of that name, a constant and the other notes stay
bare : without_defaults (o (("default", boolean true) ∷ ("properties", o (("a", o (("default", l []) ∷ [])) ∷ ("default", o (("const", o (("default", boolean true) ∷ [])) ∷ [])) ∷ ("text", o (("default", t "x") ∷ ("description", t "y") ∷ [])) ∷ [])) ∷ []))
    ≡ o (("properties", o (("a", boolean true) ∷ ("default", o (("const", o (("default", boolean true) ∷ [])) ∷ [])) ∷ ("text", o (("description", t "y") ∷ [])) ∷ [])) ∷ [])
bare = refl
