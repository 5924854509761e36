-- The rules of small schema documents and their numbers, worked by computation.
use Rattle.std.proofs.Common.{◌≡◌, ℕ, zero, suc, true, false, List, [], ◌∷◌, length, Some, codes, refl, arith, subst}
use Rattle.std.specs.Prelude.{slice_get}
use Rattle.std.proofs.lemmas.Option.{same_Some}
use Rattle.cs_document.specs.Document.{Document, boolean}
use Rattle.cs_document.proofs.SampleDocuments.{string, array, number, named_map}
use Rattle.cs_profile.specs.Constraint.{Constraint, valid_by, has_keys, at_keys, conjunction, constraint_of}
use Rattle.cs_validate.specs.Numbering.{map_constraint, said, schema_at, PartsBelow, IsNumbering}
use Rattle.cs_validate.specs.Rules.{rules_of}

-- ---- {"$defs":{"N":{"properties":{"next":{"$ref":"#/$defs/N"}},"required":["v"]}},"$ref":"#/$defs/N"}

abbrev refers : Document
refers = named_map (("$ref", string "#/$defs/N") ∷ [])

abbrev node : Document
node = named_map (("properties", named_map (("next", refers) ∷ [])) ∷ ("required", array (string "v" ∷ [])) ∷ [])

abbrev linked : Document
linked = named_map (("$defs", named_map (("N", node) ∷ [])) ∷ ("$ref", string "#/$defs/N") ∷ [])

three_rules : rules_of linked ≡ linked ∷ node ∷ refers ∷ []
three_rules = refl

-- the definition first, then what refers to it
abbrev linked_rules : List Document
linked_rules = node ∷ linked ∷ refers ∷ []

abbrev linked_asked : List (Constraint ℕ ℕ)
linked_asked = conjunction (at_keys ((codes "next", 2) ∷ []) ∷ has_keys (codes "v" ∷ []) ∷ []) ∷ conjunction (valid_by (Some 0) ∷ []) ∷ conjunction (valid_by (Some 0) ∷ []) ∷ []

abbrev Asks : ℕ → Constraint ℕ ℕ → Type 0
Asks r c = said (constraint_of linked (schema_at linked_rules r)) ≡ said (map_constraint (schema_at linked_rules) (schema_at linked_rules) c)

linked_numbered : IsNumbering linked linked_rules linked_asked
linked_numbered = record { count = refl; asks = asks; below = below }
  where
    asks : (r : ℕ) (c : Constraint ℕ ℕ) → slice_get linked_asked r ≡ Some c → Asks r c
    asks zero c e = subst (Asks 0) (same_Some _ c e) refl
    asks (suc zero) c e = subst (Asks 1) (same_Some _ c e) refl
    asks (suc (suc zero)) c e = subst (Asks 2) (same_Some _ c e) refl
    asks (suc (suc (suc r))) c e = cc

    below : (r : ℕ) (c : Constraint ℕ ℕ) → slice_get linked_asked r ≡ Some c → PartsBelow r 3 c
    below zero c e = subst (PartsBelow 0 3) (same_Some _ c e) ((omega arith, tt), (tt, tt))
    below (suc zero) c e = subst (PartsBelow 1 3) (same_Some _ c e) ((omega arith, tt), tt)
    below (suc (suc zero)) c e = subst (PartsBelow 2 3) (same_Some _ c e) ((omega arith, tt), tt)
    below (suc (suc (suc r))) c e = cc

-- ---- schemas inside each keyword that holds some, and none inside a value

abbrev everywhere : Document
everywhere = named_map
    (("additionalProperties", boolean true) ∷ ("allOf", array (boolean false ∷ boolean true ∷ [])) ∷ ("anyOf", array (boolean true ∷ [])) ∷ ("const", named_map (("not", boolean true) ∷ [])) ∷ ("enum", array (named_map (("not", boolean true) ∷ []) ∷ []))
    ∷ ("items", boolean true) ∷ ("not", boolean false) ∷ ("prefixItems", array (boolean true ∷ boolean false ∷ [])) ∷ ("properties", named_map (("a", boolean true) ∷ ("b", named_map (("not", number 1) ∷ [])) ∷ [])) ∷ [])

of_each_keyword : rules_of everywhere
    ≡ everywhere ∷ boolean true ∷ boolean false ∷ boolean true ∷ boolean true ∷ boolean true ∷ boolean false ∷ boolean true ∷ boolean false ∷ boolean true ∷ named_map (("not", number 1) ∷ []) ∷ number 1 ∷ []
of_each_keyword = refl

-- `$defs` below the root holds no schemas
of_inner_definitions : length (rules_of (named_map (("not", named_map (("$defs", named_map (("N", boolean true) ∷ [])) ∷ [])) ∷ []))) ≡ 2
of_inner_definitions = refl
