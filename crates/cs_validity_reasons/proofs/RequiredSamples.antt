-- How many names are required, worked by the definitions. A wrong expectation stops the check here.
use Rattle.std.proofs.Common.{◌≡◌, ◌*◌, ℕ, List, [], ◌∷◌, map, length, codes, refl, arith}
use Rattle.std.specs.Prelude.{sum_by}
use Rattle.cs_document.specs.Document.{Document, text}
use Rattle.cs_document.proofs.SampleDocuments.{array, map_of}
use Rattle.cs_flat.specs.Nodes.{nodes}
use Rattle.cs_profile.specs.Constraint.{has_keys, at_keys, valid_by_all, not_valid_by, always, never, conjunction, constraint_of}
use Rattle.cs_validate.specs.Rules.{rules_of}
use Rattle.cs_validity_reasons.specs.Required.{names_claimed, names_required, HasManyNames}

abbrev A : List ℕ
A = codes "a"

abbrev B : List ℕ
B = codes "b"

-- ---- names that are required (Validation, section 6.5.3)

names_of_claims : map (names_claimed {H = ℕ} {I = ℕ}) (has_keys [] ∷ has_keys (A ∷ []) ∷ has_keys (A ∷ B ∷ []) ∷ at_keys ((A, 0) ∷ []) ∷ valid_by_all (0 ∷ 1 ∷ []) ∷ []) ≡ 0 ∷ 1 ∷ 2 ∷ 0 ∷ 0 ∷ []
names_of_claims = refl

names_of_constraints : map (names_required {H = ℕ} {I = ℕ}) (always ∷ never ∷ conjunction [] ∷ conjunction (not_valid_by 0 ∷ has_keys (A ∷ B ∷ []) ∷ []) ∷ []) ≡ 0 ∷ 0 ∷ 0 ∷ 2 ∷ []
names_of_constraints = refl

abbrev requires : List (List ℕ) → Document
requires names = map_of ((codes "required", array (map text names)) ∷ [])

-- two at the root, and one in each of two schemas that are equal
abbrev requires_four : Document
requires_four = map_of ((codes "allOf", array (requires (A ∷ []) ∷ requires (A ∷ []) ∷ [])) ∷ (codes "required", array (text A ∷ text B ∷ [])) ∷ [])

each_name_counts : sum_by (λ s. names_required (constraint_of requires_four s)) (rules_of requires_four) ≡ 4
each_name_counts = refl

module _ (R d : Document) where
  abbrev names : ℕ
  names = sum_by (λ s. names_required (constraint_of R s)) (rules_of R)

  names_at_the_bound : length (nodes d) * names ≡ 67108864 → HasManyNames R d → ⊥
  names_at_the_bound e h = omega (arith, e, h)

  names_past_the_bound : length (nodes d) * names ≡ 67108865 → HasManyNames R d
  names_past_the_bound e = omega (arith, e)
