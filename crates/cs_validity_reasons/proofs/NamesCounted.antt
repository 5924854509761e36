-- The names that the rules of the code require are those that the schemas require.
use Rattle.std.proofs.Common.{rules, ◌≡◌, ℕ, zero, suc, ◌+◌, ◌*◌, ℤ, pos, negsuc, false, List, [], ◌∷◌, Option, Some, None, option_map, map, length, slice_index, zero-add, refl, sym, ap, ap₂, ◌∙◌, arith}
use Rattle.std.specs.Prelude.{option_to_list, slice_get, get_or, sum_by}
use Rattle.std.specs.List.{flat_map}
use Rattle.std.proofs.lemmas.List.Sums.{sum_by-cons, sum_by-append}
use Rattle.std.proofs.lemmas.List.Sorted.{sum_by-IsPermutation}
use Rattle.cs_document.specs.Document.{Document, boolean}
use Rattle.cs_flat.specs.Nodes.{nodes}
use Rattle.cs_profile.specs.Keywords.{all_keywords}
use Rattle.cs_profile.specs.Constraint.{Assertion, nothing, has_keys, Constraint, always, never, conjunction, constraint_of}
use Rattle.cs_profile.specs.declared.keyword.Keyword.{Keyword}
use Rattle.cs_profile.specs.declared.keyword.Keyword.TheVariants as keyword
use Rattle.cs_validate.specs.Numbering.{map_assertion, map_constraint, asserted, said, schema_at}
use Rattle.cs_validate.specs.Rules.{rules_of}
use Rattle.cs_validity_reasons.specs.Required.{names_claimed, names_required}
use Rattle.cs_validate.specs.Rooted.{IsRooted}
use Rattle.cs_validate.specs.Steps.{unless_empty, of_count, claim_of, claims_of, asked_of, numbered}
use Rattle.cs_validate.specs.declared.rules.Rule.{Rule as Coded}
use Rattle.cs_validate.specs.declared.rules.Rule.TheVariants as rule
use Rattle.cs_validate.specs.declared.rules.Conjunction.{Conjunction}

-- ---- sums, element by element

sum_mapped : {X Y : Type 0} (f : X → Y) (g : Y → ℕ) (h : X → ℕ) → ((x : X) → g (f x) ≡ h x) → (xs : List X) → sum_by g (map f xs) ≡ sum_by h xs
sum_mapped f g h same [] = refl
sum_mapped f g h same (x ∷ xs) = sum_by-cons g (f x) (map f xs) ∙ ap₂ ◌+◌ (same x) (sum_mapped f g h same xs) ∙ sym (sum_by-cons h x xs)

sum_placed : {X Y : Type 0} (f : X → ℕ) (g : Y → ℕ) (d : Y) (xs : List X) (ys : List Y) → length xs ≡ length ys → ((k : ℕ) (x : X) → slice_get xs k ≡ Some x → f x ≡ g (get_or ys k d)) → sum_by f xs ≡ sum_by g ys
sum_placed f g d [] [] e h = refl
sum_placed f g d [] (y ∷ ys) e h = absurd (omega (arith, e))
sum_placed f g d (x ∷ xs) [] e h = absurd (omega (arith, e))
sum_placed f g d (x ∷ xs) (y ∷ ys) e h =
    sum_by-cons f x xs ∙ ap₂ ◌+◌ (h zero x refl) (sum_placed f g d xs ys (omega (arith, e)) (λ k z i. h (suc k) z i)) ∙ sym (sum_by-cons g y ys)

-- ---- what asserts nothing requires no name, and numbers in place of schemas change no name

module _ {H I : Type 0} where
  one_said : (a : Assertion H I) → sum_by names_claimed (asserted a) ≡ names_claimed a
  one_said (has_keys ks) = zero-add (length ks)
  one_said _ = refl

  claims_said : (claims : List (Assertion H I)) → sum_by names_claimed (flat_map asserted claims) ≡ sum_by names_claimed claims
  claims_said [] = refl
  claims_said (a ∷ claims) = sum_by-append names_claimed (asserted a) (flat_map asserted claims) ∙ ap₂ ◌+◌ (one_said a) (claims_said claims) ∙ sym (sum_by-cons names_claimed a claims)

  names_said : (c : Constraint H I) → names_required (said c) ≡ names_required c
  names_said always = refl
  names_said never = refl
  names_said (conjunction claims) = claims_said claims

module _ {H I J K : Type 0} (f : H → J) (g : I → K) where
  one_mapped : (a : Assertion H I) → names_claimed (map_assertion f g a) ≡ names_claimed a
  one_mapped nothing = refl
  one_mapped _ = refl

  names_mapped : (c : Constraint H I) → names_required (map_constraint f g c) ≡ names_required c
  names_mapped always = refl
  names_mapped never = refl
  names_mapped (conjunction claims) = sum_mapped (map_assertion f g) names_claimed names_claimed one_mapped claims

-- ---- of the keywords of an object, `required` alone requires names

abbrev claimed : Option (Assertion ℕ ℕ) → ℕ
claimed None = 0
claimed (Some a) = names_claimed a

claims_listed : (os : List (Option (Assertion ℕ ℕ))) → sum_by names_claimed (flat_map option_to_list os) ≡ sum_by claimed os
claims_listed [] = refl
claims_listed (None ∷ os) = claims_listed os ∙ sym (zero-add (sum_by claimed os)) ∙ sym (sum_by-cons claimed None os)
claims_listed (Some a ∷ os) = sum_by-cons names_claimed a (flat_map option_to_list os) ∙ ap (λ n. names_claimed a + n) (claims_listed os) ∙ sym (sum_by-cons claimed (Some a) os)

none_mapped : {Y : Type 0} (f : Y → Assertion ℕ ℕ) → ((y : Y) → names_claimed (f y) ≡ 0) → (o : Option Y) → claimed (option_map f o) ≡ 0
none_mapped f h None = refl
none_mapped f h (Some y) = h y

none_listed : {Y : Type 0} (f : List Y → Assertion ℕ ℕ) → ((ys : List Y) → names_claimed (f ys) ≡ 0) → (ys : List Y) → claimed (unless_empty f ys) ≡ 0
none_listed f h [] = refl
none_listed f h (y ∷ ys) = h (y ∷ ys)

none_counted : (f : ℕ → Assertion ℕ ℕ) → ((l : ℕ) → names_claimed (f l) ≡ 0) → (z : ℤ) → names_claimed (of_count f z) ≡ 0
none_counted f h (pos l) = h l
none_counted f h (negsuc l) = refl

keys_claimed : (ks : List (List ℕ)) → claimed (unless_empty has_keys ks) ≡ length ks
keys_claimed [] = refl
keys_claimed (k ∷ ks) = refl

module _ (c : Conjunction) where
  abbrev by_keyword : Keyword → ℕ
  by_keyword keyword.Required = length c.required
  by_keyword _ = 0

  ruleset of_none = (rules, none_mapped, none_listed, none_counted)

  keyword_claims : (w : Keyword) → claimed (claim_of c w) ≡ by_keyword w
  keyword_claims keyword.Required = keys_claimed c.required
  keyword_claims _ = search of_none

  pub names_of_object : names_required (asked_of (rule.Object c)) ≡ length c.required
  names_of_object =
      let sum : sum_by by_keyword all_keywords ≡ length c.required = omega arith in
      claims_listed (claims_of c) ∙ sum_mapped (claim_of c) claimed by_keyword keyword_claims all_keywords ∙ sum

-- ---- the whole

pub names_are : (R : Document) (rules : List Coded) (inner : List ℕ) (root : ℕ) → IsRooted R rules inner root
    → sum_by (λ x. names_required (asked_of x)) rules ≡ sum_by (λ s. names_required (constraint_of R s)) (rules_of R)
names_are R rules inner root h =
    sym (sum_mapped (numbered inner) names_required (λ x. names_required (asked_of x)) (λ x. names_mapped (λ k. k) (slice_index inner) (asked_of x)) rules)
    ∙ sum_placed names_required (λ s. names_required (constraint_of R s)) (boolean false) (map (numbered inner) rules) h.all h.numbering.count
    (λ r c e. sym (names_mapped (schema_at h.all) (schema_at h.all) c) ∙ sym (names_said (map_constraint (schema_at h.all) (schema_at h.all) c))
    ∙ ap names_required (sym (h.numbering.asks r c e)) ∙ names_said (constraint_of R (schema_at h.all r)))
    ∙ sum_by-IsPermutation (λ s. names_required (constraint_of R s)) (rules_of R) h.all h.are

-- so values make as many pairs with the ones as with the others
pub pairs_are : (R d : Document) (rules coded : List Coded) (inner : List ℕ) (root values : ℕ) → IsRooted R rules inner root → coded ≡ rules → values ≡ length (nodes d)
    → values * sum_by (λ x. names_required (asked_of x)) coded ≡ length (nodes d) * sum_by (λ s. names_required (constraint_of R s)) (rules_of R)
pairs_are R d rules coded inner root values h is count = ap₂ ◌*◌ count (ap (sum_by (λ x. names_required (asked_of x))) is ∙ names_are R rules inner root h)
