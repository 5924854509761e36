-- The keys in the causes of a rule: those that the rule declares, those that it requires, and those of the value.
use Rattle.std.proofs.Common.{◌≡◌, ℕ, Bool, ℤ, pos, negsuc, List, [], ◌∷◌, Option, Some, None, map, option_map, slice_index, length, Contains, refl, sym, subst, arith}
use Rattle.std.specs.Prelude.{option_to_list}
use Rattle.std.specs.List.{flat_map}
use Rattle.cs_document.specs.Document.{Document, Entry}
use Rattle.cs_document.specs.Inside.{map_entry}
use Rattle.cs_document.specs.Opened.{Opened, an_object}
use Rattle.cs_document.specs.Sizes.{Characters, Elements, Keys}
use Rattle.cs_document.specs.View.{doc_view}
use Rattle.cs_profile.specs.Keywords.{all_keywords}
use Rattle.cs_profile.specs.Constraint.{Assertion, nothing, valid_by, has_kind, equals, is_among, at_least, at_most, above, below, has_keys, at_keys, at_other_keys, in_front, behind, at_least_long, at_most_long, valid_by_all, valid_by_any, not_valid_by, Constraint}
use Rattle.cs_profile.specs.Numbered.{numbered as numbers_from, names_in}
use Rattle.cs_profile.specs.declared.keyword.Keyword.{Keyword}
use Rattle.cs_profile.specs.declared.keyword.Keyword.TheVariants as keyword
use Rattle.cs_validate.specs.Numbering.{map_assertion}
use Rattle.cs_validate.specs.Steps.{kind_of, unless_empty, of_count, items_place, prefix_place, properties_place, places_from, claim_of, claims_of, numbered}
use Rattle.cs_validate.specs.declared.rules.Rule.TheVariants as rule
use Rattle.cs_validate.specs.declared.rules.Conjunction.{Conjunction}
use Rattle.cs_validity_reasons.specs.Causes.{property, additional, missing, IsCause, of_claim, of_property, of_additional, of_missing}
use Rattle.cs_validity_reasons.proofs.Contained.{contains_map, contains_map_back, in_each_back, in_single}

-- what one form of assertion has in it
module _ {Y : Type 0} (parts : Assertion ℕ ℕ → List Y) where
  abbrev parts_in : Option (Assertion ℕ ℕ) → List Y
  parts_in None = []
  parts_in (Some a) = parts a

  none_if : {X : Type 0} (f : X → Assertion ℕ ℕ) → ((x : X) → parts (f x) ≡ []) → (o : Option X) → parts_in (option_map f o) ≡ []
  none_if f h None = refl
  none_if f h (Some x) = h x

  none_unless : {X : Type 0} (f : List X → Assertion ℕ ℕ) → ((xs : List X) → parts (f xs) ≡ []) → (xs : List X) → parts_in (unless_empty f xs) ≡ []
  none_unless f h [] = refl
  none_unless f h (x ∷ xs) = h (x ∷ xs)

  all_unless : (f : List Y → Assertion ℕ ℕ) → ((xs : List Y) → parts (f xs) ≡ xs) → (xs : List Y) → parts_in (unless_empty f xs) ≡ xs
  all_unless f h [] = refl
  all_unless f h (x ∷ xs) = h (x ∷ xs)

  -- what every keyword has is what one has
  of_claims : (c : Conjunction) (all : List Y) → ((w : Keyword) (y : Y) → Contains (parts_in (claim_of c w)) y → Contains all y)
      → (a : Assertion ℕ ℕ) (y : Y) → Contains (flat_map option_to_list (claims_of c)) a → Contains (parts a) y → Contains all y
  of_claims c all each a y m h =
      let o = in_each_back option_to_list a (claims_of c) m in
      let w = contains_map_back (claim_of c) all_keywords o.0 o.1 in
      each w.0 y (subst (λ p. Contains (parts_in p) y) (sym w.2) (held o.0 o.2))
    where
      held : (p : Option (Assertion ℕ ℕ)) → Contains (option_to_list p) a → Contains (parts_in p) y
      held None k = let l = k.1 in absurd (omega (arith, l))
      held (Some b) k = subst (λ e. Contains (parts e) y) (sym (in_single b a k)) h

nothing_in : {Y : Type 0} (xs ys : List Y) (y : Y) → xs ≡ [] → Contains xs y → Contains ys y
nothing_in xs ys y e m = let k : Contains [] y = subst (λ zs. Contains zs y) e m in let l = k.1 in absurd (omega (arith, l))

-- an integer below zero asks nothing
count_none : {Y : Type 0} (parts : Assertion ℕ ℕ → List Y) (g : ℕ → Assertion ℕ ℕ) → ((n : ℕ) → parts (g n) ≡ []) → parts nothing ≡ [] → (z : ℤ) → parts (of_count g z) ≡ []
count_none parts g h k (pos n) = h n
count_none parts g h k (negsuc n) = k

abbrev declared : Assertion ℕ ℕ → List (Entry ℕ)
declared (at_keys ps) = ps
declared _ = []

abbrev required : Assertion ℕ ℕ → List (List ℕ)
required (has_keys ks) = ks
required _ = []

module _ (c : Conjunction) where
  abbrev declared_here : List (Entry ℕ)
  declared_here = numbers_from (properties_place c) (names_in c.keywords.now.properties.entries)

  only_declared : (w : Keyword) (y : Entry ℕ) → Contains (parts_in declared (claim_of c w)) y → Contains declared_here y
  only_declared keyword.Properties y m = subst (λ zs. Contains zs y) (all_unless declared at_keys (λ zs. refl) declared_here) m
  only_declared keyword.Ref y m = nothing_in _ _ y (none_if declared (λ n. valid_by c.reference) (λ n. refl) c.keywords.now.reference) m
  only_declared keyword.AdditionalProperties y m = nothing_in _ _ y (none_if declared (λ s. at_other_keys (names_in c.keywords.now.properties.entries) c.first) (λ s. refl) c.keywords.now.additional) m
  only_declared keyword.AllOf y m = nothing_in _ _ y (none_unless declared valid_by_all (λ zs. refl) c.all_of.items) m
  only_declared keyword.AnyOf y m = nothing_in _ _ y (none_unless declared valid_by_any (λ zs. refl) c.any_of.items) m
  only_declared keyword.Const y m = nothing_in _ _ y (none_if declared (λ d. equals (doc_view d)) (λ d. refl) c.keywords.now.equal) m
  only_declared keyword.Enum y m = nothing_in _ _ y (none_if declared is_among (λ d. refl) c.one_of) m
  only_declared keyword.ExclusiveMaximum y m = nothing_in _ _ y (none_if declared below (λ d. refl) c.keywords.now.below) m
  only_declared keyword.ExclusiveMinimum y m = nothing_in _ _ y (none_if declared above (λ d. refl) c.keywords.now.above) m
  only_declared keyword.Items y m = nothing_in _ _ y (none_if declared (λ s. behind (length c.keywords.now.prefix.items) (items_place c)) (λ s. refl) c.keywords.now.rest) m
  only_declared keyword.Maximum y m = nothing_in _ _ y (none_if declared at_most (λ d. refl) c.keywords.now.maximum) m
  only_declared keyword.MaxItems y m = nothing_in _ _ y (none_if declared (of_count (at_most_long Elements)) (count_none declared (at_most_long Elements) (λ n. refl) refl) c.keywords.now.max_items) m
  only_declared keyword.MaxLength y m = nothing_in _ _ y (none_if declared (of_count (at_most_long Characters)) (count_none declared (at_most_long Characters) (λ n. refl) refl) c.keywords.now.max_length) m
  only_declared keyword.MaxProperties y m = nothing_in _ _ y (none_if declared (of_count (at_most_long Keys)) (count_none declared (at_most_long Keys) (λ n. refl) refl) c.keywords.now.max_properties) m
  only_declared keyword.MinItems y m = nothing_in _ _ y (none_if declared (of_count (at_least_long Elements)) (count_none declared (at_least_long Elements) (λ n. refl) refl) c.keywords.now.min_items) m
  only_declared keyword.MinLength y m = nothing_in _ _ y (none_if declared (of_count (at_least_long Characters)) (count_none declared (at_least_long Characters) (λ n. refl) refl) c.keywords.now.min_length) m
  only_declared keyword.MinProperties y m = nothing_in _ _ y (none_if declared (of_count (at_least_long Keys)) (count_none declared (at_least_long Keys) (λ n. refl) refl) c.keywords.now.min_properties) m
  only_declared keyword.Minimum y m = nothing_in _ _ y (none_if declared at_least (λ d. refl) c.keywords.now.minimum) m
  only_declared keyword.Not y m = nothing_in _ _ y (none_if declared not_valid_by (λ d. refl) c.negated) m
  only_declared keyword.PrefixItems y m = nothing_in _ _ y (none_unless declared in_front (λ zs. refl) (places_from (prefix_place c) c.keywords.now.prefix.items)) m
  only_declared keyword.Required y m = nothing_in _ _ y (none_unless declared has_keys (λ zs. refl) c.required) m
  only_declared keyword.Type y m = nothing_in _ _ y (none_if declared (λ j. has_kind (kind_of j)) (λ j. refl) c.keywords.now.kind) m
  only_declared _ y m = nothing_in _ _ y refl m

  only_required : (w : Keyword) (y : List ℕ) → Contains (parts_in required (claim_of c w)) y → Contains c.required y
  only_required keyword.Required y m = subst (λ zs. Contains zs y) (all_unless required has_keys (λ zs. refl) c.required) m
  only_required keyword.Properties y m = nothing_in _ _ y (none_unless required at_keys (λ zs. refl) declared_here) m
  only_required keyword.Ref y m = nothing_in _ _ y (none_if required (λ n. valid_by c.reference) (λ n. refl) c.keywords.now.reference) m
  only_required keyword.AdditionalProperties y m = nothing_in _ _ y (none_if required (λ s. at_other_keys (names_in c.keywords.now.properties.entries) c.first) (λ s. refl) c.keywords.now.additional) m
  only_required keyword.AllOf y m = nothing_in _ _ y (none_unless required valid_by_all (λ zs. refl) c.all_of.items) m
  only_required keyword.AnyOf y m = nothing_in _ _ y (none_unless required valid_by_any (λ zs. refl) c.any_of.items) m
  only_required keyword.Const y m = nothing_in _ _ y (none_if required (λ d. equals (doc_view d)) (λ d. refl) c.keywords.now.equal) m
  only_required keyword.Enum y m = nothing_in _ _ y (none_if required is_among (λ d. refl) c.one_of) m
  only_required keyword.ExclusiveMaximum y m = nothing_in _ _ y (none_if required below (λ d. refl) c.keywords.now.below) m
  only_required keyword.ExclusiveMinimum y m = nothing_in _ _ y (none_if required above (λ d. refl) c.keywords.now.above) m
  only_required keyword.Items y m = nothing_in _ _ y (none_if required (λ s. behind (length c.keywords.now.prefix.items) (items_place c)) (λ s. refl) c.keywords.now.rest) m
  only_required keyword.Maximum y m = nothing_in _ _ y (none_if required at_most (λ d. refl) c.keywords.now.maximum) m
  only_required keyword.MaxItems y m = nothing_in _ _ y (none_if required (of_count (at_most_long Elements)) (count_none required (at_most_long Elements) (λ n. refl) refl) c.keywords.now.max_items) m
  only_required keyword.MaxLength y m = nothing_in _ _ y (none_if required (of_count (at_most_long Characters)) (count_none required (at_most_long Characters) (λ n. refl) refl) c.keywords.now.max_length) m
  only_required keyword.MaxProperties y m = nothing_in _ _ y (none_if required (of_count (at_most_long Keys)) (count_none required (at_most_long Keys) (λ n. refl) refl) c.keywords.now.max_properties) m
  only_required keyword.MinItems y m = nothing_in _ _ y (none_if required (of_count (at_least_long Elements)) (count_none required (at_least_long Elements) (λ n. refl) refl) c.keywords.now.min_items) m
  only_required keyword.MinLength y m = nothing_in _ _ y (none_if required (of_count (at_least_long Characters)) (count_none required (at_least_long Characters) (λ n. refl) refl) c.keywords.now.min_length) m
  only_required keyword.MinProperties y m = nothing_in _ _ y (none_if required (of_count (at_least_long Keys)) (count_none required (at_least_long Keys) (λ n. refl) refl) c.keywords.now.min_properties) m
  only_required keyword.Minimum y m = nothing_in _ _ y (none_if required at_least (λ d. refl) c.keywords.now.minimum) m
  only_required keyword.Not y m = nothing_in _ _ y (none_if required not_valid_by (λ d. refl) c.negated) m
  only_required keyword.PrefixItems y m = nothing_in _ _ y (none_unless required in_front (λ zs. refl) (places_from (prefix_place c) c.keywords.now.prefix.items)) m
  only_required keyword.Type y m = nothing_in _ _ y (none_if required (λ j. has_kind (kind_of j)) (λ j. refl) c.keywords.now.kind) m
  only_required _ y m = nothing_in _ _ y refl m

  module _ (inner : List ℕ) (here : ℕ → Bool) (inside : ℕ → ℕ → Bool) (d : Document) (x : Opened ℕ) where
    abbrev inner_of : Assertion ℕ ℕ → Assertion ℕ ℕ
    inner_of a = map_assertion (λ k. k) (slice_index inner) a

    declared_inner : (a : Assertion ℕ ℕ) (ps : List (Entry ℕ)) → inner_of a ≡ at_keys ps → ps ≡ map (map_entry (slice_index inner)) (declared a)
    declared_inner (at_keys qs) ps e = let p : map (map_entry (slice_index inner)) qs ≡ ps = cc in sym p
    declared_inner _ ps e = cc

    required_inner : (a : Assertion ℕ ℕ) (ks : List (List ℕ)) → inner_of a ≡ has_keys ks → ks ≡ required a
    required_inner (has_keys ls) ks e = let p : ls ≡ ks = cc in sym p
    required_inner _ ks e = cc

    -- the key of a property is one that the rule declares
    pub property_declared : {k : List ℕ} {y q : ℕ} → IsCause here inside d x (numbered inner (rule.Object c)) (property k y q) → Contains (map (map_entry (slice_index inner)) declared_here) (k, q)
    property_declared {k} {y} {q} (of_claim {a = e} m (of_property {ps = ps} o u v w)) =
        let a = contains_map_back inner_of (flat_map option_to_list (claims_of c)) (at_keys ps) m in
        let held : Contains (map (map_entry (slice_index inner)) (declared a.0)) (k, q) = subst (λ zs. Contains zs (k, q)) (declared_inner a.0 ps a.2) u in
        let z = contains_map_back (map_entry (slice_index inner)) (declared a.0) (k, q) held in
        let there = of_claims declared c declared_here only_declared a.0 z.0 a.1 z.1 in
        subst (Contains (map (map_entry (slice_index inner)) declared_here)) z.2 (contains_map (map_entry (slice_index inner)) declared_here z.0 there)

    -- a missing key is one that the rule requires
    pub missing_required : {k : List ℕ} → IsCause here inside d x (numbered inner (rule.Object c)) (missing k) → Contains c.required k
    missing_required {k} (of_claim {a = e} m (of_missing {ks = ks} o u v)) =
        let a = contains_map_back inner_of (flat_map option_to_list (claims_of c)) (has_keys ks) m in
        of_claims required c c.required only_required a.0 k a.1 (subst (λ zs. Contains zs k) (required_inner a.0 ks a.2) u)

-- another key is one of the value
pub additional_there : {A S : Type 0} (here : S → Bool) (inside : A → S → Bool) (d : Document) (x : Opened A) (a : Constraint S S) {k : List ℕ} {y : A} {s : S}
    → IsCause here inside d x a (additional k y s) → (ms : List (Entry A)) × (x ≡ an_object ms) × Contains ms (k, y)
additional_there here inside d x a (of_claim m (of_additional {ms = ms} o u e h)) = (ms, o, u)
