-- Why a document isn't valid by a schema, by the meaning of schemas: a chain from schema to schema, each of which asks the next
-- one, of the same value or of one directly inside it, down to what a value fails by itself (JSON Schema Core 2020-12, sections
-- 4.3.2, 8.2.3.1 and 10; Validation 2020-12, section 6). Each value on the way isn't valid by its schema.
use Rattle.std.specs.Prelude.{◌≡◌, ℕ, Bool, true, false, List, [], ◌∷◌, ◌++◌, Option, Some, None}
use Rattle.std.specs.List.{flat_map}
use Rattle.cs_document.specs.Document.{Document, IsDocument}
use Rattle.cs_document.specs.Opened.{opened}
use Rattle.cs_rules.specs.Pointers.{Step, key, place, At}
use Rattle.cs_profile.specs.Constraint.{constraint_of}
use Rattle.cs_profile.specs.Validity.{is_satisfied, IsValidity}
use Rattle.cs_profile.specs.declared.keyword.Keyword.TheVariants as keyword
use Rattle.cs_validity_reasons.specs.Causes.{Cause, reference, part, alternative, property, additional, prefix, items, never_valid, no_alternative, missing, by_keyword, IsCause}

-- by which keyword a schema asks another one: `$ref`; `allOf` or `anyOf`, at a place; `properties` or `additionalProperties`, of
-- the value under a key; `prefixItems` or `items`, of the element at a place
pub data Way : Type 0 where
  by_reference : Way
  by_part by_alternative : ℕ → Way
  by_property by_additional : List ℕ → Way
  by_prefix by_items : ℕ → Way

abbrev pub way_of : {A S : Type 0} → Cause A S S → List Way
way_of (reference s) = by_reference ∷ []
way_of (part k s) = by_part k ∷ []
way_of (alternative k s) = by_alternative k ∷ []
way_of (property k y s) = by_property k ∷ []
way_of (additional k y s) = by_additional k ∷ []
way_of (prefix k y s) = by_prefix k ∷ []
way_of (items k y s) = by_items k ∷ []
way_of _ = []

-- the value and the schema that a cause of the value x leads to; a cause that leads nowhere is a leaf
abbrev pub led : {A S : Type 0} → A → Cause A S S → Option (A × S)
led x (reference s) = Some (x, s)
led x (part k s) = Some (x, s)
led x (alternative k s) = Some (x, s)
led x (property k y s) = Some (y, s)
led x (additional k y s) = Some (y, s)
led x (prefix k y s) = Some (y, s)
led x (items k y s) = Some (y, s)
led x _ = None

-- the same with f of each value inside, and g of each schema
abbrev pub map_cause : {A B S T : Type 0} → (A → B) → (S → T) → Cause A S S → Cause B T T
map_cause f g (reference s) = reference (g s)
map_cause f g (part k s) = part k (g s)
map_cause f g (alternative k s) = alternative k (g s)
map_cause f g (property k y s) = property k (f y) (g s)
map_cause f g (additional k y s) = additional k (f y) (g s)
map_cause f g (prefix k y s) = prefix k (f y) (g s)
map_cause f g (items k y s) = items k (f y) (g s)
map_cause f g never_valid = never_valid
map_cause f g no_alternative = no_alternative
map_cause f g (missing k) = missing k
map_cause f g (by_keyword w) = by_keyword w

-- the steps of a JSON pointer on a way (RFC 6901): none where the value stays the same
abbrev pub step_of : Way → List Step
step_of (by_property k) = key k ∷ []
step_of (by_additional k) = key k ∷ []
step_of (by_prefix k) = place k ∷ []
step_of (by_items k) = place k ∷ []
step_of _ = []

abbrev pub steps_of : List Way → List Step
steps_of ways = flat_map step_of ways

-- one of the schemas of `anyOf`
abbrev pub is_by_alternative : Way → Bool
is_by_alternative (by_alternative k) = true
is_by_alternative _ = false

-- R is the schema document, and V s x says whether the schema s validates the document x
module _ (R : Document) (V : Document → Document → Bool) where
  -- why s doesn't validate x
  abbrev pub IsWhyNot : Document → Document → Cause Document Document Document → Type 0
  IsWhyNot s x c = IsCause (λ p. V p x) (λ y p. V p y) x (opened x) (constraint_of R s) c

  module _ (s0 x0 : Document) where
    -- these ways lead from the schema s0, which doesn't validate x0, to the schema s and the value x
    pub data IsRefused : List Way → Document → Document → Type 0 where
      whole : V s0 x0 ≡ false → IsRefused [] s0 x0
      next : {ways : List Way} {s x p y : Document} {c : Cause Document Document Document}
          → IsRefused ways s x → IsWhyNot s x c → led x c ≡ Some (y, p) → IsRefused (ways ++ way_of c) p y

    -- these ways lead to the schema s and the value x, which fails it by itself, by c
    pub record IsWhy (ways : List Way) (s x : Document) (c : Cause Document Document Document) : Type 0 where
      pub refused : IsRefused ways s x
      pub cause : IsWhyNot s x c
      pub leaf : led x c ≡ None

    -- what is told of them: why x fails s by itself; or, where the schemas of `anyOf` are not told of one by one, that none of
    -- them validates x
    pub data IsTold (one_by_one : Bool) (ways : List Way) (s x : Document) : Cause Document Document Document → Type 0 where
      itself : {c : Cause Document Document Document} → IsWhy ways s x c → IsTold one_by_one ways s x c
      none : {k : ℕ} {p : Document} → one_by_one ≡ false → IsRefused ways s x → IsWhyNot s x (alternative k p) → IsTold one_by_one ways s x no_alternative

-- what a reason says: the document x0 isn't valid by s0, and the steps of the ways lead to a value of it, which isn't valid by s,
-- whatever other schemas are said to validate, unless it is by `not`
pub record FailsAt (R : Document) (V : Document → Document → Bool) (s0 x0 : Document) (ways : List Way) (s x : Document) (c : Cause Document Document Document) : Type 0 where
  pub whole : V s0 x0 ≡ false
  pub there : At (steps_of ways) x0 x
  pub refused : V s x ≡ false
  pub alone : ¬ (c ≡ by_keyword keyword.Not) → (W : Document → Document → Bool) → is_satisfied (λ p. W p x) (λ y p. W p y) (constraint_of R s) x (opened x) ≡ false

-- each reason says this, by the validity of the schemas of R
pub record ReasonsHold (R : Document) : Type 0 where
  pub told : (V : Document → Document → Bool) → IsValidity R V → (s0 x0 : Document) → IsDocument x0 → (ways : List Way) (s x : Document) (c : Cause Document Document Document)
      → IsWhy R V s0 x0 ways s x c → FailsAt R V s0 x0 ways s x c
