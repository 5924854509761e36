-- The causes of a refused pair as a list, in the order in which they are told.
use Rattle.std.specs.Prelude.{ℕ, suc, Bool, true, false, not, ◌||◌, List, [], ◌∷◌, ◌++◌, Option, Some, None, is_some, length, slice_get, nat_lt, if◌then◌else◌}
use Rattle.std.specs.List.{list_any}
use Rattle.std.specs.Str.{bytes_eq}
use Rattle.cs_document.specs.Document.{Entry, under}
use Rattle.cs_document.specs.Opened.{Opened, a_list, an_object}
use Rattle.cs_package.specs.Expression.{Declaration, is_every}
use Rattle.cs_instance.specs.Constraint.{Rest, nothing, anything, each, Constraint, simple, all_of, any_of, object_of, list_of, may_be_absent, allows}
use Rattle.cs_instance_reasons.specs.declared.cause.InstanceCause.{InstanceCause}
use Rattle.cs_instance_reasons.specs.declared.cause.InstanceCause.TheVariants.{Part, Alternative, Member, Element, Unmet, Missing, Extra, Few, Many, NoAlternative}

-- what is told of each element, the first of which is at place k
abbrev pub told_from : {X : Type 0} → (ℕ → X → List InstanceCause) → ℕ → List X → List InstanceCause
told_from tell k [] = []
told_from tell k (x ∷ xs) = tell k x ++ told_from tell (suc k) xs

-- a cause, where it isn't so
abbrev pub unless : Bool → InstanceCause → List InstanceCause
unless true c = []
unless false c = c ∷ []

abbrev pub is_closed : Rest ℕ → Bool
is_closed nothing = true
is_closed anything = false
is_closed (each e) = false

-- what is asked behind the fixed elements, and at a place
abbrev pub asked_behind : Rest ℕ → Option ℕ
asked_behind nothing = None
asked_behind anything = None
asked_behind (each e) = Some e

abbrev pub or_behind : Option ℕ → Rest ℕ → Option ℕ
or_behind (Some e) rest = Some e
or_behind None rest = asked_behind rest

abbrev pub asked_at : List ℕ → Rest ℕ → ℕ → Option ℕ
asked_at es rest k = or_behind (slice_get es k) rest

module _ (here : ℕ → Bool) (inside : ℕ → ℕ → Bool) (i r : ℕ) where
  abbrev pub part_causes : List ℕ → List InstanceCause
  part_causes rs = told_from (λ k q. unless (here q) (Part i q k)) 0 rs

  abbrev pub refused_alternatives : List ℕ → List InstanceCause
  refused_alternatives rs = told_from (λ k q. unless (here q) (Alternative i q k)) 0 rs

  abbrev pub alternative_causes : List ℕ → List InstanceCause
  alternative_causes [] = NoAlternative ∷ []
  alternative_causes (q ∷ rs) = refused_alternatives (q ∷ rs)

  -- of the members whose value q refuses
  abbrev pub value_causes : ℕ → ℕ → List (Entry ℕ) → List InstanceCause
  value_causes j q ms = told_from (λ m e. unless (inside e.1 q) (Member j m e.1 q)) 0 ms

  -- of the member that has the label, if there is one
  abbrev pub label_causes : ℕ → Declaration ℕ → List (Entry ℕ) → List InstanceCause
  label_causes j d ms = told_from (λ m e. unless (not (bytes_eq d.label e.0) || inside e.1 d.value) (Member j m e.1 d.value)) 0 ms

  abbrev pub missing_causes : ℕ → Declaration ℕ → List (Entry ℕ) → List InstanceCause
  missing_causes j d ms = unless (may_be_absent d.mark || is_some (under d.label ms)) (Missing j r)

  abbrev pub declaration_cause : List (Entry ℕ) → ℕ → Declaration ℕ → List InstanceCause
  declaration_cause ms j d = if is_every d.mark then value_causes j d.value ms else label_causes j d ms ++ missing_causes j d ms

  abbrev pub declaration_causes : List (Entry ℕ) → List (Declaration ℕ) → List InstanceCause
  declaration_causes ms ds = told_from (declaration_cause ms) 0 ds

  -- of the keys that no declaration allows
  abbrev pub key_causes : List (Declaration ℕ) → List (Entry ℕ) → List InstanceCause
  key_causes ds ms = told_from (λ m e. unless (list_any (λ d. allows d e.0) ds) (Extra m i)) 0 ms

  abbrev pub extra_causes : List (Declaration ℕ) → Bool → List (Entry ℕ) → List InstanceCause
  extra_causes ds true ms = []
  extra_causes ds false ms = key_causes ds ms

  abbrev pub element_cause : ℕ → ℕ → Option ℕ → List InstanceCause
  element_cause k y None = []
  element_cause k y (Some e) = unless (inside y e) (Element k y e)

  abbrev pub element_causes : List ℕ → Rest ℕ → List ℕ → List InstanceCause
  element_causes es rest ys = told_from (λ k y. element_cause k y (asked_at es rest k)) 0 ys

  abbrev pub length_causes : List ℕ → Rest ℕ → List ℕ → List InstanceCause
  length_causes es rest ys = unless (not (nat_lt (length ys) (length es))) Few ++ unless (not (is_closed rest) || not (nat_lt (length es) (length ys))) Many

  abbrev pub map_causes : List (Declaration ℕ) → Bool → Opened ℕ → List InstanceCause
  map_causes ds opened (an_object ms) = declaration_causes ms ds ++ extra_causes ds opened ms
  map_causes ds opened _ = Unmet ∷ []

  abbrev pub list_causes : List ℕ → Rest ℕ → Opened ℕ → List InstanceCause
  list_causes es rest (a_list ys) = element_causes es rest ys ++ length_causes es rest ys
  list_causes es rest _ = Unmet ∷ []

  -- of an item i, opened, that doesn't satisfy what the rule r asks
  abbrev pub causes_of : Constraint ℕ ℕ → Opened ℕ → List InstanceCause
  causes_of (simple p) x = Unmet ∷ []
  causes_of (all_of rs) x = part_causes rs
  causes_of (any_of rs) x = alternative_causes rs
  causes_of (object_of ds opened) x = map_causes ds opened x
  causes_of (list_of es rest) x = list_causes es rest x
