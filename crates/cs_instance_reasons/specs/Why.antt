-- Why a document is no instance of a rule: chains of causes, from the rule on down to what a value isn't by itself.
use Rattle.std.specs.Prelude.{◌≡◌, ℕ, Bool, true, false, List, [], ◌∷◌, ◌++◌, Option, Some, None, flat_map}
use Rattle.cs_document.specs.Document.{Document, IsDocument}
use Rattle.cs_document.specs.Opened.{opened}
use Rattle.cs_rules.specs.Pointers.{Step, key, place, At}
use Rattle.cs_package.specs.Environment.{Environment}
use Rattle.cs_instance_reasons.specs.Causes.{Cause, part, alternative, member, element, unmet, few, many, no_alternative, missing, extra, IsCause}
use Rattle.cs_instance.specs.Constraint.{Constraint, is_satisfied}
use Rattle.cs_instance.specs.Instance.{Rule, node, constraint_of, IsInstance}
use Rattle.cs_instance.specs.Numbering.{map_constraint}

-- what a rule asks, by rules alone
abbrev pub asked_by : Environment → Rule → Constraint Rule Rule
asked_by E r = map_constraint (λ part. part) node (constraint_of E r)

-- ---- ways

-- from a rule and a value on: to the rule at a place, of those asked together or of the alternatives; to the value of the
-- declaration at a place and the value under a key; to the element at a place and what is asked of it
pub data Way : Type 0 where
  to_part to_alternative : ℕ → Way
  to_member : ℕ → List ℕ → Way
  to_element : ℕ → Way

-- the way that a cause leads; a leaf leads none
abbrev pub way_of : {A D N : Type 0} → Cause A D N → Option Way
way_of (part k r) = Some (to_part k)
way_of (alternative k r) = Some (to_alternative k)
way_of (member j k y e) = Some (to_member j k)
way_of (element k y e) = Some (to_element k)
way_of c = None

-- whether a way goes into one of the alternatives
abbrev pub is_to_alternative : Way → Bool
is_to_alternative (to_alternative k) = true
is_to_alternative _ = false

-- where a cause leads from the value x: to a rule, and x or a value inside it
abbrev pub end_of : {A D : Type 0} → A → Cause A D D → Option (D × A)
end_of x (part k r) = Some (r, x)
end_of x (alternative k r) = Some (r, x)
end_of x (member j k y r) = Some (r, y)
end_of x (element k y r) = Some (r, y)
end_of x c = None

-- the steps of a pointer along the way: one where it leads to a value inside
abbrev pub steps_along : Way → List Step
steps_along (to_part k) = []
steps_along (to_alternative k) = []
steps_along (to_member j k) = key k ∷ []
steps_along (to_element k) = place k ∷ []

abbrev pub steps_of : List Way → List Step
steps_of w = flat_map steps_along w

-- ---- chains

module _ (E : Environment) (I : Rule → Document → Bool) where
  -- why x is no instance of r
  abbrev pub IsCauseOf : Rule → Document → Cause Document Rule Rule → Type 0
  IsCauseOf r x c = IsCause (λ s. I s x) (λ y s. I s y) (asked_by E r) (opened x) c

  -- the value x0 is no instance of r0, and these ways lead from there to a rule and a value, each the way of a cause
  pub data IsRefused (r0 : Rule) (x0 : Document) : List Way → Rule → Document → Type 0 where
    whole : I r0 x0 ≡ false → IsRefused r0 x0 [] r0 x0
    next : {w : List Way} {r s : Rule} {x y : Document} {c : Cause Document Rule Rule} {v : Way}
        → IsRefused r0 x0 w r x → IsCauseOf r x c → way_of c ≡ Some v → end_of x c ≡ Some (s, y) → IsRefused r0 x0 (w ++ v ∷ []) s y

  -- these ways lead to a rule and a value, and the leaf c is why this value is no instance of that rule
  pub record IsWhy (r0 : Rule) (x0 : Document) (w : List Way) (r : Rule) (x : Document) (c : Cause Document Rule Rule) : Type 0 where
    pub refused : IsRefused r0 x0 w r x
    pub cause : IsCauseOf r x c
    pub leaf : way_of c ≡ None

-- what a reason says: the document x0 is no instance of r0, and the steps of the ways lead to a value of it, which is no
-- instance of r, whatever is true of the parts of r
pub record FailsAt (E : Environment) (I : Rule → Document → Bool) (r0 : Rule) (x0 : Document) (w : List Way) (r : Rule) (x : Document) : Type 0 where
  pub whole : I r0 x0 ≡ false
  pub there : At (steps_of w) x0 x
  pub refused : I r x ≡ false
  pub alone : (here : Rule → Bool) (inside : Document → Rule → Bool) → is_satisfied here inside (asked_by E r) (opened x) ≡ false

-- each reason says this, and each value that is no instance of a rule has a cause
pub record ReasonsHold (E : Environment) : Type 0 where
  pub told : (I : Rule → Document → Bool) → IsInstance E I → (r0 : Rule) (x0 : Document) → IsDocument x0 → (w : List Way) (r : Rule) (x : Document) (c : Cause Document Rule Rule) → IsWhy E I r0 x0 w r x c → FailsAt E I r0 x0 w r x
  pub caused : (I : Rule → Document → Bool) → IsInstance E I → (r : Rule) (x : Document) → I r x ≡ false → (c : Cause Document Rule Rule) × IsCauseOf E I r x c

-- ---- causes named in another way

-- the same with h of each value, f of each rule that is asked of the same value, and g of what is asked of a value inside
abbrev pub map_cause : {A B C D M N : Type 0} → (A → B) → (C → D) → (M → N) → Cause A C M → Cause B D N
map_cause h f g (part k r) = part k (f r)
map_cause h f g (alternative k r) = alternative k (f r)
map_cause h f g (member j k y e) = member j k (h y) (g e)
map_cause h f g (element k y e) = element k (h y) (g e)
map_cause h f g unmet = unmet
map_cause h f g few = few
map_cause h f g many = many
map_cause h f g no_alternative = no_alternative
map_cause h f g (missing j) = missing j
map_cause h f g (extra k) = extra k
