-- Why a value doesn't satisfy a constraint: the parts that it fails, and what it fails by itself (CUE language
-- specification, "Values", "Structs", "Closed structs", "Lists"). As for constraints, D is in place of each rule that is asked
-- of the same value, N in place of each that is asked of a value inside, and A in place of each such value.
use Rattle.std.specs.Prelude.{◌≡◌, ℕ, ◌<◌, ◌≤◌, Bool, true, false, List, [], Some, None, Contains, length, slice_get}
use Rattle.std.specs.List.{list_any}
use Rattle.cs_document.specs.Document.{Entry, under}
use Rattle.cs_document.specs.Opened.{Opened, a_list, an_object}
use Rattle.cs_package.specs.Expression.{Declaration, is_every}
use Rattle.cs_instance.specs.Constraint.{Outline, outline, Rest, nothing, each, Constraint, simple, all_of, any_of, object_of, list_of, may_be_absent, allows}

pub data Cause (A D N : Type 0) : Type 0 where
  -- the rule at a place of those that are asked together, or of the alternatives
  part alternative : ℕ → D → Cause A D N
  -- what the declaration at a place asks of the value under a key
  member : ℕ → List ℕ → A → N → Cause A D N
  -- what is asked of the element at a place
  element : ℕ → A → N → Cause A D N
  -- the value itself isn't what is asked; it has too few elements, or too many; it has no alternative
  unmet few many no_alternative : Cause A D N
  -- the label of the declaration at a place is no key
  missing : ℕ → Cause A D N
  -- no declaration allows the key
  extra : List ℕ → Cause A D N

module _ {A : Type 0} where
  abbrev pub is_map : Opened A → Bool
  is_map (an_object ms) = true
  is_map _ = false

  abbrev pub is_array : Opened A → Bool
  is_array (a_list ys) = true
  is_array _ = false

-- y is the value under a key that a declaration is for: each key, or the one that is its label
abbrev pub IsUnder : {A : Type 0} → Bool → List ℕ → List ℕ → A → List (Entry A) → Type 0
IsUnder true label k y ms = Contains ms (k, y)
IsUnder false label k y ms = (k ≡ label) × (under k ms ≡ Some y)

-- `here r` says whether the value is an instance of r, and `inside y e` whether y, which is directly inside it, is one of e
module _ {A D N : Type 0} (here : D → Bool) (inside : A → N → Bool) where
  -- why a value that doesn't satisfy the constraint doesn't
  pub data IsCause : Constraint D N → Opened A → Cause A D N → Type 0 where
    of_test : {p : Outline → Bool} {x : Opened A} → p (outline x) ≡ false → IsCause (simple p) x unmet
    of_part : {rs : List D} {x : Opened A} {k : ℕ} {r : D} → slice_get rs k ≡ Some r → here r ≡ false → IsCause (all_of rs) x (part k r)
    of_alternative : {rs : List D} {x : Opened A} {k : ℕ} {r : D} → slice_get rs k ≡ Some r → here r ≡ false → IsCause (any_of rs) x (alternative k r)
    of_none : {x : Opened A} → IsCause (any_of []) x no_alternative
    of_kind : {ds : List (Declaration N)} {o : Bool} {x : Opened A} → is_map x ≡ false → IsCause (object_of ds o) x unmet
    of_member : {ds : List (Declaration N)} {o : Bool} {ms : List (Entry A)} {j : ℕ} {d : Declaration N} {k : List ℕ} {y : A}
        → slice_get ds j ≡ Some d → IsUnder (is_every d.mark) d.label k y ms → inside y d.value ≡ false → IsCause (object_of ds o) (an_object ms) (member j k y d.value)
    of_missing : {ds : List (Declaration N)} {o : Bool} {ms : List (Entry A)} {j : ℕ} {d : Declaration N}
        → slice_get ds j ≡ Some d → may_be_absent d.mark ≡ false → under d.label ms ≡ None → IsCause (object_of ds o) (an_object ms) (missing j)
    of_extra : {ds : List (Declaration N)} {ms : List (Entry A)} {k : List ℕ} {y : A}
        → Contains ms (k, y) → list_any (λ d. allows d k) ds ≡ false → IsCause (object_of ds false) (an_object ms) (extra k)
    of_list_kind : {es : List N} {rest : Rest N} {x : Opened A} → is_array x ≡ false → IsCause (list_of es rest) x unmet
    of_front : {es : List N} {rest : Rest N} {ys : List A} {k : ℕ} {e : N} {y : A}
        → slice_get es k ≡ Some e → slice_get ys k ≡ Some y → inside y e ≡ false → IsCause (list_of es rest) (a_list ys) (element k y e)
    of_rest : {es : List N} {ys : List A} {k : ℕ} {e : N} {y : A}
        → length es ≤ k → slice_get ys k ≡ Some y → inside y e ≡ false → IsCause (list_of es (each e)) (a_list ys) (element k y e)
    of_few : {es : List N} {rest : Rest N} {ys : List A} → length ys < length es → IsCause (list_of es rest) (a_list ys) few
    of_many : {es : List N} {ys : List A} → length es < length ys → IsCause (list_of es nothing) (a_list ys) many
