-- What each cause tells of the value by itself: a leaf refuses it, and what another leads to is refused.
use Rattle.std.proofs.Common.{◌≡◌, ℕ, zero, suc, ◌<◌, ◌≤◌, Bool, true, false, List, [], ◌∷◌, length, if◌then◌else◌, Contains, Some, None, refl, sym, ap, ap₂, ◌∙◌, arith, slice_get}
use Rattle.std.specs.List.{list_all, list_any}
use Rattle.std.proofs.lemmas.Bool.{and_left, and_right}
use Rattle.std.proofs.lemmas.Option.{same_Some, slice_get-get_or}
use Rattle.cs_document.specs.Document.{Entry, under}
use Rattle.cs_document.specs.Opened.{Opened, a_null, a_boolean, an_integer, a_text, a_list, an_object}
use Rattle.cs_document.specs.Inside.{KeysAscend, AscendsInside}
use Rattle.cs_rules.specs.Pointers.{LeadsTo, key, place}
use Rattle.cs_package.specs.Expression.{Declaration, DeclarationMark, regular, optional, required, every, is_every}
use Rattle.cs_instance_reasons.specs.Causes.{Cause, part, alternative, member, element, is_map, is_array, IsUnder, IsCause, of_test, of_part, of_alternative, of_none, of_kind, of_member, of_missing, of_extra, of_list_kind, of_front, of_rest, of_few, of_many}
use Rattle.cs_instance.specs.Constraint.{Rest, nothing, each, Constraint, is_satisfied, may_be_absent, allows, value_holds, declaration_holds, elements_hold, is_object, is_list}
use Rattle.cs_instance_reasons.specs.Why.{way_of}
use Rattle.cs_instance.proofs.Members.{under_at}

all_but : {X : Type 0} (p : X → Bool) (xs : List X) (k : ℕ) (x : X) → slice_get xs k ≡ Some x → p x ≡ false → list_all p xs ≡ false
all_but p [] k x e f = cc
all_but p (y ∷ xs) zero x e f = and_left (p y) (list_all p xs) (ap p (same_Some y x e) ∙ f)
all_but p (y ∷ xs) (suc k) x e f = and_right (p y) (list_all p xs) (all_but p xs k x e f)

pub place_of : {X : Type 0} (xs : List X) (x : X) → Contains xs x → (k : ℕ) × (slice_get xs k ≡ Some x)
place_of xs x h = (h.0, slice_get-get_or xs h.0 x h.1 ∙ ap Some h.2)

-- ---- leaves

module _ {A N : Type 0} (inside : A → N → Bool) where
  no_object : (ds : List (Declaration N)) (o : Bool) (x : Opened A) → is_map x ≡ false → is_object inside ds o x ≡ false
  no_object ds o a_null e = refl
  no_object ds o (a_boolean b) e = refl
  no_object ds o (an_integer z) e = refl
  no_object ds o (a_text s) e = refl
  no_object ds o (a_list ys) e = refl
  no_object ds o (an_object ms) e = cc

  no_list : (es : List N) (rest : Rest N) (x : Opened A) → is_array x ≡ false → is_list inside es rest x ≡ false
  no_list es rest a_null e = refl
  no_list es rest (a_boolean b) e = refl
  no_list es rest (an_integer z) e = refl
  no_list es rest (a_text s) e = refl
  no_list es rest (a_list ys) e = cc
  no_list es rest (an_object ms) e = refl

  -- only a label's own declaration asks for it
  for_one : (m : DeclarationMark) → may_be_absent m ≡ false → is_every m ≡ false
  for_one regular e = refl
  for_one optional e = refl
  for_one required e = refl
  for_one every e = cc

  label_missing : (d : Declaration N) (ms : List (Entry A)) → may_be_absent d.mark ≡ false → under d.label ms ≡ None → declaration_holds inside d ms ≡ false
  label_missing d ms e none = rw (for_one d.mark e) (ap (value_holds inside d) none ∙ e)

  too_few : (es : List N) (rest : Rest N) (ys : List A) → length ys < length es → elements_hold inside es rest ys ≡ false
  too_few [] rest ys l = absurd (omega (arith, l))
  too_few (e ∷ es) rest [] l = refl
  too_few (e ∷ es) rest (y ∷ ys) l = and_right (inside y e) (elements_hold inside es rest ys) (too_few es rest ys (omega (arith, l)))

  too_many : (es : List N) (ys : List A) → length es < length ys → elements_hold inside es nothing ys ≡ false
  too_many [] [] l = absurd (omega (arith, l))
  too_many [] (y ∷ ys) l = refl
  too_many (e ∷ es) [] l = refl
  too_many (e ∷ es) (y ∷ ys) l = and_right (inside y e) (elements_hold inside es nothing ys) (too_many es ys (omega (arith, l)))

-- where there is a leaf, the constraint isn't satisfied, whatever is true of the parts
pub refuses_alone : {A D N : Type 0} {here : D → Bool} {inside : A → N → Bool} {a : Constraint D N} {x : Opened A} {c : Cause A D N}
    → IsCause here inside a x c → way_of c ≡ None → (here' : D → Bool) (inside' : A → N → Bool) → is_satisfied here' inside' a x ≡ false
refuses_alone (of_test e) leaf here' inside' = e
refuses_alone (of_part e f) leaf here' inside' = cc
refuses_alone (of_alternative e f) leaf here' inside' = cc
refuses_alone of_none leaf here' inside' = refl
refuses_alone (of_kind {ds = ds} {o = o} {x = x} e) leaf here' inside' = no_object inside' ds o x e
refuses_alone (of_member e u f) leaf here' inside' = cc
refuses_alone (of_missing {ds = ds} {o = o} {ms = ms} {j = j} {d = d} e m none) leaf here' inside' =
    and_left (list_all (λ d. declaration_holds inside' d ms) ds) _ (all_but (λ d. declaration_holds inside' d ms) ds j d e (label_missing inside' d ms m none))
refuses_alone (of_extra {ds = ds} {ms = ms} {k = k} {y = y} h f) leaf here' inside' =
    let at = place_of ms (k, y) h in
    and_right (list_all (λ d. declaration_holds inside' d ms) ds) _ (all_but (λ m. list_any (λ d. allows d m.0) ds) ms at.0 (k, y) at.1 f)
refuses_alone (of_list_kind {es = es} {rest = rest} {x = x} e) leaf here' inside' = no_list inside' es rest x e
refuses_alone (of_front e g f) leaf here' inside' = cc
refuses_alone (of_rest l g f) leaf here' inside' = cc
refuses_alone (of_few {es = es} {rest = rest} {ys = ys} l) leaf here' inside' = too_few inside' es rest ys l
refuses_alone (of_many {es = es} {ys = ys} l) leaf here' inside' = too_many inside' es ys l

-- ---- what leads on

module _ {A D N : Type 0} (here : D → Bool) (inside : A → N → Bool) where
  -- what the cause leads to is refused
  abbrev pub Refuses : Cause A D N → Type 0
  Refuses (part k r) = here r ≡ false
  Refuses (alternative k r) = here r ≡ false
  Refuses (member j k y e) = inside y e ≡ false
  Refuses (element k y e) = inside y e ≡ false
  Refuses c = Unit {0}

  pub refuses : {a : Constraint D N} {x : Opened A} {c : Cause A D N} → IsCause here inside a x c → Refuses c
  refuses (of_test e) = tt
  refuses (of_part e f) = f
  refuses (of_alternative e f) = f
  refuses of_none = tt
  refuses (of_kind e) = tt
  refuses (of_member e u f) = f
  refuses (of_missing e m none) = tt
  refuses (of_extra h f) = tt
  refuses (of_list_kind e) = tt
  refuses (of_front e g f) = f
  refuses (of_rest l g f) = f
  refuses (of_few l) = tt
  refuses (of_many l) = tt

-- ---- each cause but an alternative

abbrev pub is_choice : {A D N : Type 0} → Cause A D N → Bool
is_choice (alternative k r) = true
is_choice c = false

module _ {A N : Type 0} (inside : A → N → Bool) where
  front_fails : (es : List N) (rest : Rest N) (ys : List A) (k : ℕ) (e : N) (y : A) → slice_get es k ≡ Some e → slice_get ys k ≡ Some y → inside y e ≡ false → elements_hold inside es rest ys ≡ false
  front_fails [] rest ys k e y at of f = cc
  front_fails (b ∷ es) rest [] k e y at of f = refl
  front_fails (b ∷ es) rest (z ∷ ys) zero e y at of f = and_left (inside z b) (elements_hold inside es rest ys) (ap₂ inside (same_Some z y of) (same_Some b e at) ∙ f)
  front_fails (b ∷ es) rest (z ∷ ys) (suc k) e y at of f = and_right (inside z b) (elements_hold inside es rest ys) (front_fails es rest ys k e y at of f)

  rest_fails : (es : List N) (e : N) (ys : List A) (k : ℕ) (y : A) → length es ≤ k → slice_get ys k ≡ Some y → inside y e ≡ false → elements_hold inside es (each e) ys ≡ false
  rest_fails [] e ys k y l of f = all_but (λ z. inside z e) ys k y of f
  rest_fails (b ∷ es) e [] k y l of f = refl
  rest_fails (b ∷ es) e (z ∷ ys) zero y l of f = absurd (omega (arith, l))
  rest_fails (b ∷ es) e (z ∷ ys) (suc k) y l of f = and_right (inside z b) (elements_hold inside es (each e) ys) (rest_fails es e ys k y (omega (arith, l)) of f)

  member_fails : (b : Bool) (d : Declaration N) (ms : List (Entry A)) (k : List ℕ) (y : A) → IsUnder b d.label k y ms → inside y d.value ≡ false
      → (if b then list_all (λ (m : Entry A). inside m.1 d.value) ms else value_holds inside d (under d.label ms)) ≡ false
  member_fails true d ms k y u f = let at = place_of ms (k, y) u in all_but (λ (m : Entry A). inside m.1 d.value) ms at.0 (k, y) at.1 f
  member_fails false d ms k y u f = ap (value_holds inside d) (ap (λ l. under l ms) (sym u.0) ∙ u.1) ∙ f

-- where what the cause leads to is refused, the constraint isn't satisfied, whatever is true of the other parts
pub suffices : {A D N : Type 0} {here : D → Bool} {inside : A → N → Bool} {a : Constraint D N} {x : Opened A} {c : Cause A D N}
    → IsCause here inside a x c → is_choice c ≡ false → (here' : D → Bool) (inside' : A → N → Bool) → Refuses here' inside' c → is_satisfied here' inside' a x ≡ false
suffices (of_test e) one here' inside' f = e
suffices (of_part {rs = rs} {k = k} {r = r} e g) one here' inside' f = all_but here' rs k r e f
suffices (of_alternative e g) one here' inside' f = cc
suffices of_none one here' inside' f = refl
suffices (of_kind e) one here' inside' f = refuses_alone {here = here'} {inside = inside'} (of_kind e) refl here' inside'
suffices (of_member {ds = ds} {o = o} {ms = ms} {j = j} {d = d} {k = k} {y = y} e u g) one here' inside' f =
    and_left (list_all (λ d. declaration_holds inside' d ms) ds) _ (all_but (λ d. declaration_holds inside' d ms) ds j d e (member_fails inside' (is_every d.mark) d ms k y u f))
suffices (of_missing e m none) one here' inside' f = refuses_alone {here = here'} {inside = inside'} (of_missing e m none) refl here' inside'
suffices (of_extra h g) one here' inside' f = refuses_alone {here = here'} {inside = inside'} (of_extra h g) refl here' inside'
suffices (of_list_kind e) one here' inside' f = refuses_alone {here = here'} {inside = inside'} (of_list_kind e) refl here' inside'
suffices (of_front {es = es} {rest = rest} {ys = ys} {k = k} {e = e} {y = y} at of g) one here' inside' f = front_fails inside' es rest ys k e y at of f
suffices (of_rest {es = es} {ys = ys} {k = k} {e = e} {y = y} l of g) one here' inside' f = rest_fails inside' es e ys k y l of f
suffices (of_few l) one here' inside' f = refuses_alone {here = here'} {inside = inside'} (of_few l) refl here' inside'
suffices (of_many l) one here' inside' f = refuses_alone {here = here'} {inside = inside'} (of_many l) refl here' inside'

-- ---- where it leads

-- the value that the cause leads to is inside x, where the way says
abbrev pub Points : {A D N : Type 0} → Opened A → Cause A D N → Type 0
Points x (member j k y e) = LeadsTo (key k) x y
Points x (element k y e) = LeadsTo (place k) x y
Points x c = Unit {0}

under_is : {A : Type 0} (b : Bool) (l k : List ℕ) (y : A) (ms : List (Entry A)) → KeysAscend ms → IsUnder b l k y ms → under k ms ≡ Some y
under_is true l k y ms h u = let at = place_of ms (k, y) u in under_at ms at.0 k y h at.1
under_is false l k y ms h u = u.1

pub points : {A D N : Type 0} {here : D → Bool} {inside : A → N → Bool} {a : Constraint D N} {x : Opened A} {c : Cause A D N} → AscendsInside x → IsCause here inside a x c → Points x c
points up (of_test e) = tt
points up (of_part e f) = tt
points up (of_alternative e f) = tt
points up of_none = tt
points up (of_kind e) = tt
points up (of_member {ms = ms} {d = d} {k = k} {y = y} e u f) = under_is (is_every d.mark) d.label k y ms up u
points up (of_missing e m none) = tt
points up (of_extra h f) = tt
points up (of_list_kind e) = tt
points up (of_front e g f) = g
points up (of_rest l g f) = g
points up (of_few l) = tt
points up (of_many l) = tt
