-- The causes that are told of a refused item are all there are, each once.
use Rattle.std.proofs.Common.{◌≡◌, ℕ, zero, suc, ◌+◌, ◌<◌, ◌≤◌, Bool, true, false, not, ◌&&◌, ◌||◌, List, [], ◌∷◌, ◌++◌, length, Contains, Option, Some, None, is_some, if◌then◌else◌, refl, sym, ap, ◌∙◌, subst, slice_get, inl, inr, ◌⊎◌, arith, nat_lt, slice_index, Result, Ok, Err, OnOk}
use Rattle.std.specs.List.{list_all, list_any}
use Rattle.std.specs.Str.{bytes_eq}
use Rattle.std.proofs.lemmas.Bool.{ltb-true, lt-ltb}
use Rattle.std.proofs.lemmas.List.Elements.{Contains-append_left, Contains-append_right, Contains-append_cases}
use Rattle.std.proofs.lemmas.Option.{same_Some, slice_get-get_or, slice_get_within, slice_get_past, get_or_from_slice_get}
use Rattle.std.proofs.lemmas.Slice.Eq.{bytes_eq-Decides}
use Rattle.cs_document.specs.Document.{Entry, under}
use Rattle.cs_document.specs.Inside.{AscendsInside, KeysAscend}
use Rattle.cs_document.specs.Opened.{Opened, a_null, a_boolean, an_integer, a_text, a_list, an_object}
use Rattle.cs_reasons.specs.Reasons.{AreCauses}
use Rattle.cs_package.specs.Expression.{Declaration, DeclarationMark, regular, optional, required, every, is_every}
use Rattle.cs_instance_reasons.specs.CauseLists.{map_causes, list_causes, alternative_causes, told_from, unless, is_closed, asked_at, or_behind, value_causes, label_causes, missing_causes, declaration_cause, extra_causes, element_cause, causes_of}
use Rattle.cs_instance_reasons.specs.Causes.{is_map, is_array, Cause, IsUnder, IsCause, of_test, of_part, of_alternative, of_none, of_kind, of_member, of_missing, of_extra, of_list_kind, of_front, of_rest, of_few, of_many}
use Rattle.cs_instance.specs.Constraint.{Rest, nothing, anything, each, Constraint, simple, all_of, any_of, object_of, list_of, is_satisfied, may_be_absent, allows, value_holds, declaration_holds, fields_hold, elements_hold}
use Rattle.cs_instance_reasons.specs.SeenCauses.{IsSeenAs, a_part, an_alternative, a_member, an_element, an_unmet, too_few, too_many, none, a_missing, an_extra, IsCauseOf}
use Rattle.cs_instance_reasons.specs.declared.cause.InstanceCause.{InstanceCause}
use Rattle.cs_instance_reasons.specs.declared.cause.InstanceCause.TheVariants.{Part, Alternative, Member, Element, Unmet, Missing, Extra, Few, Many, NoAlternative}
use Rattle.std.proofs.Math.Logic.{∥∥₁_elim}
use mathlib.Core.Bool.{Bool-set}
use Rattle.cs_flat.specs.Listed.{values}
use Rattle.cs_table.specs.Judged.{AllVerdicts, IsJudged}
use Rattle.cs_rules.specs.Answers.{answer}
use Rattle.cs_rules.proofs.Judged.{answer_is}
use Rattle.cs_instance_reasons.specs.SeenCauses.{IsCauseAt}
use Rattle.cs_instance.specs.Steps.{asked_of, numbered, step}
use Rattle.cs_instance.specs.declared.rules.Rule.{Rule as Coded}
use Rattle.cs_instance_reasons.proofs.Labelled.{under_at}
use Rattle.cs_instance.proofs.Satisfied.{named}

-- ---- lists

nothing_there : {X : Type 0} (x : X) → Contains [] x → ⊥
nothing_there x h = let l = h.1 in absurd (omega (arith, l))

pub there : {X : Type 0} (xs : List X) (k : ℕ) (x : X) → slice_get xs k ≡ Some x → Contains xs x
there xs k x e = (k, slice_get_within xs k x e, get_or_from_slice_get xs k x x e)

place_of : {X : Type 0} (xs : List X) (x : X) → Contains xs x → (k : ℕ) × (slice_get xs k ≡ Some x)
place_of xs x h = (h.0, slice_get-get_or xs h.0 x h.1 ∙ ap Some h.2)

only_one : {X : Type 0} (y x : X) → Contains (y ∷ []) x → x ≡ y
only_one y x h = let at = place_of (y ∷ []) x h in by at.0 at.1
  where
    by : (k : ℕ) → slice_get (y ∷ []) k ≡ Some x → x ≡ y
    by zero e = sym (same_Some y x e)
    by (suc k) e = cc

head_there : {X : Type 0} (x : X) (xs : List X) → Contains (x ∷ xs) x
head_there x xs = there (x ∷ xs) 0 x refl

past_end : {X : Type 0} (xs : List X) (k : ℕ) → slice_get xs k ≡ None → length xs ≤ k
past_end [] k e = omega arith
past_end (x ∷ xs) zero e = cc
past_end (x ∷ xs) (suc k) e = let l = past_end xs k e in omega (arith, l)

all_false : {X : Type 0} (p : X → Bool) (xs : List X) → list_all p xs ≡ false → (k : ℕ) × (x : X) × (slice_get xs k ≡ Some x) × (p x ≡ false)
all_false p [] h = cc
all_false {X} p (x ∷ xs) h = by (p x) refl h (all_false p xs)
  where
    by : (b : Bool) → p x ≡ b → (b && list_all p xs) ≡ false → (list_all p xs ≡ false → (k : ℕ) × (y : X) × (slice_get xs k ≡ Some y) × (p y ≡ false)) → (k : ℕ) × (y : X) × (slice_get (x ∷ xs) k ≡ Some y) × (p y ≡ false)
    by true e h rest = let at = rest h in (suc at.0, at.1, at.2, at.3)
    by false e h rest = (0, x, refl, e)

-- ---- what is told

abbrev Causes : Type 0
Causes = List InstanceCause

unless_has : (b : Bool) (d c : InstanceCause) → Contains (unless b d) c → (b ≡ false) × (c ≡ d)
unless_has true d c h = absurd (nothing_there c h)
unless_has false d c h = (refl, only_one d c h)

has_unless : (b : Bool) (c : InstanceCause) → b ≡ false → Contains (unless b c) c
has_unless true c e = cc
has_unless false c e = head_there c []

module _ {X : Type 0} (tell : ℕ → X → Causes) (c : InstanceCause) where
  told_has : (k : ℕ) (xs : List X) → Contains (told_from tell k xs) c → (n : ℕ) × (x : X) × (slice_get xs n ≡ Some x) × Contains (tell (k + n) x) c
  told_has k [] h = absurd (nothing_there c h)
  told_has k (x ∷ xs) h =
      elim (Contains-append_cases (tell k x) (told_from tell (suc k) xs) c h) [
        | inl a ↦ (0, x, refl, (let e : k ≡ k + 0 = omega arith in subst (λ n. Contains (tell n x) c) e a))
        | inr b ↦ (let at = told_has (suc k) xs b in let e : suc k + at.0 ≡ k + suc at.0 = omega arith in (suc at.0, at.1, at.2, subst (λ n. Contains (tell n at.1) c) e at.3))
      ]

  has_told : (k : ℕ) (xs : List X) (n : ℕ) (x : X) → slice_get xs n ≡ Some x → Contains (tell (k + n) x) c → Contains (told_from tell k xs) c
  has_told k [] n x e h = cc
  has_told k (y ∷ xs) zero x e h =
      let z : k + 0 ≡ k = omega arith in
      Contains-append_left (tell k y) (told_from tell (suc k) xs) c (subst (λ o. Contains (tell k o) c) (sym (same_Some y x e)) (subst (λ n. Contains (tell n x) c) z h))
  has_told k (y ∷ xs) (suc n) x e h =
      let z : k + suc n ≡ suc k + n = omega arith in
      Contains-append_right (tell k y) (told_from tell (suc k) xs) c (has_told (suc k) xs n x e (subst (λ n. Contains (tell n x) c) z h))

  told_at : (xs : List X) → Contains (told_from tell 0 xs) c → (n : ℕ) × (x : X) × (slice_get xs n ≡ Some x) × Contains (tell n x) c
  told_at xs h = let at = told_has 0 xs h in let e : 0 + at.0 ≡ at.0 = omega arith in (at.0, at.1, at.2, subst (λ n. Contains (tell n at.1) c) e at.3)

  at_told : (xs : List X) (n : ℕ) (x : X) → slice_get xs n ≡ Some x → Contains (tell n x) c → Contains (told_from tell 0 xs) c
  at_told xs n x e h = let z : n ≡ 0 + n = omega arith in has_told 0 xs n x e (subst (λ n. Contains (tell n x) c) z h)

-- ---- each once

abbrev Apart : Causes → Type 0
Apart [] = Unit {0}
Apart (c ∷ cs) = (Contains cs c → ⊥) × Apart cs

once : (cs : Causes) → Apart cs → (j k : ℕ) (c : InstanceCause) → slice_get cs j ≡ Some c → slice_get cs k ≡ Some c → j ≡ k
once [] a j k c e f = cc
once (d ∷ cs) a zero zero c e f = refl
once (d ∷ cs) a zero (suc k) c e f = absurd (a.0 (subst (Contains cs) (sym (same_Some d c e)) (there cs k c f)))
once (d ∷ cs) a (suc j) zero c e f = absurd (a.0 (subst (Contains cs) (sym (same_Some d c f)) (there cs j c e)))
once (d ∷ cs) a (suc j) (suc k) c e f = ap suc (once cs a.1 j k c e f)

apart_append : (xs ys : Causes) → Apart xs → Apart ys → ((c : InstanceCause) → Contains xs c → Contains ys c → ⊥) → Apart (xs ++ ys)
apart_append [] ys a b h = b
apart_append (x ∷ xs) ys a b h = (
  (λ in_both. elim (Contains-append_cases xs ys x in_both) [ inl l ↦ a.0 l | inr r ↦ h x (head_there x xs) r ]),
  apart_append xs ys a.1 b (λ c l r. h c (Contains-append_right (x ∷ []) xs c l) r),
)

apart_unless : (b : Bool) (c : InstanceCause) → Apart (unless b c)
apart_unless true c = tt
apart_unless false c = ((λ h. nothing_there c h), tt)

apart_told : {X : Type 0} (tell : ℕ → X → Causes) (key : InstanceCause → ℕ) → ((k : ℕ) (x : X) (c : InstanceCause) → Contains (tell k x) c → key c ≡ k) → ((k : ℕ) (x : X) → Apart (tell k x)) → (k : ℕ) (xs : List X) → Apart (told_from tell k xs)
apart_told tell key keys apart k [] = tt
apart_told tell key keys apart k (x ∷ xs) =
    apart_append (tell k x) (told_from tell (suc k) xs) (apart k x) (apart_told tell key keys apart (suc k) xs)
    (λ c l r.
    let at = told_has tell c (suc k) xs r in
    let a : key c ≡ k = keys k x c l in
    let b : key c ≡ suc k + at.0 = keys (suc k + at.0) at.1 c at.3 in
    absurd (omega (arith, a, b)))

abbrev part_place : InstanceCause → ℕ
part_place (Part i q k) = k
part_place (Alternative i q k) = k
part_place (Element k y q) = k
part_place _ = 0

abbrev member_place : InstanceCause → ℕ
member_place (Member j m y q) = m
member_place (Extra m i) = m
member_place _ = 0

abbrev declaration_place : InstanceCause → ℕ
declaration_place (Member j m y q) = j
declaration_place (Missing j r) = j
declaration_place _ = 0

-- 0 for what a declaration asks, 1 for a member, 2 for a key that isn't allowed and a list that is too long
abbrev sort_of : InstanceCause → ℕ
sort_of (Member j m y q) = 1
sort_of (Extra m i) = 2
sort_of Few = 2
sort_of Many = 3
sort_of _ = 0

key_of_unless : (key : InstanceCause → ℕ) (b : Bool) (d c : InstanceCause) → Contains (unless b d) c → key c ≡ key d
key_of_unless key b d c h = ap key (unless_has b d c h).1

-- ---- tests

not_false : (b : Bool) → not b ≡ false → b ≡ true
not_false true h = refl
not_false false h = cc

less : (m n : ℕ) → not (nat_lt m n) ≡ false → m < n
less m n h = ltb-true m n (not_false (nat_lt m n) h)

is_less : (m n : ℕ) → m < n → not (nat_lt m n) ≡ false
is_less m n l = ap not (lt-ltb m n l)

not_true : (a b : Bool) → (not a || b) ≡ false → (a ≡ true) × (b ≡ false)
not_true true b h = (refl, h)
not_true false b h = cc

or_false : (a b : Bool) → (a || b) ≡ false → (a ≡ false) × (b ≡ false)
or_false false b h = (refl, h)
or_false true b h = cc

is_none : {X : Type 0} (o : Option X) → is_some o ≡ false → o ≡ None
is_none None h = refl
is_none (Some x) h = cc

module _ (here : ℕ → Bool) (inside : ℕ → ℕ → Bool) (i r : ℕ) where
  abbrev Is : Constraint ℕ ℕ → Opened ℕ → InstanceCause → Type 0
  Is a x c = IsCauseOf here inside i r a x c

  is_cause : {a : Constraint ℕ ℕ} {x : Opened ℕ} {c d : InstanceCause} {k : Cause ℕ ℕ ℕ} → c ≡ d → IsSeenAs i r x d k → IsCause here inside a x k → Is a x c
  is_cause {a} {x} {c} {d} {k} e seen cause = record { told = k; seen = subst (λ t. IsSeenAs i r x t k) (sym e) seen; cause = cause }

  -- ---- each that is told is one

  parts_sound : (rs : List ℕ) (x : Opened ℕ) (c : InstanceCause) → Contains (told_from (λ k q. unless (here q) (Part i q k)) 0 rs) c → Is (all_of rs) x c
  parts_sound rs x c h =
      let at = told_at (λ k q. unless (here q) (Part i q k)) c rs h in
      let is = unless_has (here at.1) (Part i at.1 at.0) c at.3 in
      is_cause is.1 a_part (of_part at.2 is.0)

  alternatives_sound : (rs : List ℕ) (x : Opened ℕ) (c : InstanceCause) → Contains (told_from (λ k q. unless (here q) (Alternative i q k)) 0 rs) c → Is (any_of rs) x c
  alternatives_sound rs x c h =
      let at = told_at (λ k q. unless (here q) (Alternative i q k)) c rs h in
      let is = unless_has (here at.1) (Alternative i at.1 at.0) c at.3 in
      is_cause is.1 an_alternative (of_alternative at.2 is.0)

  module _ (ds : List (Declaration ℕ)) (o : Bool) (ms : List (Entry ℕ)) (up : KeysAscend ms) where
    every_sound : (j : ℕ) (d : Declaration ℕ) (c : InstanceCause) → slice_get ds j ≡ Some d → is_every d.mark ≡ true → Contains (value_causes here inside i r j d.value ms) c → Is (object_of ds o) (an_object ms) c
    every_sound j d c e mark h =
        let at = told_at (λ m (n : Entry ℕ). unless (inside n.1 d.value) (Member j m n.1 d.value)) c ms h in
        let is = unless_has (inside (at.1).1 d.value) (Member j at.0 (at.1).1 d.value) c at.3 in
        let under_it : IsUnder (is_every d.mark) d.label (at.1).0 (at.1).1 ms = subst (λ b. IsUnder b d.label (at.1).0 (at.1).1 ms) (sym mark) (there ms at.0 at.1 at.2) in
        is_cause is.1 (a_member refl at.2) (of_member e under_it is.0)

    label_sound : (j : ℕ) (d : Declaration ℕ) (c : InstanceCause) → slice_get ds j ≡ Some d → is_every d.mark ≡ false → Contains (label_causes here inside i r j d ms) c → Is (object_of ds o) (an_object ms) c
    label_sound j d c e mark h =
        let at = told_at (λ m (n : Entry ℕ). unless (not (bytes_eq d.label n.0) || inside n.1 d.value) (Member j m n.1 d.value)) c ms h in
        let is = unless_has (not (bytes_eq d.label (at.1).0) || inside (at.1).1 d.value) (Member j at.0 (at.1).1 d.value) c at.3 in
        let both = not_true (bytes_eq d.label (at.1).0) (inside (at.1).1 d.value) is.0 in
        let key : (at.1).0 ≡ d.label = sym ((bytes_eq-Decides d.label (at.1).0).0 both.0) in
        let under_it : IsUnder (is_every d.mark) d.label (at.1).0 (at.1).1 ms = subst (λ b. IsUnder b d.label (at.1).0 (at.1).1 ms) (sym mark) (key, under_at ms at.0 at.1 up at.2) in
        is_cause is.1 (a_member refl at.2) (of_member e under_it both.1)

    missing_sound : (j : ℕ) (d : Declaration ℕ) (c : InstanceCause) → slice_get ds j ≡ Some d → Contains (missing_causes here inside i r j d ms) c → Is (object_of ds o) (an_object ms) c
    missing_sound j d c e h =
        let is = unless_has (may_be_absent d.mark || is_some (under d.label ms)) (Missing j r) c h in
        let both = or_false (may_be_absent d.mark) (is_some (under d.label ms)) is.0 in
        is_cause is.1 a_missing (of_missing e both.0 (is_none (under d.label ms) both.1))

    declaration_sound : (j : ℕ) (d : Declaration ℕ) (c : InstanceCause) → slice_get ds j ≡ Some d → Contains (declaration_cause here inside i r ms j d) c → Is (object_of ds o) (an_object ms) c
    declaration_sound j d c e h = by (is_every d.mark) refl h
      where
        by : (b : Bool) → is_every d.mark ≡ b → Contains (if b then value_causes here inside i r j d.value ms else label_causes here inside i r j d ms ++ missing_causes here inside i r j d ms) c → Is (object_of ds o) (an_object ms) c
        by true mark h = every_sound j d c e mark h
        by false mark h = elim (Contains-append_cases (label_causes here inside i r j d ms) (missing_causes here inside i r j d ms) c h) [ inl a ↦ label_sound j d c e mark a | inr b ↦ missing_sound j d c e b ]

  extra_sound : (ds : List (Declaration ℕ)) (o : Bool) (ms : List (Entry ℕ)) (c : InstanceCause) → Contains (extra_causes here inside i r ds o ms) c → Is (object_of ds o) (an_object ms) c
  extra_sound ds true ms c h = absurd (nothing_there c h)
  extra_sound ds false ms c h =
      let at = told_at (λ m (n : Entry ℕ). unless (list_any (λ d. allows d n.0) ds) (Extra m i)) c ms h in
      let is = unless_has (list_any (λ d. allows d (at.1).0) ds) (Extra at.0 i) c at.3 in
      is_cause is.1 (an_extra refl at.2) (of_extra (there ms at.0 at.1 at.2) is.0)

  element_sound : (es : List ℕ) (rest : Rest ℕ) (ys : List ℕ) (c : InstanceCause) → Contains (told_from (λ k y. element_cause here inside i r k y (asked_at es rest k)) 0 ys) c → Is (list_of es rest) (a_list ys) c
  element_sound es rest ys c h =
      let at = told_at (λ k y. element_cause here inside i r k y (asked_at es rest k)) c ys h in
      by at.0 at.1 at.2 (slice_get es at.0) refl rest at.3
    where
      by : (k y : ℕ) → slice_get ys k ≡ Some y → (o : Option ℕ) → slice_get es k ≡ o → (rest : Rest ℕ) → Contains (element_cause here inside i r k y (or_behind o rest)) c → Is (list_of es rest) (a_list ys) c
      by k y at (Some e) f rest h = let is = unless_has (inside y e) (Element k y e) c h in is_cause is.1 an_element (of_front f at is.0)
      by k y at None f nothing h = absurd (nothing_there c h)
      by k y at None f anything h = absurd (nothing_there c h)
      by k y at None f (each e) h = let is = unless_has (inside y e) (Element k y e) c h in is_cause is.1 an_element (of_rest (past_end es k f) at is.0)

  length_sound : (es : List ℕ) (rest : Rest ℕ) (ys : List ℕ) (c : InstanceCause)
      → Contains (unless (not (nat_lt (length ys) (length es))) Few ++ unless (not (is_closed rest) || not (nat_lt (length es) (length ys))) Many) c → Is (list_of es rest) (a_list ys) c
  length_sound es rest ys c h =
      elim (Contains-append_cases (unless (not (nat_lt (length ys) (length es))) Few) (unless (not (is_closed rest) || not (nat_lt (length es) (length ys))) Many) c h) [
        | inl a ↦ (let is = unless_has (not (nat_lt (length ys) (length es))) Few c a in is_cause is.1 too_few (of_few (less (length ys) (length es) is.0)))
        | inr b ↦ (let is = unless_has (not (is_closed rest) || not (nat_lt (length es) (length ys))) Many c b in many_by rest is.0 is.1)
      ]
    where
      many_by : (rest : Rest ℕ) → (not (is_closed rest) || not (nat_lt (length es) (length ys))) ≡ false → c ≡ Many → Is (list_of es rest) (a_list ys) c
      many_by nothing h e = is_cause e too_many (of_many (less (length es) (length ys) h))
      many_by anything h e = cc
      many_by (each q) h e = cc

  sound : (a : Constraint ℕ ℕ) (x : Opened ℕ) → AscendsInside x → is_satisfied here inside a x ≡ false → (c : InstanceCause) → Contains (causes_of here inside i r a x) c → Is a x c
  sound (simple p) x up refused c h = is_cause (only_one Unmet c h) an_unmet (of_test refused)
  sound (all_of rs) x up refused c h = parts_sound rs x c h
  sound (any_of []) x up refused c h = is_cause (only_one NoAlternative c h) none of_none
  sound (any_of (q ∷ rs)) x up refused c h = alternatives_sound (q ∷ rs) x c h
  sound (object_of ds o) (an_object ms) up refused c h =
      elim (Contains-append_cases (told_from (declaration_cause here inside i r ms) 0 ds) (extra_causes here inside i r ds o ms) c h) [
        | inl a ↦ (let at = told_at (declaration_cause here inside i r ms) c ds a in declaration_sound ds o ms up at.0 at.1 c at.2 at.3)
        | inr b ↦ extra_sound ds o ms c b
      ]
  sound (object_of ds o) a_null up refused c h = is_cause (only_one Unmet c h) an_unmet (of_kind refl)
  sound (object_of ds o) (a_boolean b) up refused c h = is_cause (only_one Unmet c h) an_unmet (of_kind refl)
  sound (object_of ds o) (an_integer z) up refused c h = is_cause (only_one Unmet c h) an_unmet (of_kind refl)
  sound (object_of ds o) (a_text s) up refused c h = is_cause (only_one Unmet c h) an_unmet (of_kind refl)
  sound (object_of ds o) (a_list ys) up refused c h = is_cause (only_one Unmet c h) an_unmet (of_kind refl)
  sound (list_of es rest) (a_list ys) up refused c h =
      elim (Contains-append_cases (told_from (λ k y. element_cause here inside i r k y (asked_at es rest k)) 0 ys) (unless (not (nat_lt (length ys) (length es))) Few ++ unless (not (is_closed rest) || not (nat_lt (length es) (length ys))) Many) c h) [
        | inl a ↦ element_sound es rest ys c a
        | inr b ↦ length_sound es rest ys c b
      ]
  sound (list_of es rest) a_null up refused c h = is_cause (only_one Unmet c h) an_unmet (of_list_kind refl)
  sound (list_of es rest) (a_boolean b) up refused c h = is_cause (only_one Unmet c h) an_unmet (of_list_kind refl)
  sound (list_of es rest) (an_integer z) up refused c h = is_cause (only_one Unmet c h) an_unmet (of_list_kind refl)
  sound (list_of es rest) (a_text s) up refused c h = is_cause (only_one Unmet c h) an_unmet (of_list_kind refl)
  sound (list_of es rest) (an_object ms) up refused c h = is_cause (only_one Unmet c h) an_unmet (of_list_kind refl)

  -- ---- each one is told

  unmet_map : (ds : List (Declaration ℕ)) (o : Bool) (x : Opened ℕ) → is_map x ≡ false → Contains (map_causes here inside i r ds o x) Unmet
  unmet_map ds o a_null e = head_there Unmet []
  unmet_map ds o (a_boolean b) e = head_there Unmet []
  unmet_map ds o (an_integer z) e = head_there Unmet []
  unmet_map ds o (a_text s) e = head_there Unmet []
  unmet_map ds o (a_list ys) e = head_there Unmet []
  unmet_map ds o (an_object ms) e = cc

  unmet_list : (es : List ℕ) (rest : Rest ℕ) (x : Opened ℕ) → is_array x ≡ false → Contains (list_causes here inside i r es rest x) Unmet
  unmet_list es rest a_null e = head_there Unmet []
  unmet_list es rest (a_boolean b) e = head_there Unmet []
  unmet_list es rest (an_integer z) e = head_there Unmet []
  unmet_list es rest (a_text s) e = head_there Unmet []
  unmet_list es rest (a_list ys) e = cc
  unmet_list es rest (an_object ms) e = head_there Unmet []

  alternative_told : (rs : List ℕ) (k q : ℕ) → slice_get rs k ≡ Some q → here q ≡ false → Contains (alternative_causes here inside i r rs) (Alternative i q k)
  alternative_told [] k q e h = cc
  alternative_told (p ∷ rs) k q e h = at_told (λ k q. unless (here q) (Alternative i q k)) (Alternative i q k) (p ∷ rs) k q e (has_unless (here q) (Alternative i q k) h)

  declared_told : (ds : List (Declaration ℕ)) (o : Bool) (ms : List (Entry ℕ)) (j : ℕ) (d : Declaration ℕ) (c : InstanceCause) → slice_get ds j ≡ Some d → Contains (declaration_cause here inside i r ms j d) c → Contains (map_causes here inside i r ds o (an_object ms)) c
  declared_told ds o ms j d c e h = Contains-append_left (told_from (declaration_cause here inside i r ms) 0 ds) (extra_causes here inside i r ds o ms) c (at_told (declaration_cause here inside i r ms) c ds j d e h)

  member_told : (ms : List (Entry ℕ)) (j : ℕ) (d : Declaration ℕ) (m : ℕ) (k : List ℕ) (y : ℕ) → slice_get ms m ≡ Some (k, y) → IsUnder (is_every d.mark) d.label k y ms → inside y d.value ≡ false → Contains (declaration_cause here inside i r ms j d) (Member j m y d.value)
  member_told ms j d m k y at u q = by (is_every d.mark) u
    where
      by : (b : Bool) → IsUnder b d.label k y ms → Contains (if b then value_causes here inside i r j d.value ms else label_causes here inside i r j d ms ++ missing_causes here inside i r j d ms) (Member j m y d.value)
      by true u = at_told (λ m (n : Entry ℕ). unless (inside n.1 d.value) (Member j m n.1 d.value)) (Member j m y d.value) ms m (k, y) at (has_unless (inside y d.value) (Member j m y d.value) q)
      by false u =
          let is : (not (bytes_eq d.label k) || inside y d.value) ≡ false = ap (λ b. not b || inside y d.value) ((bytes_eq-Decides d.label k).1 (sym u.0)) ∙ q in
          Contains-append_left (label_causes here inside i r j d ms) (missing_causes here inside i r j d ms) (Member j m y d.value)
          (at_told (λ m (n : Entry ℕ). unless (not (bytes_eq d.label n.0) || inside n.1 d.value) (Member j m n.1 d.value)) (Member j m y d.value) ms m (k, y) at (has_unless (not (bytes_eq d.label k) || inside y d.value) (Member j m y d.value) is))

  for_one : (m : DeclarationMark) → may_be_absent m ≡ false → is_every m ≡ false
  for_one regular e = refl
  for_one optional e = refl
  for_one required e = refl
  for_one every e = cc

  missing_told : (ms : List (Entry ℕ)) (j : ℕ) (d : Declaration ℕ) → may_be_absent d.mark ≡ false → under d.label ms ≡ None → Contains (declaration_cause here inside i r ms j d) (Missing j r)
  missing_told ms j d absent nothing_under = by (is_every d.mark) (for_one d.mark absent)
    where
      is : (may_be_absent d.mark || is_some (under d.label ms)) ≡ false
      is = ap (λ b. b || is_some (under d.label ms)) absent ∙ ap is_some nothing_under

      by : (b : Bool) → b ≡ false → Contains (if b then value_causes here inside i r j d.value ms else label_causes here inside i r j d ms ++ missing_causes here inside i r j d ms) (Missing j r)
      by true e = cc
      by false e = Contains-append_right (label_causes here inside i r j d ms) (missing_causes here inside i r j d ms) (Missing j r) (has_unless (may_be_absent d.mark || is_some (under d.label ms)) (Missing j r) is)

  element_told : (es : List ℕ) (rest : Rest ℕ) (ys : List ℕ) (k y e : ℕ) → slice_get ys k ≡ Some y → asked_at es rest k ≡ Some e → inside y e ≡ false → Contains (list_causes here inside i r es rest (a_list ys)) (Element k y e)
  element_told es rest ys k y e at asked h =
      let tell = λ (k y : ℕ). element_cause here inside i r k y (asked_at es rest k) in
      Contains-append_left (told_from tell 0 ys) (unless (not (nat_lt (length ys) (length es))) Few ++ unless (not (is_closed rest) || not (nat_lt (length es) (length ys))) Many) (Element k y e)
      (at_told tell (Element k y e) ys k y at (subst (λ o. Contains (element_cause here inside i r k y o) (Element k y e)) (sym asked) (has_unless (inside y e) (Element k y e) h)))

  few_told : (es : List ℕ) (rest : Rest ℕ) (ys : List ℕ) → length ys < length es → Contains (list_causes here inside i r es rest (a_list ys)) Few
  few_told es rest ys l =
      Contains-append_right (told_from (λ k y. element_cause here inside i r k y (asked_at es rest k)) 0 ys) (unless (not (nat_lt (length ys) (length es))) Few ++ unless (not (is_closed rest) || not (nat_lt (length es) (length ys))) Many) Few
      (Contains-append_left (unless (not (nat_lt (length ys) (length es))) Few) (unless (not (is_closed rest) || not (nat_lt (length es) (length ys))) Many) Few (has_unless (not (nat_lt (length ys) (length es))) Few (is_less (length ys) (length es) l)))

  many_told : (es ys : List ℕ) → length es < length ys → Contains (list_causes here inside i r es nothing (a_list ys)) Many
  many_told es ys l =
      Contains-append_right (told_from (λ k y. element_cause here inside i r k y (asked_at es nothing k)) 0 ys) (unless (not (nat_lt (length ys) (length es))) Few ++ unless (not (nat_lt (length es) (length ys))) Many) Many
      (Contains-append_right (unless (not (nat_lt (length ys) (length es))) Few) (unless (not (nat_lt (length es) (length ys))) Many) Many (has_unless (not (nat_lt (length es) (length ys))) Many (is_less (length es) (length ys) l)))

  same_members : (ms ns : List (Entry ℕ)) → an_object ms ≡ an_object ns → ns ≡ ms
  same_members ms ns e = cc

  complete : {a : Constraint ℕ ℕ} {x : Opened ℕ} {k : Cause ℕ ℕ ℕ} {c : InstanceCause} → IsCause here inside a x k → IsSeenAs i r x c k → Contains (causes_of here inside i r a x) c
  complete (of_test e) an_unmet = head_there Unmet []
  complete (of_part {rs = rs} {k = k} {r = q} e h) a_part = at_told (λ k q. unless (here q) (Part i q k)) (Part i q k) rs k q e (has_unless (here q) (Part i q k) h)
  complete (of_alternative {rs = rs} {k = k} {r = q} e h) an_alternative = alternative_told rs k q e h
  complete of_none none = head_there NoAlternative []
  complete (of_kind {ds = ds} {o = o} {x = x} e) an_unmet = unmet_map ds o x e
  complete (of_member {ds = ds} {o = o} {ms = ms} {j = j} {d = d} {k = k} {y = y} e u q) (a_member {ms = ns} {m = m} same at) =
      declared_told ds o ms j d (Member j m y d.value) e (member_told ms j d m k y (subst (λ t. slice_get t m ≡ Some (k, y)) (same_members ms ns same) at) u q)
  complete (of_missing {ds = ds} {o = o} {ms = ms} {j = j} {d = d} e absent nothing_under) a_missing = declared_told ds o ms j d (Missing j r) e (missing_told ms j d absent nothing_under)
  complete (of_extra {ds = ds} {ms = ms} {k = k} t q) (an_extra {ms = ns} {m = m} {y = y} same at) =
      Contains-append_right (told_from (declaration_cause here inside i r ms) 0 ds) (extra_causes here inside i r ds false ms) (Extra m i)
      (at_told (λ m (n : Entry ℕ). unless (list_any (λ d. allows d n.0) ds) (Extra m i)) (Extra m i) ms m (k, y) (subst (λ t. slice_get t m ≡ Some (k, y)) (same_members ms ns same) at) (has_unless (list_any (λ d. allows d k) ds) (Extra m i) q))
  complete (of_list_kind {es = es} {rest = rest} {x = x} e) an_unmet = unmet_list es rest x e
  complete (of_front {es = es} {rest = rest} {ys = ys} {k = k} {e = e} {y = y} at t q) an_element = element_told es rest ys k y e t (ap (λ o. or_behind o rest) at) q
  complete (of_rest {es = es} {ys = ys} {k = k} {e = e} {y = y} l t q) an_element = element_told es (each e) ys k y e t (ap (λ o. or_behind o (each e)) (slice_get_past es k l)) q
  complete (of_few {es = es} {rest = rest} {ys = ys} l) too_few = few_told es rest ys l
  complete (of_many {es = es} {ys = ys} l) too_many = many_told es ys l

  -- ---- each once

  apart_parts : (rs : List ℕ) → Apart (told_from (λ k q. unless (here q) (Part i q k)) 0 rs)
  apart_parts rs = apart_told (λ k q. unless (here q) (Part i q k)) part_place (λ k q c h. key_of_unless part_place (here q) (Part i q k) c h) (λ k q. apart_unless (here q) (Part i q k)) 0 rs

  apart_alternatives : (rs : List ℕ) → Apart (alternative_causes here inside i r rs)
  apart_alternatives [] = ((λ h. nothing_there NoAlternative h), tt)
  apart_alternatives (q ∷ rs) =
      apart_told (λ k q. unless (here q) (Alternative i q k)) part_place (λ k q c h. key_of_unless part_place (here q) (Alternative i q k) c h) (λ k q. apart_unless (here q) (Alternative i q k)) 0 (q ∷ rs)

  -- what holds of all that a declaration tells
  module _ (ms : List (Entry ℕ)) (j : ℕ) (d : Declaration ℕ) (P : InstanceCause → Type 0) (members : (m y : ℕ) → P (Member j m y d.value)) (missing : P (Missing j r)) where
    of_unless : (b : Bool) (e c : InstanceCause) → P e → Contains (unless b e) c → P c
    of_unless b e c p h = subst P (sym (unless_has b e c h).1) p

    declared : (c : InstanceCause) → Contains (declaration_cause here inside i r ms j d) c → P c
    declared c h = by (is_every d.mark) h
      where
        by : (b : Bool) → Contains (if b then value_causes here inside i r j d.value ms else label_causes here inside i r j d ms ++ missing_causes here inside i r j d ms) c → P c
        by true h =
            let at = told_at (λ m (n : Entry ℕ). unless (inside n.1 d.value) (Member j m n.1 d.value)) c ms h in
            of_unless (inside (at.1).1 d.value) (Member j at.0 (at.1).1 d.value) c (members at.0 (at.1).1) at.3
        by false h =
            elim (Contains-append_cases (label_causes here inside i r j d ms) (missing_causes here inside i r j d ms) c h) [
              | inl a ↦ (let at = told_at (λ m (n : Entry ℕ). unless (not (bytes_eq d.label n.0) || inside n.1 d.value) (Member j m n.1 d.value)) c ms a in
                  of_unless (not (bytes_eq d.label (at.1).0) || inside (at.1).1 d.value) (Member j at.0 (at.1).1 d.value) c (members at.0 (at.1).1) at.3)
              | inr b ↦ of_unless (may_be_absent d.mark || is_some (under d.label ms)) (Missing j r) c missing b
            ]

  apart_declaration : (ms : List (Entry ℕ)) (j : ℕ) (d : Declaration ℕ) → Apart (declaration_cause here inside i r ms j d)
  apart_declaration ms j d = by (is_every d.mark)
    where
      by : (b : Bool) → Apart (if b then value_causes here inside i r j d.value ms else label_causes here inside i r j d ms ++ missing_causes here inside i r j d ms)
      by true =
          apart_told (λ m (n : Entry ℕ). unless (inside n.1 d.value) (Member j m n.1 d.value)) member_place
          (λ m n c h. key_of_unless member_place (inside n.1 d.value) (Member j m n.1 d.value) c h) (λ m n. apart_unless (inside n.1 d.value) (Member j m n.1 d.value)) 0 ms
      by false =
          apart_append (label_causes here inside i r j d ms) (missing_causes here inside i r j d ms)
          (apart_told (λ m (n : Entry ℕ). unless (not (bytes_eq d.label n.0) || inside n.1 d.value) (Member j m n.1 d.value)) member_place
          (λ m n c h. key_of_unless member_place (not (bytes_eq d.label n.0) || inside n.1 d.value) (Member j m n.1 d.value) c h) (λ m n. apart_unless (not (bytes_eq d.label n.0) || inside n.1 d.value) (Member j m n.1 d.value)) 0 ms)
          (apart_unless (may_be_absent d.mark || is_some (under d.label ms)) (Missing j r))
          (λ c l m.
          let at = told_at (λ m (n : Entry ℕ). unless (not (bytes_eq d.label n.0) || inside n.1 d.value) (Member j m n.1 d.value)) c ms l in
          let a : sort_of c ≡ 1 = key_of_unless sort_of (not (bytes_eq d.label (at.1).0) || inside (at.1).1 d.value) (Member j at.0 (at.1).1 d.value) c at.3 in
          let b : sort_of c ≡ 0 = key_of_unless sort_of (may_be_absent d.mark || is_some (under d.label ms)) (Missing j r) c m in
          absurd (omega (arith, a, b)))

  apart_extras : (ds : List (Declaration ℕ)) (o : Bool) (ms : List (Entry ℕ)) → Apart (extra_causes here inside i r ds o ms)
  apart_extras ds true ms = tt
  apart_extras ds false ms =
      apart_told (λ m (n : Entry ℕ). unless (list_any (λ d. allows d n.0) ds) (Extra m i)) member_place
      (λ m n c h. key_of_unless member_place (list_any (λ d. allows d n.0) ds) (Extra m i) c h) (λ m n. apart_unless (list_any (λ d. allows d n.0) ds) (Extra m i)) 0 ms

  sort_of_extra : (ds : List (Declaration ℕ)) (o : Bool) (ms : List (Entry ℕ)) (c : InstanceCause) → Contains (extra_causes here inside i r ds o ms) c → sort_of c ≡ 2
  sort_of_extra ds true ms c h = absurd (nothing_there c h)
  sort_of_extra ds false ms c h =
      let at = told_at (λ m (n : Entry ℕ). unless (list_any (λ d. allows d n.0) ds) (Extra m i)) c ms h in
      key_of_unless sort_of (list_any (λ d. allows d (at.1).0) ds) (Extra at.0 i) c at.3

  apart_map : (ds : List (Declaration ℕ)) (o : Bool) (ms : List (Entry ℕ)) → Apart (map_causes here inside i r ds o (an_object ms))
  apart_map ds o ms =
      apart_append (told_from (declaration_cause here inside i r ms) 0 ds) (extra_causes here inside i r ds o ms)
      (apart_told (declaration_cause here inside i r ms) declaration_place (λ j d c h. declared ms j d (λ c. declaration_place c ≡ j) (λ m y. refl) refl c h) (λ j d. apart_declaration ms j d) 0 ds)
      (apart_extras ds o ms)
      (λ c l m.
      let at = told_at (declaration_cause here inside i r ms) c ds l in
      let a : sort_of c < 2 = declared ms at.0 at.1 (λ c. sort_of c < 2) (λ m y. omega arith) (omega arith) c at.3 in
      let b = sort_of_extra ds o ms c m in
      absurd (omega (arith, a, b)))

  element_key : (key : InstanceCause → ℕ) (n k y : ℕ) → ((e : ℕ) → key (Element k y e) ≡ n) → (o : Option ℕ) (c : InstanceCause) → Contains (element_cause here inside i r k y o) c → key c ≡ n
  element_key key n k y at None c h = absurd (nothing_there c h)
  element_key key n k y at (Some e) c h = key_of_unless key (inside y e) (Element k y e) c h ∙ at e

  apart_element : (k y : ℕ) (o : Option ℕ) → Apart (element_cause here inside i r k y o)
  apart_element k y None = tt
  apart_element k y (Some e) = apart_unless (inside y e) (Element k y e)

  apart_list : (es : List ℕ) (rest : Rest ℕ) (ys : List ℕ) → Apart (list_causes here inside i r es rest (a_list ys))
  apart_list es rest ys =
      let tell = λ (k y : ℕ). element_cause here inside i r k y (asked_at es rest k) in
      let is_few = not (nat_lt (length ys) (length es)) in
      let is_many = not (is_closed rest) || not (nat_lt (length es) (length ys)) in
      apart_append (told_from tell 0 ys) (unless is_few Few ++ unless is_many Many)
      (apart_told tell part_place (λ k y c h. element_key part_place k k y (λ e. refl) (asked_at es rest k) c h) (λ k y. apart_element k y (asked_at es rest k)) 0 ys)
      (apart_append (unless is_few Few) (unless is_many Many) (apart_unless is_few Few) (apart_unless is_many Many)
      (λ c l m.
      let a : sort_of c ≡ 2 = key_of_unless sort_of is_few Few c l in
      let b : sort_of c ≡ 3 = key_of_unless sort_of is_many Many c m in
      absurd (omega (arith, a, b))))
      (λ c l m.
      let at = told_at tell c ys l in
      let a : sort_of c ≡ 0 = element_key sort_of 0 at.0 at.1 (λ e. refl) (asked_at es rest at.0) c at.3 in
      elim (Contains-append_cases (unless is_few Few) (unless is_many Many) c m) [
        | inl f ↦ (let b : sort_of c ≡ 2 = key_of_unless sort_of is_few Few c f in absurd (omega (arith, a, b)))
        | inr g ↦ (let b : sort_of c ≡ 3 = key_of_unless sort_of is_many Many c g in absurd (omega (arith, a, b)))
      ])

  apart : (a : Constraint ℕ ℕ) (x : Opened ℕ) → Apart (causes_of here inside i r a x)
  apart (simple p) x = ((λ h. nothing_there Unmet h), tt)
  apart (all_of rs) x = apart_parts rs
  apart (any_of rs) x = apart_alternatives rs
  apart (object_of ds o) (an_object ms) = apart_map ds o ms
  apart (object_of ds o) a_null = ((λ h. nothing_there Unmet h), tt)
  apart (object_of ds o) (a_boolean b) = ((λ h. nothing_there Unmet h), tt)
  apart (object_of ds o) (an_integer z) = ((λ h. nothing_there Unmet h), tt)
  apart (object_of ds o) (a_text s) = ((λ h. nothing_there Unmet h), tt)
  apart (object_of ds o) (a_list ys) = ((λ h. nothing_there Unmet h), tt)
  apart (list_of es rest) (a_list ys) = apart_list es rest ys
  apart (list_of es rest) a_null = ((λ h. nothing_there Unmet h), tt)
  apart (list_of es rest) (a_boolean b) = ((λ h. nothing_there Unmet h), tt)
  apart (list_of es rest) (an_integer z) = ((λ h. nothing_there Unmet h), tt)
  apart (list_of es rest) (a_text s) = ((λ h. nothing_there Unmet h), tt)
  apart (list_of es rest) (an_object ms) = ((λ h. nothing_there Unmet h), tt)

  -- ---- at least one

  abbrev Some1 : Causes → Type 0
  Some1 cs = (c : InstanceCause) × Contains cs c

  under_place : (l : List ℕ) (ms : List (Entry ℕ)) (y : ℕ) → under l ms ≡ Some y → (m : ℕ) × (slice_get ms m ≡ Some (l, y))
  under_place l [] y e = cc
  under_place l (n ∷ ms) y e = by (bytes_eq l n.0) refl e (under_place l ms y)
    where
      by : (b : Bool) → bytes_eq l n.0 ≡ b → (if b then Some n.1 else under l ms) ≡ Some y → (under l ms ≡ Some y → (m : ℕ) × (slice_get ms m ≡ Some (l, y))) → (m : ℕ) × (slice_get (n ∷ ms) m ≡ Some (l, y))
      by true f e rest = (0, ap (λ k. Some (k, n.1)) (sym ((bytes_eq-Decides l n.0).0 f)) ∙ ap (λ v. Some (l, v)) (same_Some n.1 y e))
      by false f e rest = let at = rest e in (suc at.0, at.1)

  some_declared : (ms : List (Entry ℕ)) (j : ℕ) (d : Declaration ℕ) → declaration_holds inside d ms ≡ false → Some1 (declaration_cause here inside i r ms j d)
  some_declared ms j d h = by (is_every d.mark) refl h
    where
      labelled : is_every d.mark ≡ false → (o : Option ℕ) → under d.label ms ≡ o → value_holds inside d o ≡ false → Some1 (declaration_cause here inside i r ms j d)
      labelled mark None e h = (Missing j r, missing_told ms j d h e)
      labelled mark (Some y) e h =
          let at = under_place d.label ms y e in
          (Member j at.0 y d.value, member_told ms j d at.0 d.label y at.1 (subst (λ b. IsUnder b d.label d.label y ms) (sym mark) (refl, e)) h)

      by : (b : Bool) → is_every d.mark ≡ b → (if b then list_all (λ (m : Entry ℕ). inside m.1 d.value) ms else value_holds inside d (under d.label ms)) ≡ false → Some1 (declaration_cause here inside i r ms j d)
      by true mark h =
          let at = all_false (λ (m : Entry ℕ). inside m.1 d.value) ms h in
          (Member j at.0 (at.1).1 d.value, member_told ms j d at.0 (at.1).0 (at.1).1 at.2 (subst (λ b. IsUnder b d.label (at.1).0 (at.1).1 ms) (sym mark) (there ms at.0 at.1 at.2)) at.3)
      by false mark h = labelled mark (under d.label ms) refl h

  some_in_map : (ds : List (Declaration ℕ)) (o : Bool) (ms : List (Entry ℕ)) → fields_hold inside ds o ms ≡ false → Some1 (map_causes here inside i r ds o (an_object ms))
  some_in_map ds o ms h = by (list_all (λ d. declaration_holds inside d ms) ds) refl o h
    where
      extras : (o : Bool) → (o || list_all (λ (m : Entry ℕ). list_any (λ (d : Declaration ℕ). allows d m.0) ds) ms) ≡ false → Some1 (map_causes here inside i r ds o (an_object ms))
      extras true h = cc
      extras false h =
          let at = all_false (λ (m : Entry ℕ). list_any (λ (d : Declaration ℕ). allows d m.0) ds) ms h in
          (Extra at.0 i, complete (of_extra (there ms at.0 at.1 at.2) at.3) (an_extra refl at.2))

      by : (b : Bool) → list_all (λ d. declaration_holds inside d ms) ds ≡ b → (o : Bool) → (b && (o || list_all (λ (m : Entry ℕ). list_any (λ (d : Declaration ℕ). allows d m.0) ds) ms)) ≡ false → Some1 (map_causes here inside i r ds o (an_object ms))
      by true e o h = extras o h
      by false e o h =
          let at = all_false (λ d. declaration_holds inside d ms) ds e in
          let one = some_declared ms at.0 at.1 at.3 in
          (one.0, declared_told ds o ms at.0 at.1 one.0 at.2 one.1)

  -- an element that is refused at its place, too few or too many
  abbrev Fails : List ℕ → Rest ℕ → List ℕ → Type 0
  Fails es rest ys = ((k : ℕ) × (y : ℕ) × (e : ℕ) × (slice_get ys k ≡ Some y) × (asked_at es rest k ≡ Some e) × (inside y e ≡ false)) ⊎ ((length ys < length es) ⊎ ((is_closed rest ≡ true) × (length es < length ys)))

  fails_at_next : (e : ℕ) (es : List ℕ) (rest : Rest ℕ) (y : ℕ) (ys : List ℕ) → Fails es rest ys → Fails (e ∷ es) rest (y ∷ ys)
  fails_at_next e es rest y ys (inl w) = inl (suc w.0, w.1, w.2, w.3, w.4, w.5)
  fails_at_next e es rest y ys (inr (inl l)) = inr (inl (omega (arith, l)))
  fails_at_next e es rest y ys (inr (inr w)) = let l = w.1 in inr (inr (w.0, omega (arith, l)))

  fails : (es : List ℕ) (rest : Rest ℕ) (ys : List ℕ) → elements_hold inside es rest ys ≡ false → Fails es rest ys
  fails [] nothing [] h = cc
  fails [] nothing (y ∷ ys) h = inr (inr (refl, omega arith))
  fails [] anything ys h = cc
  fails [] (each e) ys h = let at = all_false (λ y. inside y e) ys h in inl (at.0, at.1, e, at.2, refl, at.3)
  fails (e ∷ es) rest [] h = inr (inl (omega arith))
  fails (e ∷ es) rest (y ∷ ys) h = by (inside y e) refl h (fails es rest ys)
    where
      by : (b : Bool) → inside y e ≡ b → (b && elements_hold inside es rest ys) ≡ false → (elements_hold inside es rest ys ≡ false → Fails es rest ys) → Fails (e ∷ es) rest (y ∷ ys)
      by true f h rest_fails = fails_at_next e es rest y ys (rest_fails h)
      by false f h rest_fails = inl (0, y, e, refl, refl, f)

  some_in_list : (es : List ℕ) (rest : Rest ℕ) (ys : List ℕ) → Fails es rest ys → Some1 (list_causes here inside i r es rest (a_list ys))
  some_in_list es rest ys (inl w) = (Element w.0 w.1 w.2, element_told es rest ys w.0 w.1 w.2 w.3 w.4 w.5)
  some_in_list es rest ys (inr (inl l)) = (Few, few_told es rest ys l)
  some_in_list es nothing ys (inr (inr w)) = (Many, many_told es ys w.1)
  some_in_list es anything ys (inr (inr w)) = let e = w.0 in cc
  some_in_list es (each q) ys (inr (inr w)) = let e = w.0 in cc

  some : (a : Constraint ℕ ℕ) (x : Opened ℕ) → is_satisfied here inside a x ≡ false → Some1 (causes_of here inside i r a x)
  some (simple p) x h = (Unmet, head_there Unmet [])
  some (all_of rs) x h = let at = all_false here rs h in (Part i at.1 at.0, complete (of_part {x = x} at.2 at.3) a_part)
  some (any_of []) x h = (NoAlternative, head_there NoAlternative [])
  some (any_of (q ∷ rs)) x h = (Alternative i q 0, alternative_told (q ∷ rs) 0 q refl (or_false (here q) (list_any here rs) h).0)
  some (object_of ds o) (an_object ms) h = some_in_map ds o ms h
  some (object_of ds o) a_null h = (Unmet, head_there Unmet [])
  some (object_of ds o) (a_boolean b) h = (Unmet, head_there Unmet [])
  some (object_of ds o) (an_integer z) h = (Unmet, head_there Unmet [])
  some (object_of ds o) (a_text s) h = (Unmet, head_there Unmet [])
  some (object_of ds o) (a_list ys) h = (Unmet, head_there Unmet [])
  some (list_of es rest) (a_list ys) h = some_in_list es rest ys (fails es rest ys h)
  some (list_of es rest) a_null h = (Unmet, head_there Unmet [])
  some (list_of es rest) (a_boolean b) h = (Unmet, head_there Unmet [])
  some (list_of es rest) (an_integer z) h = (Unmet, head_there Unmet [])
  some (list_of es rest) (a_text s) h = (Unmet, head_there Unmet [])
  some (list_of es rest) (an_object ms) h = (Unmet, head_there Unmet [])

  pub are_causes : (a : Constraint ℕ ℕ) (x : Opened ℕ) → AscendsInside x → is_satisfied here inside a x ≡ false → AreCauses (Is a x) (causes_of here inside i r a x)
  are_causes a x up refused =
      let one = some a x refused in record {
        sound = λ k c e. sound a x up refused c (there (causes_of here inside i r a x) k c e);
        complete = λ c is. complete is.cause is.seen;
        once = once (causes_of here inside i r a x) (apart a x);
        some = (let l = (one.1).1 in omega (arith, l));
      }

-- ---- at a pair

on_ok : {X E : Type 0} {P Q : Type 0} (result : Result X E) → (P → Q) → OnOk result P → OnOk result Q
on_ok (Ok x) g h = g h
on_ok (Err e) g h = tt

module _ (asked : List (Constraint ℕ ℕ)) (xs : List (Opened ℕ)) (f : AllVerdicts) (i r : ℕ) (a : Constraint ℕ ℕ) (x : Opened ℕ) (rule : slice_get asked r ≡ Some a) (item : slice_get xs i ≡ Some x) where
  at_pair : (cs : Causes) → AreCauses (IsCauseOf (f i) f i r a x) cs → AreCauses (IsCauseAt asked xs f i r) cs
  at_pair cs h = record {
    sound = λ k c e. record { asks = a; value = x; at_rule = rule; at_item = item; cause = h.sound k c e };
    complete = λ c is.
        let asks : is.asks ≡ a = same_Some is.asks a (sym is.at_rule ∙ rule) in
        let value : is.value ≡ x = same_Some is.value x (sym is.at_item ∙ item) in
        h.complete c (subst (λ y. IsCauseOf (f i) f i r a y c) value (subst (λ b. IsCauseOf (f i) f i r b is.value c) asks is.cause));
    once = h.once;
    some = h.some;
  }

  pub told_at_pair : {E : Type 0} (result : Result (Unit {0}) E) (old new : Causes) → AscendsInside x → is_satisfied (f i) f a x ≡ false → old ≡ [] → OnOk result (new ≡ old ++ causes_of (f i) f i r a x) → OnOk result (AreCauses (IsCauseAt asked xs f i r) new)
  told_at_pair result old new up refused first h =
      on_ok result (λ e. subst (AreCauses (IsCauseAt asked xs f i r)) (sym (e ∙ ap (λ o. o ++ causes_of (f i) f i r a x) first)) (at_pair (causes_of (f i) f i r a x) (are_causes (f i) f i r a x up refused))) h

-- a pair that is refused isn't satisfied
pub isnt_satisfied : (rules : List Coded) (inner : List ℕ) (xs : List (Opened ℕ)) (f : AllVerdicts) (i r : ℕ) (rule : Coded) (x : Opened ℕ) → slice_get rules r ≡ Some rule → slice_get xs i ≡ Some x
    → ∥ IsJudged (length xs) (length rules) (answer step rules inner (values xs) xs) f ∥₁ → f i r ≡ false → is_satisfied (f i) f (numbered inner rule) x ≡ false
isnt_satisfied rules inner xs f i r rule x e k judged refused =
    ∥∥₁_elim judged (Bool-set (is_satisfied (f i) f (numbered inner rule) x) false)
    (λ is. named (λ q. q) (slice_index inner) (f i) f (asked_of rule) x ∙ sym (answer_is step rules inner (values xs) xs i r f rule x e k) ∙ sym (is i r (slice_get_within xs i x k) (slice_get_within rules r rule e)) ∙ refused)
