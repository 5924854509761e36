-- The causes that are left are those that are followed.
use Rattle.std.proofs.Common.{◌≡◌, ℕ, ◌⊎◌, ⊎_elim, inl, inr, Bool, true, false, not, ◌||◌, List, [], ◌∷◌, ◌++◌, length, filter, Option, Some, None, ap, ◌∙◌, sym, subst, refl, arith}
use Rattle.std.specs.Prelude.{slice_get, Contains}
use Rattle.std.proofs.lemmas.Option.{slice_get_within}
use Rattle.cs_table.specs.Judged.{AllVerdicts}
use Rattle.cs_reasons.specs.Followed.{leads_into, is_followed, HasAlternative}
use Rattle.cs_reasons.specs.Reasons.{AreCauses, IsFollowed}
use Rattle.cs_reasons.proofs.Bits.{no, not_yes}
use Rattle.cs_reasons.proofs.Filtered.{was_there, is_left, left_once}
use Rattle.cs_reasons.proofs.Lists.{at_front, at_end, at_either, length_more, is_there}
use Rattle.cs_reasons.proofs.Tellings.{contains, contained}

module _ {C : Type 0} (leads_to : C → Option (ℕ × ℕ)) (is_alternative : C → Bool) (is_cause : ℕ → ℕ → C → Type 0) (none : C) (chosen : AllVerdicts) (i r : ℕ)
    (alone : (c : C) → is_cause i r c → is_alternative c ≡ true → ¬ (is_cause i r none)) (cs : List C) (causes : AreCauses (is_cause i r) cs) where
  abbrev F : C → Type 0
  F = IsFollowed leads_to is_cause is_alternative none chosen i r

  abbrev p : C → Bool
  p = is_followed leads_to is_alternative chosen

  abbrev pub left : List C
  left = filter p cs

  by_pair : (c : C) → is_cause i r c → is_alternative c ≡ true → (o : Option (ℕ × ℕ)) → leads_to c ≡ o → leads_into chosen o ≡ true → F c
  by_pair c cause is None to e = absurd (no false refl e)
  by_pair c cause is (Some q) to e = IsFollowed.alternative cause is to e

  by_sort : (c : C) → is_cause i r c → (b : Bool) → is_alternative c ≡ b → (not b || leads_into chosen (leads_to c)) ≡ true → F c
  by_sort c cause true is e = by_pair c cause is (leads_to c) refl e
  by_sort c cause false is e = IsFollowed.other cause is

  follows : (c : C) → is_cause i r c → p c ≡ true → F c
  follows c cause e = by_sort c cause (is_alternative c) refl e

  other_left : (c : C) → is_alternative c ≡ false → p c ≡ true
  other_left c e = ap (λ b. not b || leads_into chosen (leads_to c)) e

  or_true : (b : Bool) → (b || true) ≡ true
  or_true true = refl
  or_true false = refl

  chosen_left : (c : C) (j q : ℕ) → leads_to c ≡ Some (j, q) → chosen j q ≡ true → p c ≡ true
  chosen_left c j q to e = ap (λ o. not (is_alternative c) || leads_into chosen o) to ∙ ap (λ b. not (is_alternative c) || b) e ∙ or_true (not (is_alternative c))

  left_cause : (k : ℕ) (c : C) → slice_get left k ≡ Some c → is_cause i r c × (p c ≡ true)
  left_cause k c at = let h = was_there p cs k c at in (causes.sound h.0 c h.1, h.2)

  is_in_left : (c : C) → is_cause i r c → p c ≡ true → Contains left c
  is_in_left c cause e =
      let has = causes.complete c cause in
      let h = is_left p cs has.0 c (contained cs c has) e in
      contains left h.0 c h.1

  abbrev NoneChosen : Type 0
  NoneChosen = (d : C) (j q : ℕ) → is_cause i r d → is_alternative d ≡ true → leads_to d ≡ Some (j, q) → chosen j q ≡ false

  -- what is followed is left, or is that no alternative holds
  is_which : (c : C) → F c → Contains left c ⊎ ((c ≡ none) × ((d : C) × is_cause i r d × (is_alternative d ≡ true)) × NoneChosen)
  is_which c (IsFollowed.other cause is) = inl (is_in_left c cause (other_left c is))
  is_which c (IsFollowed.alternative {j = j} {q = q} cause is to e) = inl (is_in_left c cause (chosen_left c j q to e))
  is_which c (IsFollowed.unchosen {c = d} cause is all) = inr (refl, (d, cause, is), all)

  by_lead : (c : C) → is_cause i r c → is_alternative c ≡ true → (o : Option (ℕ × ℕ)) → leads_to c ≡ o → leads_into chosen o ≡ true → NoneChosen → ⊥
  by_lead c cause is None to e all = no false refl e
  by_lead c cause is (Some q) to e all = no (chosen q.0 q.1) (all c q.0 q.1 cause is to) e

  -- an alternative that is left leads to a chosen pair
  left_chosen : (c : C) → is_cause i r c → is_alternative c ≡ true → p c ≡ true → NoneChosen → ⊥
  left_chosen c cause is e all = by_lead c cause is (leads_to c) refl (ap (λ b. not b || leads_into chosen (leads_to c)) (sym is) ∙ e) all

  module _ (any : HasAlternative leads_to is_alternative cs false ⊎ HasAlternative leads_to is_alternative left true) where
    completes : (c : C) → F c → Contains left c
    completes c f = ⊎_elim
        (λ (h : Contains left c). h)
        (λ (h : (c ≡ none) × ((d : C) × is_cause i r d × (is_alternative d ≡ true)) × NoneChosen). absurd (⊎_elim
        (λ (a : HasAlternative leads_to is_alternative cs false).
        let d = h.1.0 in
        let has = causes.complete d h.1.1 in
        no (is_alternative d) (a has.0 d (contained cs d has)) h.1.2)
        (λ (a : HasAlternative leads_to is_alternative left true).
        let l = left_cause a.0 a.1 a.2 in
        left_chosen a.1 l.0 a.3 l.1 h.2)
        any))
        (is_which c f)

    pub left_followed : AreCauses F left
    left_followed = record {
      sound = λ k c at. let h = left_cause k c at in follows c h.0 h.1;
      complete = completes;
      once = left_once p cs causes.once;
      some = ⊎_elim
          (λ (a : HasAlternative leads_to is_alternative cs false).
          let x = is_there cs 0 causes.some in
          let h = is_left p cs 0 x.0 x.1 (other_left x.0 (a 0 x.0 x.1)) in
          let l = slice_get_within left h.0 x.0 h.1 in omega arith)
          (λ (a : HasAlternative leads_to is_alternative left true). let l = slice_get_within left a.0 a.1 a.2 in omega arith)
          any;
    }

  module _ (some : HasAlternative leads_to is_alternative cs true) (gone : HasAlternative leads_to is_alternative left false) where
    none_chosen : NoneChosen
    none_chosen d j q cause is to = not_yes (chosen j q) (λ e.
        let h = is_in_left d cause (chosen_left d j q to e) in
        no (is_alternative d) (gone h.0 d (contained left d h)) is)

    abbrev pub told : List C
    told = left ++ none ∷ []

    none_followed : F none
    none_followed = IsFollowed.unchosen (causes.sound some.0 some.1 some.2) some.3 none_chosen

    not_none : (k : ℕ) (c : C) → slice_get left k ≡ Some c → c ≡ none → ⊥
    not_none k c at e = alone some.1 (causes.sound some.0 some.1 some.2) some.3 (subst (is_cause i r) e (left_cause k c at).0)

    pub none_told : AreCauses F told
    none_told = record {
      sound = λ k c at. ⊎_elim
          (λ (h : slice_get left k ≡ Some c). let l = left_cause k c h in follows c l.0 l.1)
          (λ (h : (k ≡ length left) × (c ≡ none)). subst F (sym h.1) none_followed)
          (at_either left none k c at);
      complete = λ c f. ⊎_elim
          (λ (h : Contains left c). contains told h.0 c (at_front left (none ∷ []) h.0 c (contained left c h)))
          (λ (h : (c ≡ none) × ((d : C) × is_cause i r d × (is_alternative d ≡ true)) × NoneChosen). contains told (length left) c (at_end left none ∙ ap (λ x. Some x) (sym h.0)))
          (is_which c f);
      once = λ j k c a b. ⊎_elim
          (λ (h : slice_get left j ≡ Some c). ⊎_elim
          (λ (m : slice_get left k ≡ Some c). left_once p cs causes.once j k c h m)
          (λ (m : (k ≡ length left) × (c ≡ none)). absurd (not_none j c h m.1))
          (at_either left none k c b))
          (λ (h : (j ≡ length left) × (c ≡ none)). ⊎_elim
          (λ (m : slice_get left k ≡ Some c). absurd (not_none k c m h.1))
          (λ (m : (k ≡ length left) × (c ≡ none)). h.0 ∙ sym m.0)
          (at_either left none k c b))
          (at_either left none j c a);
      some = let l = length_more left none in omega arith;
    }
