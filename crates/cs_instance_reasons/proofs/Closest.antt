-- What is told by the code's choice of alternatives is what chains lead to that go into the chosen ones.
use Rattle.std.proofs.Common.{◌≡◌, ℕ, ◌<◌, Bool, true, false, true≢false, List, Option, Some, None, Contains, length, option_map, refl, sym, ap, ◌∙◌, subst, slice_get}
use Rattle.std.proofs.lemmas.Option.{same_Some}
use Rattle.cs_document.specs.Document.{Document}
use Rattle.cs_document.specs.Opened.{Opened}
use Rattle.cs_flat.specs.Listed.{values}
use Rattle.cs_flat.specs.Nodes.{node_at}
use Rattle.cs_reasons.specs.Reasons.{IsReached, IsReason, IsFollowed, first, next, other, alternative as chosen_one, unchosen}
use Rattle.cs_reasons.specs.Told.{AreReasons}
use Rattle.cs_reasons.specs.declared.reasons.Reasons.{Reasons}
use Rattle.cs_table.specs.Judged.{AllVerdicts}
use Rattle.cs_package.specs.Environment.{Environment}
use Rattle.cs_instance_reasons.specs.Causes.{Cause, part, alternative, member, element, unmet, few, many, no_alternative, missing, extra}
use Rattle.cs_instance_reasons.specs.Closest.{IsGoneInto, IsFollowedTo, stay, go, HasNoneChosen, AreOfChosen}
use Rattle.cs_instance.specs.Constraint.{Constraint}
use Rattle.cs_instance.specs.Instance.{Rule}
use Rattle.cs_instance.specs.Numbering.{rule_at, IsNumbering}
use Rattle.cs_instance_reasons.specs.NumberedCauses.{IsNumberedCause}
use Rattle.cs_instance_reasons.specs.Why.{way_of, end_of}
use Rattle.cs_instance_reasons.proofs.Reached.{named, no_end_if, turned, turned_back, IsSeen}
use Rattle.cs_instance_reasons.proofs.Traced.{AreSeen}

module _ (E : Environment) (I : Rule → Document → Bool) (all : List Rule) (asked : List (Constraint ℕ ℕ)) (numbering : IsNumbering E all asked) (xs : List (Opened ℕ))
    (f : AllVerdicts) (verdict : (i r : ℕ) → i < length xs → r < length all → f i r ≡ I (rule_at all r) (node_at (values xs) i))
    {C : Type 0} (leads_to : C → Option (ℕ × ℕ)) (meaning : ℕ → C → Cause Document Rule Rule) (is_cause : ℕ → ℕ → C → Type 0) (see : AreSeen leads_to meaning is_cause all asked xs f)
    (is_alternative : C → Bool) (none : C) (chosen : AllVerdicts) (leaf : leads_to none ≡ None) (means : (j : ℕ) → meaning j none ≡ no_alternative)
    (shows : (j : ℕ) (c : C) (k : Cause ℕ ℕ ℕ) → IsSeen all xs leads_to meaning j c k → is_alternative c ≡ true → (n : ℕ) × (s : ℕ) × (k ≡ alternative n s))
    (shown_by : (j : ℕ) (c : C) (n s : ℕ) → IsSeen all xs leads_to meaning j c (alternative n s) → is_alternative c ≡ true) where
  abbrev Followed : ℕ → ℕ → C → Type 0
  Followed = IsFollowed leads_to is_cause is_alternative none chosen

  abbrev Goes : ℕ → Cause ℕ ℕ ℕ → Type 0
  Goes = IsGoneInto asked xs f chosen

  -- where a cause leads that is an alternative
  led : (j : ℕ) (c : C) (k : Cause ℕ ℕ ℕ) (n s : ℕ) → IsSeen all xs leads_to meaning j c k → k ≡ alternative n s → leads_to c ≡ Some (j, s)
  led j c k n s seen e = seen.leads ∙ ap (λ d. option_map turned (end_of j d)) e

  followed_if : (j q : ℕ) (c : C) (k : Cause ℕ ℕ ℕ) → is_cause j q c → IsSeen all xs leads_to meaning j c k → Goes j k → (b : Bool) → is_alternative c ≡ b → Followed j q c
  followed_if j q c k is seen into false e = other is e
  followed_if j q c k is seen into true e =
      let a = shows j c k seen e in
      chosen_one is e (led j c k a.0 a.1 seen a.2) (subst (Goes j) a.2 into)

  followed : (j q : ℕ) (c : C) (k : Cause ℕ ℕ ℕ) → is_cause j q c → IsSeen all xs leads_to meaning j c k → Goes j k → Followed j q c
  followed j q c k is seen into = followed_if j q c k is seen into (is_alternative c) refl

  -- what is no alternative is gone into
  other_goes : (j : ℕ) (c : C) (k : Cause ℕ ℕ ℕ) → IsSeen all xs leads_to meaning j c k → is_alternative c ≡ false → Goes j k
  other_goes j c (part n s) seen e = tt
  other_goes j c (alternative n s) seen e = absurd (true≢false (sym (shown_by j c n s seen) ∙ e))
  other_goes j c (member i l y s) seen e = tt
  other_goes j c (element n y s) seen e = tt
  other_goes j c unmet seen e = tt
  other_goes j c few seen e = tt
  other_goes j c many seen e = tt
  other_goes j c no_alternative seen e = tt
  other_goes j c (missing i) seen e = tt
  other_goes j c (extra l) seen e = tt

  leaf_goes : (j : ℕ) (k : Cause ℕ ℕ ℕ) → way_of k ≡ None → Goes j k
  leaf_goes j (part n s) e = tt
  leaf_goes j (alternative n s) e = cc
  leaf_goes j (member i l y s) e = tt
  leaf_goes j (element n y s) e = tt
  leaf_goes j unmet e = tt
  leaf_goes j few e = tt
  leaf_goes j many e = tt
  leaf_goes j no_alternative e = tt
  leaf_goes j (missing i) e = tt
  leaf_goes j (extra l) e = tt

  module _ (i r : ℕ) where
    abbrev To : ℕ → ℕ → Type 0
    To = IsFollowedTo asked xs f chosen i r

    reached : {j q : ℕ} → To j q → IsReached leads_to Followed i r j q
    reached stay = first
    reached (go {j = j} {q = q} {k = k} {s = s} {c = c} h is into end) =
        let code = see.shown j q c is in
        next (reached h) (followed j q code.0 c code.1 code.2 into) ((code.2).leads ∙ ap (option_map turned) end)

    one_more : (j q k s : ℕ) (c : C) → To j q → Followed j q c → leads_to c ≡ Some (k, s) → To k s
    one_more j q k s c t (other is alt) e =
        let n = see.seen j q c is in
        go t n.1 (other_goes j c n.0 n.2 alt) (turned_back (end_of j n.0) k s (sym (n.2).leads ∙ e))
    one_more j q k s c t (chosen_one {j = m} {q = p} is alt to chose) e =
        let n = see.seen j q c is in
        let a = shows j c n.0 n.2 alt in
        let same = same_Some (m, p) (j, a.1) (sym to ∙ led j c n.0 a.0 a.1 n.2 a.2) in
        let into : Goes j (alternative a.0 a.1) = subst (λ (x : ℕ × ℕ). chosen x.0 x.1 ≡ true) same chose in
        go t n.1 (subst (Goes j) (sym a.2) into) (turned_back (end_of j n.0) k s (sym (n.2).leads ∙ e))
    one_more j q k s _ t (unchosen is alt rest) e = let x = sym leaf ∙ e in absurd (cc)

    back : {j q : ℕ} → IsReached leads_to Followed i r j q → To j q
    back first = stay
    back (next {j = j} {q = q} {k = k} {s = s} {c = c} h is e) = one_more j q k s c (back h) is e

    module _ (most : ℕ) (rs : Reasons C) (h : AreReasons leads_to Followed i r most rs) where
      leaves : (j q : ℕ) (k : Cause ℕ ℕ ℕ) → To j q → IsNumberedCause asked xs f j q k → way_of k ≡ None → (e : (ℕ × ℕ) × C) × Contains h.all e × (e.0 ≡ (j, q)) × (meaning j e.1 ≡ named all xs k)
      leaves j q k t is way =
          let code = see.shown j q k is in
          let ends = (code.2).leads ∙ ap (option_map turned) (no_end_if j k way) in
          (((j, q), code.0), h.complete ((j, q), code.0) (record { reached = reached t; cause = followed j q code.0 k code.1 code.2 (leaf_goes j k way); leaf = ends }), refl, (code.2).means)

      nones : (j q n s : ℕ) → To j q → IsNumberedCause asked xs f j q (alternative n s) → HasNoneChosen asked xs f chosen j q
          → (e : (ℕ × ℕ) × C) × Contains h.all e × (e.0 ≡ (j, q)) × (meaning j e.1 ≡ no_alternative)
      nones j q n s t is without =
          let code = see.shown j q (alternative n s) is in
          let rest : (d : C) (k p : ℕ) → is_cause j q d → is_alternative d ≡ true → leads_to d ≡ Some (k, p) → chosen k p ≡ false = λ d k p one alt to.
          let m = see.seen j q d one in
          let a = shows j d m.0 m.2 alt in
          let same = same_Some (j, a.1) (k, p) (sym (led j d m.0 a.0 a.1 m.2 a.2) ∙ to) in
          subst (λ (x : ℕ × ℕ). chosen x.0 x.1 ≡ false) same (without a.0 a.1 (subst (IsNumberedCause asked xs f j q) a.2 m.1)) in
          (((j, q), none), h.complete ((j, q), none) (record { reached = reached t; cause = unchosen code.1 (shown_by j code.0 n s code.2) rest; leaf = leaf }), refl, means j)

      pub of_chosen : (r0 : Rule) → slice_get all r ≡ Some r0 → AreOfChosen E I all xs meaning i r0 h.all
      of_chosen r0 at = record {
        asked = asked;
        numbering = numbering;
        root = r;
        found = at;
        verdicts = f;
        by_meaning = verdict;
        chosen = chosen;
        only = λ k e at. back (h.sound k e at).reached;
        leaves = leaves;
        none = nones;
      }
