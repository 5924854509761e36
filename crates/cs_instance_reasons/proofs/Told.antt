-- What is told over numbers is told by the meaning.
use Rattle.std.proofs.Common.{◌≡◌, ℕ, zero, suc, ◌<◌, Bool, true, false, true≢false, not, ◌||◌, List, [], ◌∷◌, map, take, length, Option, Some, None, refl, sym, ap, ◌∙◌, subst, slice_get, inl, inr}
use Rattle.std.specs.List.{list_any, AllByRecursion as Each}
use Rattle.std.proofs.lemmas.Bool.{or_parts}
use Rattle.cs_document.specs.Document.{Document}
use Rattle.cs_document.specs.Opened.{Opened, opened}
use Rattle.cs_flat.specs.Nodes.{node_at}
use Rattle.cs_flat.specs.Items.{AreItems}
use Rattle.cs_flat.specs.Listed.{values}
use Rattle.cs_reasons.specs.Reasons.{IsReason, IsFollowed, other, alternative as chosen_one, unchosen}
use Rattle.cs_reasons.specs.Told.{pair_of, pair_at, entry_of, AreReasons, chain_to}
use Rattle.cs_reasons.specs.declared.reasons.Reason.{Reason}
use Rattle.cs_reasons.specs.declared.reasons.Reasons.{Reasons}
use Rattle.cs_rules.proofs.Judged.{found_within}
use Rattle.cs_table.specs.Judged.{AllVerdicts}
use Rattle.cs_package.specs.Environment.{Environment}
use Rattle.cs_instance_reasons.specs.Causes.{Cause, alternative, no_alternative, IsCause, of_alternative}
use Rattle.cs_instance.specs.Constraint.{Constraint, any_of, is_satisfied}
use Rattle.cs_instance.specs.Instance.{Rule, node, constraint_of, IsInstance}
use Rattle.cs_instance.specs.Numbering.{rule_at, map_constraint, IsNumbering}
use Rattle.cs_instance_reasons.specs.NumberedCauses.{IsNumberedCause}
use Rattle.cs_instance_reasons.specs.Why.{asked_by, Way, way_of, is_to_alternative, map_cause, IsRefused, IsWhy}
use Rattle.cs_instance_reasons.specs.WhyTold.{ways_along, IsNoneOf, Tells, TellsOf, AreWhys}
use Rattle.cs_instance_reasons.proofs.Carried.{map_at}
use Rattle.cs_instance_reasons.proofs.Reached.{IsSeen, reached_refused, chain_refused}
use Rattle.cs_instance_reasons.proofs.Refusals.{refused_is_false}
use Rattle.cs_instance.proofs.Satisfied.{named}
use Rattle.cs_instance_reasons.proofs.Traced.{AreSeen, leads_into_one, why_told, leaf_meant}

from_not : (b : Bool) → not b ≡ true → b ≡ false
from_not true e = absurd (true≢false (sym e))
from_not false e = refl

from_take : {X : Type 0} (n : ℕ) (xs : List X) (k : ℕ) (x : X) → slice_get (take n xs) k ≡ Some x → slice_get xs k ≡ Some x
from_take zero xs k x e = cc
from_take (suc n) [] k x e = cc
from_take (suc n) (y ∷ xs) zero x e = e
from_take (suc n) (y ∷ xs) (suc k) x e = from_take n xs k x e

module _ (E : Environment) (I : Rule → Document → Bool) (all : List Rule) (asked : List (Constraint ℕ ℕ)) (numbering : IsNumbering E all asked) (xs : List (Opened ℕ)) (are : AreItems (values xs) xs)
    (f : AllVerdicts) (verdict : (i r : ℕ) → i < length xs → r < length all → f i r ≡ I (rule_at all r) (node_at (values xs) i)) where
  abbrev value : ℕ → Document
  value i = node_at (values xs) i

  abbrev rule : ℕ → Rule
  rule r = rule_at all r

  module _ {C : Type 0} (leads_to : C → Option (ℕ × ℕ)) (meaning : ℕ → C → Cause Document Rule Rule) (i r : ℕ) (whole : I (rule r) (value i) ≡ false) (full : Bool) (is_cause : ℕ → ℕ → C → Type 0)
      (steps : (j q : ℕ) (c : C) (k s : ℕ) → is_cause j q c → leads_to c ≡ Some (k, s) → (k : Cause ℕ ℕ ℕ) × IsNumberedCause asked xs f j q k × IsSeen all xs leads_to meaning j c k)
      (leaves : (w : List Way) (j q : ℕ) (c : C) → IsRefused E I (rule r) (value i) w (rule q) (value j) → is_cause j q c → leads_to c ≡ None → Tells E I (rule r) (value i) full w (rule q) (value j) (meaning j c)) where
    told_at : (most : ℕ) (rs : Reasons C) → AreReasons leads_to is_cause i r most rs → (k : ℕ) (t : Reason C) → slice_get rs.told.items k ≡ Some t
        → TellsOf E I (rule r) (value i) all (values xs) leads_to meaning i full (ways_along leads_to meaning i (chain_to rs.links.items t.link)) (entry_of rs.links.items t)
    told_at most rs h k t e =
        let links = rs.links.items in
        let l = found_within links t.link (h.within k t e) in
        let reason = h.sound k (entry_of links t) (from_take most h.all k (entry_of links t) (ap (λ es. slice_get es k) (sym h.told) ∙ map_at (entry_of links) rs.told.items k t e)) in
        let chain = chain_refused E I all asked numbering xs are f verdict leads_to meaning is_cause steps i r whole links h.linked t.link l.0 l.1 in
        let pair : pair_at links t.link ≡ ((l.0).item, (l.0).rule) = ap pair_of l.1 in
        let refused = subst (λ (p : ℕ × ℕ). IsRefused E I (rule r) (value i) (ways_along leads_to meaning i (chain_to links t.link)) (rule p.1) (value p.0)) (sym pair) chain.0 in
        leaves (ways_along leads_to meaning i (chain_to links t.link)) (pair_at links t.link).0 (pair_at links t.link).1 t.cause refused reason.cause reason.leaf

    sound_at : (e : (ℕ × ℕ) × C) → IsReason leads_to is_cause i r e → (w : List Way) × TellsOf E I (rule r) (value i) all (values xs) leads_to meaning i full w e
    sound_at e h =
        let chain = reached_refused E I all asked numbering xs are f verdict leads_to meaning is_cause steps i r whole h.reached in
        (ways_along leads_to meaning i chain.0, leaves (ways_along leads_to meaning i chain.0) e.0.0 e.0.1 e.1 (chain.1).0 h.cause h.leaf)

  module _ {C : Type 0} (leads_to : C → Option (ℕ × ℕ)) (meaning : ℕ → C → Cause Document Rule Rule) (is_cause : ℕ → ℕ → C → Type 0) (see : AreSeen leads_to meaning is_cause all asked xs f)
      (i r : ℕ) (within_items : i < length xs) (within_rules : r < length all) (whole : I (rule r) (value i) ≡ false) where
    alone : (w : List Way) (j q : ℕ) (c : C) → IsRefused E I (rule r) (value i) w (rule q) (value j) → is_cause j q c → leads_to c ≡ None → IsWhy E I (rule r) (value i) w (rule q) (value j) (meaning j c)
    alone w j q c h is leaf =
        let s = see.seen j q c is in
        let m = leaf_meant E I all asked numbering xs are f verdict leads_to meaning j q c leaf s.0 s.1 s.2 in
        record { refused = h; cause = m.0; leaf = m.1 }

    -- where all alternatives are followed
    pub whys_of_all : (most : ℕ) (rs : Reasons C) → AreReasons leads_to is_cause i r most rs → AreWhys E I (rule r) (value i) all (values xs) leads_to meaning i true most rs
    whys_of_all most rs h = record {
      told = told_at leads_to meaning i r whole true is_cause (λ j q c k s is e. see.seen j q c is) alone most rs h;
      all = h.all;
      sound = λ k e at. sound_at leads_to meaning i r whole true is_cause (λ j q c k s is e. see.seen j q c is) alone e (h.sound k e at);
      once = h.once;
      in_order = h.in_order;
      complete = λ w s x c why e. let t = why_told E I all asked numbering xs are f verdict leads_to meaning is_cause see i r within_items within_rules is_cause (λ j q c is n. is) why in (t.entry, h.complete t.entry t.reason, t.rule_is, t.value_is, t.cause_is);
      first = h.told;
      count = h.count;
      some = h.some;
    }

    -- where the closest ones are
    module _ (instance : IsInstance E I) (is_alternative : C → Bool) (none : C) (chosen : AllVerdicts) (leaf : leads_to none ≡ None) (means : (j : ℕ) → meaning j none ≡ no_alternative)
        (shows : (j : ℕ) (c : C) (k : Cause ℕ ℕ ℕ) → IsSeen all xs leads_to meaning j c k → is_alternative c ≡ true → (n : ℕ) × (s : ℕ) × (k ≡ alternative n s)) where
      abbrev Followed : ℕ → ℕ → C → Type 0
      Followed = IsFollowed leads_to is_cause is_alternative none chosen

      followed_steps : (j q : ℕ) (c : C) (k s : ℕ) → Followed j q c → leads_to c ≡ Some (k, s) → (k : Cause ℕ ℕ ℕ) × IsNumberedCause asked xs f j q k × IsSeen all xs leads_to meaning j c k
      followed_steps j q c k s (other is alt) e = see.seen j q c is
      followed_steps j q c k s (chosen_one is alt to chose) e = see.seen j q c is
      followed_steps j q c k s (unchosen is alt rest) e = cc

      asks_one_of : {j : ℕ} {a : Constraint ℕ ℕ} {x : Opened ℕ} {n s : ℕ} → IsCause (f j) f a x (alternative n s) → (rs : List ℕ) × (a ≡ any_of rs)
      asks_one_of (of_alternative {rs = rs} e no_instance) = (rs, refl)

      none_any : (x : Document) (rs : List Rule) → list_any (λ s. I s x) rs ≡ false → Each (λ s. I s x ≡ false) rs
      none_any x [] e = tt
      none_any x (s ∷ rs) e = let h = or_parts (I s x) (list_any (λ t. I t x) rs) e in (h.0, none_any x rs h.1)

      none_of : (w : List Way) (j q : ℕ) (c : C) → IsRefused E I (rule r) (value i) w (rule q) (value j) → is_cause j q c → is_alternative c ≡ true → IsNoneOf E I (rule r) (value i) w (rule q) (value j)
      none_of w j q c h is alt =
          let s = see.seen j q c is in
          let k = shows j c s.0 s.2 alt in
          let one = asks_one_of {j = j} (subst (λ d. IsCause (f j) f (s.1).asks (s.1).value d) k.2 (s.1).cause) in
          let asks : asked_by E (rule q) ≡ any_of (map rule one.0) = numbering.asks q (s.1).asks (s.1).at_rule ∙ ap (map_constraint rule rule) one.1 in
          let x = value j in
          let verdict : is_satisfied (λ s. I s x) (λ y s. I s y) (any_of (map rule one.0)) (opened x) ≡ false =
          ap (λ a. is_satisfied (λ s. I s x) (λ y s. I s y) a (opened x)) (sym asks) ∙ named (λ p. p) node (λ s. I s x) (λ y s. I s y) (constraint_of E (rule q)) (opened x)
          ∙ sym (instance (rule q) x) ∙ refused_is_false E I (rule r) (value i) h in
          record { refused = h; alternatives = map rule one.0; asks = asks; none = none_any x (map rule one.0) verdict }

      followed_leaves : (w : List Way) (j q : ℕ) (c : C) → IsRefused E I (rule r) (value i) w (rule q) (value j) → Followed j q c → leads_to c ≡ None → Tells E I (rule r) (value i) false w (rule q) (value j) (meaning j c)
      followed_leaves w j q c h (other is alt) e = inl (alone w j q c h is e)
      followed_leaves w j q c h (chosen_one is alt to chose) e = cc
      followed_leaves w j q _ h (unchosen {c = c} is alt rest) e = inr (none_of w j q c h is alt, means j)

      -- what leads into no alternative is followed
      kept_if : (j q : ℕ) (c : C) → is_cause j q c → leads_into_one (way_of (meaning j c)) ≡ false → (b : Bool) → is_alternative c ≡ b → Followed j q c
      kept_if j q c is n false e = other is e
      kept_if j q c is n true e =
          let s = see.seen j q c is in
          let k = shows j c s.0 s.2 e in
          let wrong : leads_into_one (way_of (meaning j c)) ≡ true = ap (λ d. leads_into_one (way_of d)) ((s.2).means ∙ ap (map_cause value rule rule) k.2) in
          absurd (true≢false (sym wrong ∙ n))

      kept : (j q : ℕ) (c : C) → is_cause j q c → leads_into_one (way_of (meaning j c)) ≡ false → Followed j q c
      kept j q c is n = kept_if j q c is n (is_alternative c) refl

      none_in : (w : List Way) → (false || not (list_any is_to_alternative w)) ≡ true → list_any is_to_alternative w ≡ false
      none_in w e = from_not (list_any is_to_alternative w) e

      pub whys_of_closest : (most : ℕ) (rs : Reasons C) → AreReasons leads_to Followed i r most rs → AreWhys E I (rule r) (value i) all (values xs) leads_to meaning i false most rs
      whys_of_closest most rs h = record {
        told = told_at leads_to meaning i r whole false Followed followed_steps followed_leaves most rs h;
        all = h.all;
        sound = λ k e at. sound_at leads_to meaning i r whole false Followed followed_steps followed_leaves e (h.sound k e at);
        once = h.once;
        in_order = h.in_order;
        complete = λ w s x c why e.
            let t = why_told E I all asked numbering xs are f verdict leads_to meaning is_cause see i r within_items within_rules Followed kept why in
            (t.entry, h.complete t.entry (t.follows (none_in w e)), t.rule_is, t.value_is, t.cause_is);
        first = h.told;
        count = h.count;
        some = h.some;
      }

      pub same_all : (most : ℕ) (rs : Reasons C) (h : AreReasons leads_to Followed i r most rs) → h.all ≡ (whys_of_closest most rs h).all
      unfolding whys_of_closest
      same_all most rs h = refl
