-- Chains of causes over numbers are the chains by the meaning.
use Rattle.std.proofs.Common.{◌≡◌, ℕ, zero, suc, ◌+◌, ◌<◌, ◌≤◌, Bool, false, List, [], ◌∷◌, ◌++◌, length, Option, Some, None, option_map, refl, sym, ap, ◌∙◌, subst, arith, slice_get, le_of_lt}
use Rattle.std.specs.List.{cons_option}
use Rattle.std.proofs.lemmas.Option.{same_Some, slice_get_within}
use Rattle.cs_document.specs.Document.{Document}
use Rattle.cs_document.specs.Opened.{Opened}
use Rattle.cs_flat.specs.Nodes.{node_at}
use Rattle.cs_flat.specs.Items.{AreItems}
use Rattle.cs_flat.specs.Listed.{values}
use Rattle.cs_reasons.specs.Reasons.{IsReached, first, next}
use Rattle.cs_reasons.specs.Told.{pair_of, AreLinked, IsUnder, chain_over, chain_in, chain_to}
use Rattle.cs_reasons.specs.declared.reasons.Link.{Link}
use Rattle.cs_reasons.specs.declared.reasons.Up.{Up}
use Rattle.cs_rules.proofs.Judged.{found_within}
use Rattle.cs_table.specs.Judged.{AllVerdicts}
use Rattle.cs_package.specs.Environment.{Environment}
use Rattle.cs_instance_reasons.specs.Causes.{Cause, part, alternative, member, element, unmet, few, many, no_alternative, missing, extra}
use Rattle.cs_instance.specs.Constraint.{Constraint}
use Rattle.cs_instance.specs.Instance.{Rule}
use Rattle.cs_instance.specs.Numbering.{rule_at, IsNumbering}
use Rattle.cs_instance_reasons.specs.NumberedCauses.{IsNumberedCause}
use Rattle.cs_instance_reasons.specs.Why as why
use Rattle.cs_instance_reasons.specs.Why.{Way, to_part, to_alternative, to_member, to_element, way_of, end_of, IsCauseOf, IsRefused, IsWhy, map_cause}
use Rattle.cs_instance_reasons.specs.WhyTold.{item_after, ways_along}
use Rattle.cs_instance_reasons.proofs.Whys.{LeadsBelow, cause_below, cause_meant, cause_from}

-- ---- ends of causes

module _ {A B D E : Type 0} (h : A → B) (f : D → E) where
  pub same_way : (c : Cause A D D) → way_of (map_cause h f f c) ≡ way_of c
  same_way (part k r) = refl
  same_way (alternative k r) = refl
  same_way (member j k y e) = refl
  same_way (element k y e) = refl
  same_way unmet = refl
  same_way few = refl
  same_way many = refl
  same_way no_alternative = refl
  same_way (missing j) = refl
  same_way (extra k) = refl

  abbrev pub end_named : D × A → E × B
  end_named e = (f e.0, h e.1)

  pub same_end : (x : A) (c : Cause A D D) → end_of (h x) (map_cause h f f c) ≡ option_map end_named (end_of x c)
  same_end x (part k r) = refl
  same_end x (alternative k r) = refl
  same_end x (member j k y e) = refl
  same_end x (element k y e) = refl
  same_end x unmet = refl
  same_end x few = refl
  same_end x many = refl
  same_end x no_alternative = refl
  same_end x (missing j) = refl
  same_end x (extra k) = refl

-- what leads somewhere has a way
pub way_if : {A D : Type 0} (x : A) (c : Cause A D D) (e : D × A) → end_of x c ≡ Some e → (v : Way) × (way_of c ≡ Some v)
way_if x (part k r) e is = (to_part k, refl)
way_if x (alternative k r) e is = (to_alternative k, refl)
way_if x (member j k y r) e is = (to_member j k, refl)
way_if x (element k y r) e is = (to_element k, refl)
way_if x unmet e is = cc
way_if x few e is = cc
way_if x many e is = cc
way_if x no_alternative e is = cc
way_if x (missing j) e is = cc
way_if x (extra k) e is = cc

pub no_way_if : {A D : Type 0} (x : A) (c : Cause A D D) → end_of x c ≡ None → way_of c ≡ None
no_way_if x (part k r) is = cc
no_way_if x (alternative k r) is = cc
no_way_if x (member j k y r) is = cc
no_way_if x (element k y r) is = cc
no_way_if x unmet is = refl
no_way_if x few is = refl
no_way_if x many is = refl
no_way_if x no_alternative is = refl
no_way_if x (missing j) is = refl
no_way_if x (extra k) is = refl

pub no_end_if : {A D : Type 0} (x : A) (c : Cause A D D) → way_of c ≡ None → end_of x c ≡ None
no_end_if x (part k r) is = cc
no_end_if x (alternative k r) is = cc
no_end_if x (member j k y r) is = cc
no_end_if x (element k y r) is = cc
no_end_if x unmet is = refl
no_end_if x few is = refl
no_end_if x many is = refl
no_end_if x no_alternative is = refl
no_end_if x (missing j) is = refl
no_end_if x (extra k) is = refl

-- an end over numbers is in range
pub end_below : (i m : ℕ) (c : Cause ℕ ℕ ℕ) (q y : ℕ) → LeadsBelow i m c → end_of i c ≡ Some (q, y) → (y ≤ i) × (q < m)
end_below i m (part k r) q y b e = let same = same_Some (r, i) (q, y) e in let at : i ≡ y = ap (λ p. p.1) same in (omega (arith, at), subst (λ n. n < m) (ap (λ p. p.0) same) b)
end_below i m (alternative k r) q y b e = let same = same_Some (r, i) (q, y) e in let at : i ≡ y = ap (λ p. p.1) same in (omega (arith, at), subst (λ n. n < m) (ap (λ p. p.0) same) b)
end_below i m (member j k z r) q y b e = let same = same_Some (r, z) (q, y) e in (le_of_lt (subst (λ n. n < i) (ap (λ p. p.1) same) b.0), subst (λ n. n < m) (ap (λ p. p.0) same) b.1)
end_below i m (element k z r) q y b e = let same = same_Some (r, z) (q, y) e in (le_of_lt (subst (λ n. n < i) (ap (λ p. p.1) same) b.0), subst (λ n. n < m) (ap (λ p. p.0) same) b.1)
end_below i m unmet q y b e = cc
end_below i m few q y b e = cc
end_below i m many q y b e = cc
end_below i m no_alternative q y b e = cc
end_below i m (missing j) q y b e = cc
end_below i m (extra k) q y b e = cc

-- the pair of an item and a rule, of an end
abbrev pub turned : ℕ × ℕ → ℕ × ℕ
turned e = (e.1, e.0)

pub turned_back : (o : Option (ℕ × ℕ)) (j q : ℕ) → option_map turned o ≡ Some (j, q) → o ≡ Some (q, j)
turned_back None j q e = cc
turned_back (Some p) j q e = let same = same_Some (turned p) (j, q) e in ap (λ s. Some (turned s)) same

-- ---- causes of the code

module _ (all : List Rule) (xs : List (Opened ℕ)) where
  -- the cause by the meaning that one over numbers is
  abbrev pub named : Cause ℕ ℕ ℕ → Cause Document Rule Rule
  named c = map_cause (node_at (values xs)) (rule_at all) (rule_at all) c

  -- c is the cause k of the item i
  pub record IsSeen {C : Type 0} (leads_to : C → Option (ℕ × ℕ)) (meaning : ℕ → C → Cause Document Rule Rule) (i : ℕ) (c : C) (k : Cause ℕ ℕ ℕ) : Type 0 where
    pub means : meaning i c ≡ named k
    pub leads : leads_to c ≡ option_map turned (end_of i k)

module _ {C : Type 0} (leads_to : C → Option (ℕ × ℕ)) where
  -- the item at the end of a chain
  abbrev pub last_item : ℕ → List C → ℕ
  last_item i [] = i
  last_item i (c ∷ cs) = last_item (item_after i (leads_to c)) cs

  pub last_more : (i : ℕ) (cs : List C) (c : C) → last_item i (cs ++ c ∷ []) ≡ item_after (last_item i cs) (leads_to c)
  last_more i [] c = refl
  last_more i (d ∷ cs) c = last_more (item_after i (leads_to d)) cs c

module _ {C : Type 0} (leads_to : C → Option (ℕ × ℕ)) (meaning : ℕ → C → Cause Document Rule Rule) where
  onto : (o : Option Way) (ws : List Way) (v : Way) → cons_option o (ws ++ v ∷ []) ≡ cons_option o ws ++ v ∷ []
  onto None ws v = refl
  onto (Some w) ws v = refl

  pub ways_more : (i : ℕ) (cs : List C) (c : C) (v : Way) → way_of (meaning (last_item leads_to i cs) c) ≡ Some v → ways_along leads_to meaning i (cs ++ c ∷ []) ≡ ways_along leads_to meaning i cs ++ v ∷ []
  ways_more i [] c v e = ap (λ o. cons_option o []) e
  ways_more i (d ∷ cs) c v e =
      ap (cons_option (way_of (meaning i d))) (ways_more (item_after i (leads_to d)) cs c v e) ∙ onto (way_of (meaning i d)) (ways_along leads_to meaning (item_after i (leads_to d)) cs) v

module _ (E : Environment) (I : Rule → Document → Bool) (all : List Rule) (asked : List (Constraint ℕ ℕ)) (numbering : IsNumbering E all asked) (xs : List (Opened ℕ)) (are : AreItems (values xs) xs)
    (f : AllVerdicts) (verdict : (i r : ℕ) → i < length xs → r < length all → f i r ≡ I (rule_at all r) (node_at (values xs) i)) where
  abbrev value : ℕ → Document
  value i = node_at (values xs) i

  abbrev rule : ℕ → Rule
  rule r = rule_at all r

  -- a cause over numbers is one by the meaning
  pub numbered_meant : {i r : ℕ} {k : Cause ℕ ℕ ℕ} → IsNumberedCause asked xs f i r k → IsCauseOf E I (rule r) (value i) (named all xs k)
  numbered_meant {i} {r} {k} h = cause_meant E I all asked numbering xs are f verdict i r h.asks h.value h.at_rule h.at_item k h.cause

  pub numbered_below : {i r : ℕ} {k : Cause ℕ ℕ ℕ} → IsNumberedCause asked xs f i r k → LeadsBelow i (length all) k
  numbered_below {i} {r} {k} h = cause_below E I all asked numbering xs are f verdict i r h.asks h.value h.at_rule h.at_item h.cause

  -- and each comes from one
  pub numbered_from : (i r : ℕ) → i < length xs → r < length all → (c : Cause Document Rule Rule) → IsCauseOf E I (rule r) (value i) c → (k : Cause ℕ ℕ ℕ) × IsNumberedCause asked xs f i r k × (named all xs k ≡ c)
  numbered_from i r l m c is =
      let a = found_within asked r (subst (λ n. r < n) (sym numbering.count) m) in
      let x = found_within xs i l in
      let from = cause_from E I all asked numbering xs are f verdict i r a.0 x.0 a.1 x.1 c is in
      (from.0, record { asks = a.0; value = x.0; at_rule = a.1; at_item = x.1; cause = from.1 }, from.2)

  module _ {C : Type 0} (leads_to : C → Option (ℕ × ℕ)) (meaning : ℕ → C → Cause Document Rule Rule) where
    -- what a cause that leads on leads to
    pub record IsStep (i r : ℕ) (c : C) (j q : ℕ) : Type 0 where
      pub told : Cause ℕ ℕ ℕ
      pub is : IsNumberedCause asked xs f i r told
      pub seen : IsSeen all xs leads_to meaning i c told
      pub end : end_of i told ≡ Some (q, j)

    module _ (is_cause : ℕ → ℕ → C → Type 0) (steps : (i r : ℕ) (c : C) (j q : ℕ) → is_cause i r c → leads_to c ≡ Some (j, q) → (k : Cause ℕ ℕ ℕ) × IsNumberedCause asked xs f i r k × IsSeen all xs leads_to meaning i c k) where
      step_of : {i r j q : ℕ} {c : C} → is_cause i r c → leads_to c ≡ Some (j, q) → IsStep i r c j q
      step_of {i} {r} {j} {q} {c} h e =
          let t = steps i r c j q h e in
          record { told = t.0; is = t.1; seen = t.2; end = turned_back (end_of i t.0) j q (sym (t.2).leads ∙ e) }

      module _ (r0 : Rule) (x0 : Document) where
        -- one step more
        one_more : {w : List Way} {i r j q : ℕ} {c : C} → IsRefused E I r0 x0 w (rule r) (value i) → IsStep i r c j q → (v : Way) × (way_of (meaning i c) ≡ Some v) × IsRefused E I r0 x0 (w ++ v ∷ []) (rule q) (value j)
        one_more {w} {i} {r} {j} {q} {c} h s =
            let v = way_if i s.told (q, j) s.end in
            let way : way_of (named all xs s.told) ≡ Some v.0 = same_way value rule s.told ∙ v.1 in
            let end : end_of (value i) (named all xs s.told) ≡ Some (rule q, value j) = same_end value rule i s.told ∙ ap (option_map (end_named value rule)) s.end in
            (v.0, ap way_of s.seen.means ∙ way, why.next h (numbered_meant s.is) way end)

      -- ---- chains from the pair i, r

      module _ (i r : ℕ) (whole : I (rule r) (value i) ≡ false) where
        abbrev Chain : List C → ℕ → ℕ → Type 0
        Chain cs j q = IsRefused E I (rule r) (value i) (ways_along leads_to meaning i cs) (rule q) (value j) × (last_item leads_to i cs ≡ j)

        chain_more : (cs : List C) (j q k s : ℕ) (c : C) → Chain cs j q → is_cause j q c → leads_to c ≡ Some (k, s) → Chain (cs ++ c ∷ []) k s
        chain_more cs j q k s c h is leads =
            let more = one_more (rule r) (value i) h.0 (step_of is leads) in
            let ways = ways_more leads_to meaning i cs c more.0 (ap (λ n. way_of (meaning n c)) h.1 ∙ more.1) in
            (rw ways more.2, last_more leads_to i cs c ∙ ap (item_after (last_item leads_to i cs)) leads)

        -- where causes over numbers lead, chains by the meaning lead
        pub reached_refused : {j q : ℕ} → IsReached leads_to is_cause i r j q → (cs : List C) × Chain cs j q
        reached_refused first = ([], (why.whole whole, refl))
        reached_refused (next {j = j} {q = q} {k = k} {s = s} {c = c} h is leads) =
            let before = reached_refused h in
            (before.0 ++ c ∷ [], chain_more before.0 j q k s c before.1 is leads)

        module _ (links : List (Link C)) (linked : AreLinked leads_to is_cause i r links) where
          chain_at : (n k : ℕ) (l : Link C) → slice_get links k ≡ Some l → length links ≤ k + n → Chain (chain_in n links k) l.item l.rule
          chain_at zero k l e m = let b = slice_get_within links k l e in absurd (omega (arith, b, m))
          chain_at (suc n) k l e m = rw e (by l.up (linked k l e) (λ j b e' m'. chain_at n j b e' m'))
            where
              by : (o : Option (Up C)) → IsUnder leads_to is_cause i r links k (l.item, l.rule) o → ((j : ℕ) (b : Link C) → slice_get links j ≡ Some b → length links ≤ j + n → Chain (chain_in n links j) b.item b.rule)
                  → Chain (chain_over (λ j. chain_in n links j) o) l.item l.rule
              by None u before =
                  let at : l.item ≡ i = ap (λ p. p.0) u in
                  let of : l.rule ≡ r = ap (λ p. p.1) u in
                  (rw (at, of) (why.whole whole), sym at)
              by (Some u) under before =
                  let b = found_within links u.link under.1 in
                  let h = before u.link b.0 b.1 (let lower = under.0 in omega (arith, lower, m)) in
                  let is = subst (λ o. is_cause (pair_of o).0 (pair_of o).1 u.cause) b.1 under.2 in
                  chain_more (chain_in n links u.link) (b.0).item (b.0).rule l.item l.rule u.cause h is under.3

          -- the chain to a link
          pub chain_refused : (k : ℕ) (l : Link C) → slice_get links k ≡ Some l → Chain (chain_to links k) l.item l.rule
          chain_refused k l e = chain_at (length links) k l e (omega arith)
