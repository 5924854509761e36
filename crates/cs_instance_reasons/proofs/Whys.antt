-- Causes over numbers are the causes by the meaning.
use Rattle.std.proofs.Common.{◌≡◌, ℕ, zero, suc, ◌<◌, Bool, true, false, List, [], ◌∷◌, length, Some, sym, ◌∙◌, subst, slice_get, bytes_eq, if◌then◌else◌, lt_trans}
use Rattle.std.specs.List.{AllByRecursion as Each}
use Rattle.std.proofs.lemmas.Option.{same_Some, slice_get_within}
use Rattle.cs_document.specs.Document.{Document, Entry, under}
use Rattle.cs_document.specs.Opened.{Opened}
use Rattle.cs_document.specs.Inside.{InsideBelow, map_opened}
use Rattle.cs_flat.specs.Nodes.{node_at}
use Rattle.cs_flat.specs.Items.{AreItems}
use Rattle.cs_flat.specs.Listed.{values}
use Rattle.cs_table.specs.Judged.{AllVerdicts}
use Rattle.cs_package.specs.Environment.{Environment}
use Rattle.cs_package.specs.Expression.{Declaration, is_every}
use Rattle.cs_instance_reasons.specs.Causes.{Cause, part, alternative, member, element, unmet, few, many, no_alternative, missing, extra, IsUnder, IsCause, of_test, of_part, of_alternative, of_none, of_kind, of_member, of_missing, of_extra, of_list_kind, of_front, of_rest, of_few, of_many}
use Rattle.cs_instance.specs.Constraint.{Constraint}
use Rattle.cs_instance.specs.Instance.{Rule}
use Rattle.cs_instance.specs.Numbering.{PartsBelow, rule_at, map_constraint, IsNumbering}
use Rattle.cs_instance_reasons.specs.Why.{IsCauseOf, map_cause}
use Rattle.cs_instance_reasons.proofs.Leaves.{Refuses, refuses, place_of}
use Rattle.cs_instance_reasons.proofs.Carried.{carried, comes}

-- ---- numbers in range

each_at : {X : Type 0} (P : X → Type 0) (xs : List X) (k : ℕ) (x : X) → Each P xs → slice_get xs k ≡ Some x → P x
each_at P [] k x h e = cc
each_at P (y ∷ xs) zero x h e = subst P (same_Some y x e) h.0
each_at P (y ∷ xs) (suc k) x h e = each_at P xs k x h.1 e

each_under : (i : ℕ) (k : List ℕ) (ms : List (Entry ℕ)) (y : ℕ) → Each (λ (m : Entry ℕ). m.1 < i) ms → under k ms ≡ Some y → y < i
each_under i k [] y h e = cc
each_under i k (m ∷ ms) y h e = by (bytes_eq k m.0) (each_under i k ms y h.1) e
  where
    by : (b : Bool) → (under k ms ≡ Some y → y < i) → (if b then Some m.1 else under k ms) ≡ Some y → y < i
    by true next e = subst (λ n. n < i) (same_Some m.1 y e) h.0
    by false next e = next e

under_below : (b : Bool) (l k : List ℕ) (i y : ℕ) (ms : List (Entry ℕ)) → Each (λ (m : Entry ℕ). m.1 < i) ms → IsUnder b l k y ms → y < i
under_below true l k i y ms h u = let at = place_of ms (k, y) u in each_at (λ (m : Entry ℕ). m.1 < i) ms at.0 (k, y) h at.1
under_below false l k i y ms h u = each_under i k ms y h u.1

-- the rule that a cause leads to is below m, and the item below i
abbrev pub LeadsBelow : ℕ → ℕ → Cause ℕ ℕ ℕ → Type 0
LeadsBelow i m (part k q) = q < m
LeadsBelow i m (alternative k q) = q < m
LeadsBelow i m (member j k y q) = (y < i) × (q < m)
LeadsBelow i m (element k y q) = (y < i) × (q < m)
LeadsBelow i m c = Unit {0}

pub leads_below : {here : ℕ → Bool} {inside : ℕ → ℕ → Bool} {a : Constraint ℕ ℕ} {x : Opened ℕ} {c : Cause ℕ ℕ ℕ} (i r m : ℕ) → r < m → PartsBelow r m a → InsideBelow i x → IsCause here inside a x c → LeadsBelow i m c
leads_below i r m l b w (of_test e) = tt
leads_below i r m l b w (of_part {rs = rs} {k = k} {r = q} e f) = lt_trans (each_at (λ q. q < r) rs k q b e) l
leads_below i r m l b w (of_alternative {rs = rs} {k = k} {r = q} e f) = lt_trans (each_at (λ q. q < r) rs k q b e) l
leads_below i r m l b w of_none = tt
leads_below i r m l b w (of_kind e) = tt
leads_below i r m l b w (of_member {ds = ds} {ms = ms} {j = j} {d = d} {k = k} {y = y} e u f) =
    (under_below (is_every d.mark) d.label k i y ms w u, each_at (λ (d : Declaration ℕ). d.value < m) ds j d b e)
leads_below i r m l b w (of_missing e h none) = tt
leads_below i r m l b w (of_extra h f) = tt
leads_below i r m l b w (of_list_kind e) = tt
leads_below i r m l b w (of_front {es = es} {ys = ys} {k = k} {e = q} {y = y} e t f) = (each_at (λ y. y < i) ys k y w t, each_at (λ q. q < m) es k q b.0 e)
leads_below i r m l b w (of_rest {ys = ys} {k = k} {y = y} n t f) = (each_at (λ y. y < i) ys k y w t, b.1)
leads_below i r m l b w (of_few n) = tt
leads_below i r m l b w (of_many n) = tt

-- ---- the meaning of a table

module _ (E : Environment) (I : Rule → Document → Bool) (all : List Rule) (asked : List (Constraint ℕ ℕ)) (numbering : IsNumbering E all asked) (xs : List (Opened ℕ)) (are : AreItems (values xs) xs)
    (f : AllVerdicts) (verdict : (i r : ℕ) → i < length xs → r < length all → f i r ≡ I (rule_at all r) (node_at (values xs) i)) where
  abbrev value : ℕ → Document
  value i = node_at (values xs) i

  abbrev rule : ℕ → Rule
  rule r = rule_at all r

  -- the cause that one over numbers is
  abbrev pub meant : Cause ℕ ℕ ℕ → Cause Document Rule Rule
  meant c = map_cause value rule rule c

  module _ (i : ℕ) (within : i < length xs) where
    meant_refuses : (c : Cause ℕ ℕ ℕ) → LeadsBelow i (length all) c → Refuses (f i) f c → Refuses (λ s. I s (value i)) (λ y s. I s y) (meant c)
    meant_refuses (part k q) b refused = sym (verdict i q within b) ∙ refused
    meant_refuses (alternative k q) b refused = sym (verdict i q within b) ∙ refused
    meant_refuses (member j k y q) b refused = sym (verdict y q (lt_trans b.0 within) b.1) ∙ refused
    meant_refuses (element k y q) b refused = sym (verdict y q (lt_trans b.0 within) b.1) ∙ refused
    meant_refuses unmet b refused = tt
    meant_refuses few b refused = tt
    meant_refuses many b refused = tt
    meant_refuses no_alternative b refused = tt
    meant_refuses (missing j) b refused = tt
    meant_refuses (extra k) b refused = tt

    table_refuses : (c : Cause ℕ ℕ ℕ) → LeadsBelow i (length all) c → Refuses (λ s. I s (value i)) (λ y s. I s y) (meant c) → Refuses (f i) f c
    table_refuses (part k q) b refused = verdict i q within b ∙ refused
    table_refuses (alternative k q) b refused = verdict i q within b ∙ refused
    table_refuses (member j k y q) b refused = verdict y q (lt_trans b.0 within) b.1 ∙ refused
    table_refuses (element k y q) b refused = verdict y q (lt_trans b.0 within) b.1 ∙ refused
    table_refuses unmet b refused = tt
    table_refuses few b refused = tt
    table_refuses many b refused = tt
    table_refuses no_alternative b refused = tt
    table_refuses (missing j) b refused = tt
    table_refuses (extra k) b refused = tt

    -- what is refused by the meaning, with the verdicts of the meaning in place of a table
    whole_refuses : (c : Cause ℕ ℕ ℕ) → Refuses (λ s. I s (value i)) (λ y s. I s y) (meant c) → Refuses (λ q. I (rule q) (value i)) (λ y q. I (rule q) (value y)) c
    whole_refuses (part k q) refused = refused
    whole_refuses (alternative k q) refused = refused
    whole_refuses (member j k y q) refused = refused
    whole_refuses (element k y q) refused = refused
    whole_refuses unmet refused = tt
    whole_refuses few refused = tt
    whole_refuses many refused = tt
    whole_refuses no_alternative refused = tt
    whole_refuses (missing j) refused = tt
    whole_refuses (extra k) refused = tt

  module _ (i r : ℕ) (a : Constraint ℕ ℕ) (x : Opened ℕ) (at_rule : slice_get asked r ≡ Some a) (at_item : slice_get xs i ≡ Some x) where
    within_items : i < length xs
    within_items = slice_get_within xs i x at_item

    within_rules : r < length all
    within_rules = subst (λ n. r < n) numbering.count (slice_get_within asked r a at_rule)

    pub cause_below : {here : ℕ → Bool} {inside : ℕ → ℕ → Bool} {c : Cause ℕ ℕ ℕ} → IsCause here inside a x c → LeadsBelow i (length all) c
    cause_below is = leads_below i r (length all) within_rules (numbering.below r a at_rule) (are.lower i x at_item) is

    -- a cause over numbers is one by the meaning
    pub cause_meant : (c : Cause ℕ ℕ ℕ) → IsCause (f i) f a x c → IsCauseOf E I (rule r) (value i) (meant c)
    cause_meant c is =
        let refused = meant_refuses i within_items c (cause_below is) (refuses (f i) f is) in
        let there = carried value rule rule {here' = λ s. I s (value i)} {inside' = λ y s. I s y} is refused in
        rw (numbering.asks r a at_rule, are.node i x at_item) there

    -- and each by the meaning comes from one
    pub cause_from : (k : Cause Document Rule Rule) → IsCauseOf E I (rule r) (value i) k → (c : Cause ℕ ℕ ℕ) × IsCause (f i) f a x c × (meant c ≡ k)
    cause_from k is =
        let there : IsCause (λ s. I s (value i)) (λ y s. I s y) (map_constraint rule rule a) (map_opened value x) k = rw (← numbering.asks r a at_rule, ← are.node i x at_item) is in
        let from = comes value rule rule (λ s. I s (value i)) (λ y s. I s y) a x k there in
        let refused = subst (Refuses (λ s. I s (value i)) (λ y s. I s y)) (sym from.same) (refuses (λ s. I s (value i)) (λ y s. I s y) is) in
        let b = cause_below (from.is (λ q. I (rule q) (value i)) (λ y q. I (rule q) (value y)) (whole_refuses i within_items from.cause refused)) in
        (from.cause, from.is (f i) f (table_refuses i within_items from.cause b refused), from.same)
