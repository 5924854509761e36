-- Chains by the meaning are chains of causes over numbers, and so are the reasons that they end in.
use Rattle.std.proofs.Common.{◌≡◌, ℕ, ◌<◌, List, [], ◌∷◌, ◌++◌, Bool, false, length, Option, Some, None, option_map, refl, sym, ap, ◌∙◌, arith}
use Rattle.std.specs.Prelude.{◌||◌}
use Rattle.std.specs.List.{list_any}
use Rattle.std.proofs.lemmas.Bool.{or_parts}
use Rattle.std.proofs.lemmas.List.Folds.{list_any-append}
use Rattle.cs_document.specs.Document.{Document}
use Rattle.cs_document.specs.Opened.{Opened}
use Rattle.cs_flat.specs.Nodes.{node_at}
use Rattle.cs_flat.specs.Items.{AreItems}
use Rattle.cs_flat.specs.Listed.{values}
use Rattle.cs_reasons.specs.Reasons as reasons
use Rattle.cs_reasons.specs.Reasons.{IsReached, IsReason}
use Rattle.cs_table.specs.Judged.{AllVerdicts}
use Rattle.cs_package.specs.Environment.{Environment}
use Rattle.cs_instance_reasons.specs.Causes.{Cause}
use Rattle.cs_instance.specs.Constraint.{Constraint}
use Rattle.cs_instance.specs.Instance.{Rule}
use Rattle.cs_instance.specs.Numbering.{rule_at, IsNumbering}
use Rattle.cs_instance_reasons.specs.NumberedCauses.{IsNumberedCause}
use Rattle.cs_instance_reasons.specs.Why.{Way, way_of, is_to_alternative, end_of, IsCauseOf, IsRefused, whole, next, IsWhy}
use Rattle.cs_instance_reasons.specs.WhyTold.{item_after, ways_along}
use Rattle.cs_instance_reasons.proofs.Carried.{from_some, from_none}
use Rattle.cs_instance_reasons.proofs.Reached.{same_way, end_named, same_end, no_way_if, no_end_if, end_below, turned, IsSeen, last_item, last_more, ways_more, numbered_meant, numbered_below, numbered_from}

-- chains with their causes
module _ {C : Type 0} (leads_to : C → Option (ℕ × ℕ)) (is_cause : ℕ → ℕ → C → Type 0) (i r : ℕ) where
  pub data IsChain : List C → ℕ → ℕ → Type 0 where
    start : IsChain [] i r
    more : {cs : List C} {j q k s : ℕ} {c : C} → IsChain cs j q → is_cause j q c → leads_to c ≡ Some (k, s) → IsChain (cs ++ c ∷ []) k s

  pub reached : {cs : List C} {j q : ℕ} → IsChain cs j q → IsReached leads_to is_cause i r j q
  reached start = reasons.first
  reached (more h is leads) = reasons.next (reached h) is leads

-- whether a cause that leads this way leads into an alternative
abbrev pub leads_into_one : Option Way → Bool
leads_into_one None = false
leads_into_one (Some v) = is_to_alternative v

none_before : (w : List Way) (v : Way) → list_any is_to_alternative (w ++ v ∷ []) ≡ false → (list_any is_to_alternative w ≡ false) × (is_to_alternative v ≡ false)
none_before w v e =
    let p = or_parts (list_any is_to_alternative w) (list_any is_to_alternative (v ∷ [])) (sym (list_any-append is_to_alternative w (v ∷ [])) ∙ e) in
    (p.0, (or_parts (is_to_alternative v) false p.1).0)

-- the causes of the code are those over numbers, each seen as one
pub record AreSeen {C : Type 0} (leads_to : C → Option (ℕ × ℕ)) (meaning : ℕ → C → Cause Document Rule Rule) (is_cause : ℕ → ℕ → C → Type 0) (all : List Rule) (asked : List (Constraint ℕ ℕ)) (xs : List (Opened ℕ)) (f : AllVerdicts) : Type 0 where
  pub seen : (i r : ℕ) (c : C) → is_cause i r c → (k : Cause ℕ ℕ ℕ) × IsNumberedCause asked xs f i r k × IsSeen all xs leads_to meaning i c k
  pub shown : (i r : ℕ) (k : Cause ℕ ℕ ℕ) → IsNumberedCause asked xs f i r k → (c : C) × is_cause i r c × IsSeen all xs leads_to meaning i c k

module _ (E : Environment) (I : Rule → Document → Bool) (all : List Rule) (asked : List (Constraint ℕ ℕ)) (numbering : IsNumbering E all asked) (xs : List (Opened ℕ)) (are : AreItems (values xs) xs)
    (f : AllVerdicts) (verdict : (i r : ℕ) → i < length xs → r < length all → f i r ≡ I (rule_at all r) (node_at (values xs) i)) where
  abbrev value : ℕ → Document
  value i = node_at (values xs) i

  abbrev rule : ℕ → Rule
  rule r = rule_at all r

  module _ {C : Type 0} (leads_to : C → Option (ℕ × ℕ)) (meaning : ℕ → C → Cause Document Rule Rule) (is_cause : ℕ → ℕ → C → Type 0) (see : AreSeen leads_to meaning is_cause all asked xs f) (i r : ℕ) (l : i < length xs) (m : r < length all)
      (followed : ℕ → ℕ → C → Type 0) (kept : (j q : ℕ) (c : C) → is_cause j q c → leads_into_one (way_of (meaning j c)) ≡ false → followed j q c) where
    -- the chain over numbers that a chain by the meaning is
    pub record IsTraced (w : List Way) (s : Rule) (y : Document) : Type 0 where
      pub causes : List C
      pub place : ℕ
      pub number : ℕ
      pub chain : IsChain leads_to is_cause i r causes place number
      pub ways : ways_along leads_to meaning i causes ≡ w
      pub last : last_item leads_to i causes ≡ place
      pub item_within : place < length xs
      pub number_within : number < length all
      pub rule_is : rule number ≡ s
      pub value_is : value place ≡ y
      -- but for alternatives it is one that is followed
      pub follows : list_any is_to_alternative w ≡ false → IsChain leads_to followed i r causes place number

    pub traced : {w : List Way} {s : Rule} {y : Document} → IsRefused E I (rule r) (value i) w s y → IsTraced w s y
    traced (whole e) = record { causes = []; place = i; number = r; chain = start; ways = refl; last = refl; item_within = l; number_within = m; rule_is = refl; value_is = refl; follows = λ e. start }
    traced (next {w = w} {r = q} {s = s} {x = x} {y = y} {c = c} {v = v} h is way end) =
        let t = traced h in
        let here : IsCauseOf E I (rule t.number) (value t.place) c = rw (t.rule_is, t.value_is) is in
        let from = numbered_from E I all asked numbering xs are f verdict t.place t.number t.item_within t.number_within c here in
        let ended : option_map (end_named value rule) (end_of t.place from.0) ≡ Some (s, y) = sym (same_end value rule t.place from.0) ∙ ap (end_of (value t.place)) from.2 ∙ ap (λ d. end_of d c) t.value_is ∙ end in
        let to = from_some (end_named value rule) (end_of t.place from.0) (s, y) ended in
        let code = see.shown t.place t.number from.0 from.1 in
        let b = end_below t.place (length all) from.0 (to.0).0 (to.0).1 (numbered_below E I all asked numbering xs are f verdict from.1) to.1 in
        let leads : leads_to code.0 ≡ Some ((to.0).1, (to.0).0) = (code.2).leads ∙ ap (option_map turned) to.1 in
        let wayed : way_of (meaning t.place code.0) ≡ Some v = ap way_of ((code.2).means ∙ from.2) ∙ way in
        record {
          causes = t.causes ++ code.0 ∷ [];
          place = (to.0).1;
          number = (to.0).0;
          chain = more t.chain code.1 leads;
          ways = ways_more leads_to meaning i t.causes code.0 v (ap (λ n. way_of (meaning n code.0)) t.last ∙ wayed) ∙ ap (λ u. u ++ v ∷ []) t.ways;
          last = last_more leads_to i t.causes code.0 ∙ ap (item_after (last_item leads_to i t.causes)) leads;
          item_within = (let low = b.0 in let high = t.item_within in omega (arith, low, high));
          number_within = b.1;
          rule_is = ap (λ e. e.0) to.2;
          value_is = ap (λ e. e.1) to.2;
          follows = λ e.
              let p = none_before w v e in
              more (t.follows p.0) (kept t.place t.number code.0 code.1 (ap leads_into_one wayed ∙ p.1)) leads;
        }

    -- each reason by the meaning is one over numbers
    pub record IsTold (w : List Way) (s : Rule) (y : Document) (c : Cause Document Rule Rule) : Type 0 where
      pub entry : (ℕ × ℕ) × C
      pub reason : IsReason leads_to is_cause i r entry
      pub rule_is : rule entry.0.1 ≡ s
      pub value_is : value entry.0.0 ≡ y
      pub cause_is : meaning entry.0.0 entry.1 ≡ c
      pub follows : list_any is_to_alternative w ≡ false → IsReason leads_to followed i r entry

    pub why_told : {w : List Way} {s : Rule} {y : Document} {c : Cause Document Rule Rule} → IsWhy E I (rule r) (value i) w s y c → IsTold w s y c
    why_told {c = c} h =
        let t = traced h.refused in
        let here : IsCauseOf E I (rule t.number) (value t.place) c = rw (t.rule_is, t.value_is) h.cause in
        let from = numbered_from E I all asked numbering xs are f verdict t.place t.number t.item_within t.number_within c here in
        let code = see.shown t.place t.number from.0 from.1 in
        let leaf : end_of t.place from.0 ≡ None = no_end_if t.place from.0 (sym (same_way value rule from.0) ∙ ap way_of from.2 ∙ h.leaf) in
        let ends : leads_to code.0 ≡ None = (code.2).leads ∙ ap (option_map turned) leaf in
        let wayed : way_of (meaning t.place code.0) ≡ None = ap way_of ((code.2).means ∙ from.2) ∙ h.leaf in
        record {
          entry = ((t.place, t.number), code.0);
          reason = record { reached = reached leads_to is_cause i r t.chain; cause = code.1; leaf = ends };
          rule_is = t.rule_is;
          value_is = t.value_is;
          cause_is = (code.2).means ∙ from.2;
          follows = λ e. record { reached = reached leads_to followed i r (t.follows e); cause = kept t.place t.number code.0 code.1 (ap leads_into_one wayed); leaf = ends };
        }

  module _ {C : Type 0} (leads_to : C → Option (ℕ × ℕ)) (meaning : ℕ → C → Cause Document Rule Rule) where
    -- a leaf over numbers is one by the meaning
    pub leaf_meant : (i r : ℕ) (c : C) → leads_to c ≡ None → (k : Cause ℕ ℕ ℕ) → IsNumberedCause asked xs f i r k → IsSeen all xs leads_to meaning i c k → IsCauseOf E I (rule r) (value i) (meaning i c) × (way_of (meaning i c) ≡ None)
    leaf_meant i r c leaf k is seen =
        let nowhere : end_of i k ≡ None = from_none turned (end_of i k) (sym seen.leads ∙ leaf) in
        (rw seen.means (numbered_meant E I all asked numbering xs are f verdict is), ap way_of seen.means ∙ same_way value rule k ∙ no_way_if i k nowhere)
