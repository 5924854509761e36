-- Chains of causes over numbers are chains by the meaning, and each of these has its numbers.
use Rattle.std.proofs.Common.{◌≡◌, ◌<◌, ◌⊎◌, inl, inr, ℕ, Bool, false, List, [], ◌∷◌, ◌++◌, Option, Some, None, length, option_map, refl, sym, ap, ap₂, ◌∙◌, subst}
use Rattle.std.specs.Prelude.{slice_get, get_or}
use Rattle.std.proofs.Math.Nat.{lt_trans}
use Rattle.std.proofs.lemmas.Grind.{flat_map-append}
use Rattle.std.proofs.lemmas.List.{append-nil}
use Rattle.std.proofs.lemmas.Option.{same_Some, slice_get_within, slice_get-get_or}
use Rattle.cs_document.specs.Document.{Document}
use Rattle.cs_document.specs.Opened.{Opened, a_null}
use Rattle.cs_flat.specs.Nodes.{node_at}
use Rattle.cs_flat.specs.Items.{AreItems}
use Rattle.cs_flat.specs.Listed.{values}
use Rattle.cs_table.specs.Judged.{AllVerdicts}
use Rattle.cs_profile.specs.Constraint.{Constraint, never}
use Rattle.cs_validate.specs.Numbering.{schema_at, IsNumbering}
use Rattle.cs_validity_reasons.specs.Causes.{Cause}
use Rattle.cs_validity_reasons.specs.NumberedCauses.{NumberedCause, IsNumberedCause}
use Rattle.cs_validity_reasons.specs.Why.{Way, way_of, led, IsWhyNot, IsRefused, whole, next, IsWhy}
use Rattle.cs_validity_reasons.specs.WhyTold.{ways_of, value_of, schema_of, meant, verdicts_of, LeadTo, stay, go}
use Rattle.cs_validity_reasons.proofs.CausesBelow.{cause_below}
use Rattle.cs_validity_reasons.proofs.CausesNumbered.{both_named, led_map, way_map, to_table, why_of, why_back}
use Rattle.cs_validity_reasons.proofs.Chains.{IsChain, start, more}

some_back : {X Y : Type 0} (f : X → Y) (o : Option X) (y : Y) → option_map f o ≡ Some y → (x : X) × (o ≡ Some x) × (f x ≡ y)
some_back f (Some x) y e = (x, refl, same_Some (f x) y e)
some_back f None y e = cc

none_back : {X Y : Type 0} (f : X → Y) (o : Option X) → option_map f o ≡ None → o ≡ None
none_back f (Some x) e = cc
none_back f None e = refl

pub ways_more : (ns : List NumberedCause) (n : NumberedCause) → ways_of (ns ++ n ∷ []) ≡ ways_of ns ++ way_of n
ways_more ns n = flat_map-append way_of ns (n ∷ []) ∙ ap (λ ws. ways_of ns ++ ws) (append-nil (way_of n))

-- schemas and values over numbers, and verdicts that are those of the meaning
pub record IsSetting (R : Document) (xs : List (Opened ℕ)) (all : List Document) (asked : List (Constraint ℕ ℕ)) (f : AllVerdicts) (V : Document → Document → Bool) : Type 0 where
  pub numbering : IsNumbering R all asked
  pub are : AreItems (values xs) xs
  pub agree : (i r : ℕ) → i < length xs → r < length all → f i r ≡ V (schema_at all r) (node_at (values xs) i)

-- chains of causes over numbers
abbrev pub IsNumberedChain : AllVerdicts → List (Opened ℕ) → List (Constraint ℕ ℕ) → ℕ → ℕ → List NumberedCause → ℕ → ℕ → Type 0
IsNumberedChain f xs asked i r = IsChain led (IsNumberedCause f xs asked) i r

module _ (R : Document) (xs : List (Opened ℕ)) (all : List Document) (asked : List (Constraint ℕ ℕ)) (f : AllVerdicts) (V : Document → Document → Bool) (setting : IsSetting R xs all asked f V) where
  pub number_why : (i r : ℕ) (n : NumberedCause) → IsNumberedCause f xs asked i r n → IsWhyNot R V (schema_at all r) (node_at (values xs) i) (meant all xs n)
  number_why i r n h = why_of R xs all asked setting.numbering setting.are f V setting.agree i r h.value h.rule h.at_item h.at_rule h.cause

  number_meant : (i r : ℕ) (n : NumberedCause) → IsNumberedCause f xs asked i r n → IsNumberedCause (verdicts_of all xs V) xs asked i r n
  number_meant i r n h =
      record {
        value = h.value;
        rule = h.rule;
        at_item = h.at_item;
        at_rule = h.at_rule;
        cause = to_table R xs all asked setting.numbering setting.are f V setting.agree i r h.value h.rule h.at_item h.at_rule h.cause;
      }

  there : (i : ℕ) → i < length xs → (x : Opened ℕ) × (slice_get xs i ≡ Some x)
  there i l = (get_or xs i a_null, slice_get-get_or xs i a_null l)

  asks : (r : ℕ) → r < length all → (k : Constraint ℕ ℕ) × (slice_get asked r ≡ Some k)
  asks r l = (get_or asked r never, slice_get-get_or asked r never (subst (λ n. r < n) (sym setting.numbering.count) l))

  pub number_back : (i r : ℕ) → i < length xs → r < length all → (c : Cause Document Document Document) → IsWhyNot R V (schema_at all r) (node_at (values xs) i) c
      → (n : NumberedCause) × IsNumberedCause f xs asked i r n × (meant all xs n ≡ c)
  number_back i r l m c h =
      let x = there i l in
      let k = asks r m in
      let p = why_back R xs all asked setting.numbering setting.are f V setting.agree i r x.0 k.0 x.1 k.1 h in
      (p.0, record { value = x.0; rule = k.0; at_item = x.1; at_rule = k.1; cause = p.1 }, p.2)

  -- a cause over numbers leads to numbers that there are
  led_within : (i r : ℕ) (n : NumberedCause) → IsNumberedCause f xs asked i r n → (q : ℕ × ℕ) → led i n ≡ Some q → (q.0 < length xs) × (q.1 < length all)
  led_within i r n h q e =
      let here = slice_get_within xs i h.value h.at_item in
      let rule = subst (λ k. r < k) setting.numbering.count (slice_get_within asked r h.rule h.at_rule) in
      let b = cause_below (f i) f (node_at (values xs) i) h.value i r (length all) rule (setting.are.lower i h.value h.at_item) (setting.numbering.below r h.rule h.at_rule) h.cause q e in
      (earlier i q.0 q.1 r here b.0, b.1)
    where
      earlier : (i j s r : ℕ) → i < length xs → (j < i) ⊎ ((j ≡ i) × (s < r)) → j < length xs
      earlier i j s r l (inl m) = lt_trans m l
      earlier i j s r l (inr p) = subst (λ k. k < length xs) (sym p.0) l

  module _ (i r : ℕ) where
    abbrev Refused : List Way → ℕ × ℕ → Type 0
    Refused ways p = IsRefused R V (schema_at all r) (node_at (values xs) i) ways (schema_of all xs p) (value_of all xs p)

    abbrev both : ℕ × ℕ → Document × Document
    both = both_named (node_at (values xs)) (schema_at all)

    led_there : (j : ℕ) (n : NumberedCause) → led (node_at (values xs) j) (meant all xs n) ≡ option_map both (led j n)
    led_there j n = led_map (node_at (values xs)) (schema_at all) j n

    same_way : (n : NumberedCause) → way_of (meant all xs n) ≡ way_of n
    same_way n = way_map (node_at (values xs)) (schema_at all) n

    -- ---- from numbers to the meaning

    pub refused_by_chain : V (schema_at all r) (node_at (values xs) i) ≡ false → {ns : List NumberedCause} {j q : ℕ} → IsNumberedChain f xs asked i r ns j q → Refused (ways_of ns) (j, q)
    refused_by_chain bad start = whole bad
    refused_by_chain bad (more {cs = ns} {j} {q} {k} {s} {c = n} h a e) =
        let step : Refused (ways_of ns ++ way_of (meant all xs n)) (k, s) = next (refused_by_chain bad h) (number_why j q n a) (led_there j n ∙ ap (option_map both) e) in
        subst (λ w. Refused w (k, s)) (ap (λ w. ways_of ns ++ w) (same_way n) ∙ sym (ways_more ns n)) step

    -- the same chain by the verdicts of the meaning
    pub leads_by_chain : {ns : List NumberedCause} {j q : ℕ} → IsNumberedChain f xs asked i r ns j q → LeadTo all xs V asked i r (ways_of ns) (j, q)
    leads_by_chain start = stay
    leads_by_chain (more {cs = ns} {j} {q} {k} {s} {c = n} h a e) =
        let step : LeadTo all xs V asked i r (ways_of ns ++ way_of n) (k, s) = go (leads_by_chain h) (number_meant j q n a) e in
        subst (λ w. LeadTo all xs V asked i r w (k, s)) (sym (ways_more ns n)) step

    -- a leaf at the end of a chain
    pub why_by_chain : V (schema_at all r) (node_at (values xs) i) ≡ false → {ns : List NumberedCause} {j q : ℕ} {n : NumberedCause} → IsNumberedChain f xs asked i r ns j q → IsNumberedCause f xs asked j q n → led j n ≡ None
        → IsWhy R V (schema_at all r) (node_at (values xs) i) (ways_of ns) (schema_at all q) (node_at (values xs) j) (meant all xs n)
    why_by_chain bad {j = j} {q = q} {n = n} h a e = record { refused = refused_by_chain bad h; cause = number_why j q n a; leaf = led_there j n ∙ ap (option_map both) e }

    -- ---- and back

    -- a chain over numbers on these ways, to this schema and this value
    pub record HasChain (ways : List Way) (s x : Document) : Type 0 where
      pub causes : List NumberedCause
      pub item : ℕ
      pub rule : ℕ
      pub chain : IsNumberedChain f xs asked i r causes item rule
      pub item_within : item < length xs
      pub rule_within : rule < length all
      pub schema : schema_at all rule ≡ s
      pub value : node_at (values xs) item ≡ x
      pub same : ways_of causes ≡ ways

    -- a cause by the meaning, of what has numbers
    cause_there : (j q : ℕ) → j < length xs → q < length all → (s x : Document) → schema_at all q ≡ s → node_at (values xs) j ≡ x → (c : Cause Document Document Document) → IsWhyNot R V s x c
        → (n : NumberedCause) × IsNumberedCause f xs asked j q n × (meant all xs n ≡ c)
    cause_there j q l m s x t y c h =
        let here : IsWhyNot R V (schema_at all q) (node_at (values xs) j) c = subst (λ z. IsWhyNot R V (schema_at all q) z c) (sym y) (subst (λ z. IsWhyNot R V z x c) (sym t) h) in
        number_back j q l m c here

    one_more : (ways : List Way) (s x p y : Document) (c : Cause Document Document Document) → HasChain ways s x → IsWhyNot R V s x c → led x c ≡ Some (y, p) → HasChain (ways ++ way_of c) p y
    one_more ways s x p y c b h e =
        let n = cause_there b.item b.rule b.item_within b.rule_within s x b.schema b.value c h in
        let led_here : option_map both (led b.item n.0) ≡ Some (y, p) = sym (led_there b.item n.0) ∙ ap₂ led b.value n.2 ∙ e in
        let to = some_back both (led b.item n.0) (y, p) led_here in
        let bounds = led_within b.item b.rule n.0 n.1 to.0 to.1 in
        record {
          causes = b.causes ++ n.0 ∷ [];
          item = to.0.0;
          rule = to.0.1;
          chain = more b.chain n.1 to.1;
          item_within = bounds.0;
          rule_within = bounds.1;
          schema = ap (λ (z : Document × Document). z.1) to.2;
          value = ap (λ (z : Document × Document). z.0) to.2;
          same = ways_more b.causes n.0 ∙ ap₂ ◌++◌ b.same (sym (same_way n.0) ∙ ap way_of n.2);
        }

    pub chain_back : i < length xs → r < length all → {ways : List Way} {s x : Document} → IsRefused R V (schema_at all r) (node_at (values xs) i) ways s x → HasChain ways s x
    chain_back l m (whole bad) = record { causes = []; item = i; rule = r; chain = start; item_within = l; rule_within = m; schema = refl; value = refl; same = refl }
    chain_back l m (next {ways} {s} {x} {p} {y} {c} b h e) = one_more ways s x p y c (chain_back l m b) h e

    -- a reason by the meaning is one over numbers
    pub record HasReason (ways : List Way) (s x : Document) (c : Cause Document Document Document) : Type 0 where
      pub there : HasChain ways s x
      pub leaf : NumberedCause
      pub cause : IsNumberedCause f xs asked there.item there.rule leaf
      pub nowhere : led there.item leaf ≡ None
      pub means : meant all xs leaf ≡ c

    pub why_has_reason : i < length xs → r < length all → (ways : List Way) (s x : Document) (c : Cause Document Document Document)
        → IsWhy R V (schema_at all r) (node_at (values xs) i) ways s x c → HasReason ways s x c
    why_has_reason l m ways s x c why =
        let b = chain_back l m why.refused in
        let n = cause_there b.item b.rule b.item_within b.rule_within s x b.schema b.value c why.cause in
        record { there = b; leaf = n.0; cause = n.1; nowhere = none_back both (led b.item n.0) (sym (led_there b.item n.0) ∙ ap₂ led b.value n.2 ∙ why.leaf); means = n.2 }
