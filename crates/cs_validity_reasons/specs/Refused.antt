-- Causes of refusals lead to earlier pairs, which are refused too.
use Rattle.std.proofs.Common.{◌≡◌, ℕ, ◌<◌, ⊎_elim, true, false, List, Some, length, sym, ap, ◌∙◌, arith}
use Rattle.std.proofs.Math.Logic.{∥∥₁_elim}
use Rattle.std.proofs.lemmas.Option.{slice_get_within}
use Rattle.cs_document.specs.Document.{Entry}
use Rattle.cs_document.specs.Opened.{Opened}
use Rattle.cs_flat.specs.Listed.{values}
use Rattle.cs_flat.specs.Nodes.{node_at}
use Rattle.cs_table.specs.Judged.{AllVerdicts, IsEarlier}
use Rattle.cs_rules.specs.Props.{below_prop}
use Rattle.cs_rules.specs.Steps.{AreLower, ArePlaced}
use Rattle.cs_validate.specs.Numbering.{PartsBelow}
use Rattle.cs_validate.specs.Steps.{asked_of}
use Rattle.cs_validity_reasons.specs.NumberedCauses.{NumberedCause, led_from}
use Rattle.cs_validity_reasons.specs.Led.{PlacedCause, leads_to, is_alternative}
use Rattle.cs_validity_reasons.specs.PlacedCauses.{members_in, required_in, named_in, IsKeyed, StaysAt, IsPlacedCause}
use Rattle.cs_validate.specs.Props.{parts_prop}
use Rattle.cs_validity_reasons.specs.EarlierPairs.{cause_lower, parts_lower}
use Rattle.cs_validity_reasons.specs.Untold.{rule_of_some, cause_some}
use Rattle.cs_validate.specs.declared.rules.Rule.{Rule as Coded}
use Rattle.cs_validity_reasons.specs.declared.cause.KeyedCause.TheVariants.{Reference, Part, Alternative, Property, Additional, Prefix, Items, Never, Missing, Keyword, NoAlternative}

earlier_within : (i j q r n : ℕ) → i < n → IsEarlier j q i r → j < n
earlier_within i j q r n l e = ⊎_elim (λ (h : j < i). omega (arith, h, l)) (λ (h : (j ≡ i) × (q < r)). omega (arith, h.0, l)) e

led_keyed : (i : ℕ) (ms : List (Entry ℕ)) (ks : List (List ℕ)) (ps : List (Entry ℕ)) (c : PlacedCause) (n : NumberedCause) → StaysAt i c → IsKeyed ms ks ps c n → led_from i n ≡ leads_to c
led_keyed i ms ks ps (Reference item s) n a k = ap (led_from i) k ∙ ap (λ z. Some (z, s)) (sym a)
led_keyed i ms ks ps (Part item s place) n a k = ap (led_from i) k ∙ ap (λ z. Some (z, s)) (sym a)
led_keyed i ms ks ps (Alternative item s place) n a k = ap (led_from i) k ∙ ap (λ z. Some (z, s)) (sym a)
led_keyed i ms ks ps (Property place item s) n a k = ap (led_from i) k.2
led_keyed i ms ks ps (Additional place item s) n a k = ap (led_from i) k.2
led_keyed i ms ks ps (Prefix place item s) n a k = ap (led_from i) k
led_keyed i ms ks ps (Items place item s) n a k = ap (led_from i) k
led_keyed i ms ks ps Never n a k = ap (led_from i) k
led_keyed i ms ks ps (Missing place) n a k = ap (led_from i) k.2
led_keyed i ms ks ps (Keyword w) n a k = ap (led_from i) k
led_keyed i ms ks ps NoAlternative n a k = ap (led_from i) k

module _ (f : AllVerdicts) (xs : List (Opened ℕ)) (rules : List Coded) (inner : List ℕ) where
  pub earlier_pair : AreLower xs → ∥ ArePlaced (λ s r m. PartsBelow r m (asked_of s)) rules inner ∥₁ → (i r j q : ℕ) (c : PlacedCause) → IsPlacedCause f xs rules inner i r c → leads_to c ≡ Some (j, q)
      → ((j < length xs) × (q < length rules) × (f j q ≡ false)) × IsEarlier j q i r
  earlier_pair lower placed i r j q c h e =
      let few = slice_get_within rules r h.asks h.at_rule in
      let within = slice_get_within xs i h.value h.at_item in
      let parts = ∥∥₁_elim placed (parts_prop r (length inner) (asked_of h.asks)) (λ p. p.parts r h.asks h.at_rule) in
      let inside = ∥∥₁_elim placed (below_prop (length rules) inner) (λ p. p.inside) in
      let low = cause_lower f (node_at (values xs) i) h.value i r (length rules) few (lower i h.value h.at_item) (parts_lower r (length rules) inner inside (asked_of h.asks) parts) h.cause (j, q)
      (led_keyed i (members_in h.value) (required_in h.asks) (named_in inner h.asks) c h.named h.stays h.keyed ∙ e) in
      ((earlier_within i j q r (length xs) within low.0, low.1, low.2), low.0)

  pub no_other : (i r : ℕ) (c : PlacedCause) → IsPlacedCause f xs rules inner i r c → is_alternative c ≡ true → IsPlacedCause f xs rules inner i r NoAlternative → ⊥
  no_other i r c h e k = cause_some (f i) f (node_at (values xs) i) k.value k.cause k.keyed (rule_of_some inner k.asks)
