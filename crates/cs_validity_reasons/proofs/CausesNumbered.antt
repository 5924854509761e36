-- Causes over the numbers of values and of schemas are causes by the meaning, and each of these has its numbers.
use Rattle.std.proofs.Common.{◌≡◌, ◌<◌, ℕ, Bool, List, Some, length, option_map, refl, sym, subst}
use Rattle.std.specs.Prelude.{slice_get}
use Rattle.std.proofs.Math.Nat.{lt_trans}
use Rattle.std.proofs.lemmas.Option.{slice_get_within}
use Rattle.cs_document.specs.Document.{Document}
use Rattle.cs_document.specs.Opened.{Opened}
use Rattle.cs_document.specs.Inside.{map_opened}
use Rattle.cs_flat.specs.Nodes.{node_at}
use Rattle.cs_flat.specs.Items.{AreItems}
use Rattle.cs_flat.specs.Listed.{values}
use Rattle.cs_table.specs.Judged.{AllVerdicts}
use Rattle.cs_profile.specs.Constraint.{Constraint, constraint_of}
use Rattle.cs_validate.specs.Numbering.{map_constraint, said, schema_at, IsNumbering}
use Rattle.cs_validity_reasons.specs.Causes.{Cause, reference, part, alternative, property, additional, prefix, items, IsCause}
use Rattle.cs_validity_reasons.specs.Why.{way_of, led, map_cause, IsWhyNot}
use Rattle.cs_validity_reasons.proofs.Caused.{cause_there, cause_back, cause_said, said_cause}
use Rattle.cs_validity_reasons.proofs.CausesAgree.{cause_same}

-- ---- what is named in another way leads the same way, to what is named in the other way

module _ {A B S T : Type 0} (f : A → B) (g : S → T) where
  abbrev pub both_named : A × S → B × T
  both_named p = (f p.0, g p.1)

  pub led_map : (x : A) (c : Cause A S S) → led (f x) (map_cause f g c) ≡ option_map both_named (led x c)
  led_map x (reference s) = refl
  led_map x (part k s) = refl
  led_map x (alternative k s) = refl
  led_map x (property k y s) = refl
  led_map x (additional k y s) = refl
  led_map x (prefix k y s) = refl
  led_map x (items k y s) = refl
  led_map x _ = refl

  pub way_map : (c : Cause A S S) → way_of (map_cause f g c) ≡ way_of c
  way_map (reference s) = refl
  way_map (part k s) = refl
  way_map (alternative k s) = refl
  way_map (property k y s) = refl
  way_map (additional k y s) = refl
  way_map (prefix k y s) = refl
  way_map (items k y s) = refl
  way_map _ = refl

-- ---- numbers

module _ (R : Document) (xs : List (Opened ℕ)) (all : List Document) (asked : List (Constraint ℕ ℕ)) (numbering : IsNumbering R all asked) (are : AreItems (values xs) xs) where
  abbrev at_value : ℕ → Document
  at_value i = node_at (values xs) i

  abbrev at_schema : ℕ → Document
  at_schema r = schema_at all r

  rule_within : (r : ℕ) (k : Constraint ℕ ℕ) → slice_get asked r ≡ Some k → r < length all
  rule_within r k e = subst (λ n. r < n) numbering.count (slice_get_within asked r k e)

  -- the table's verdicts are those of the meaning
  module _ (f : AllVerdicts) (V : Document → Document → Bool) (agree : (i r : ℕ) → i < length xs → r < length all → f i r ≡ V (at_schema r) (at_value i)) where
    abbrev table_of : AllVerdicts
    table_of i r = V (at_schema r) (at_value i)

    module _ (i r : ℕ) (x : Opened ℕ) (k : Constraint ℕ ℕ) (at_item : slice_get xs i ≡ Some x) (at_rule : slice_get asked r ≡ Some k) where
      within : i < length xs
      within = slice_get_within xs i x at_item

      below : r < length all
      below = rule_within r k at_rule

      pub to_table : {c : Cause ℕ ℕ ℕ} → IsCause (f i) f (at_value i) x k c → IsCause (table_of i) table_of (at_value i) x k c
      to_table h =
          cause_same i r (length all) (f i) (table_of i) f table_of (λ q l. agree i q within (lt_trans l below)) (λ y q l m. agree y q (lt_trans l within) m)
          (at_value i) x (are.lower i x at_item) (numbering.below r k at_rule) h

      from_table : {c : Cause ℕ ℕ ℕ} → IsCause (table_of i) table_of (at_value i) x k c → IsCause (f i) f (at_value i) x k c
      from_table h =
          cause_same i r (length all) (table_of i) (f i) table_of f (λ q l. sym (agree i q within (lt_trans l below))) (λ y q l m. sym (agree y q (lt_trans l within) m))
          (at_value i) x (are.lower i x at_item) (numbering.below r k at_rule) h

      -- causes by verdicts of the meaning, of a value opened to the numbers of those inside
      abbrev Meant : Opened Document → Constraint Document Document → Cause Document Document Document → Type 0
      Meant o a c = IsCause (λ p. V p (at_value i)) (λ y p. V p y) (at_value i) o a c

      abbrev named_item : Opened Document
      named_item = map_opened at_value x

      abbrev named_rule : Constraint Document Document
      named_rule = map_constraint at_schema at_schema k

      pub why_of : {c : Cause ℕ ℕ ℕ} → IsCause (f i) f (at_value i) x k c → IsWhyNot R V (at_schema r) (at_value i) (map_cause at_value at_schema c)
      why_of {c} h =
          let m = map_cause at_value at_schema c in
          let named : Meant named_item named_rule m = cause_there at_value at_schema (λ p. V p (at_value i)) (λ y p. V p y) (at_value i) (to_table h) in
          let told : Meant named_item (said named_rule) m = cause_said (λ p. V p (at_value i)) (λ y p. V p y) (at_value i) named_item named in
          let asks : Meant named_item (said (constraint_of R (at_schema r))) m = subst (λ a. Meant named_item a m) (sym (numbering.asks r k at_rule)) told in
          let meant : Meant named_item (constraint_of R (at_schema r)) m = said_cause (λ p. V p (at_value i)) (λ y p. V p y) (at_value i) named_item (constraint_of R (at_schema r)) asks in
          subst (λ o. Meant o (constraint_of R (at_schema r)) m) (sym (are.node i x at_item)) meant

      pub why_back : {c : Cause Document Document Document} → IsWhyNot R V (at_schema r) (at_value i) c → (b : Cause ℕ ℕ ℕ) × IsCause (f i) f (at_value i) x k b × (map_cause at_value at_schema b ≡ c)
      why_back {c} h =
          let item : Meant named_item (constraint_of R (at_schema r)) c = subst (λ o. Meant o (constraint_of R (at_schema r)) c) (are.node i x at_item) h in
          let told : Meant named_item (said (constraint_of R (at_schema r))) c = cause_said (λ p. V p (at_value i)) (λ y p. V p y) (at_value i) named_item item in
          let asks : Meant named_item (said named_rule) c = subst (λ a. Meant named_item a c) (numbering.asks r k at_rule) told in
          let named : Meant named_item named_rule c = said_cause (λ p. V p (at_value i)) (λ y p. V p y) (at_value i) named_item named_rule asks in
          let p = cause_back at_value at_schema (λ p. V p (at_value i)) (λ y p. V p y) (at_value i) x k named in
          (p.0, from_table p.1, p.2)
