-- The causes of the code are those over numbers.
use Rattle.std.proofs.Common.{◌≡◌, ℕ, suc, Bool, true, false, List, [], ◌∷◌, Some, refl, sym, ap, ◌∙◌, slice_get, bytes_eq, if◌then◌else◌}
use Rattle.std.proofs.lemmas.Option.{same_Some, get_or_from_slice_get}
use Rattle.std.proofs.lemmas.Slice.Eq.{bytes_eq-Decides}
use Rattle.cs_document.specs.Document.{Entry, under}
use Rattle.cs_document.specs.Opened.{Opened, an_object}
use Rattle.cs_flat.specs.Listed.{values}
use Rattle.cs_flat.specs.Nodes.{node_at}
use Rattle.cs_table.specs.Judged.{AllVerdicts}
use Rattle.cs_package.specs.Expression.{is_every}
use Rattle.cs_instance_reasons.specs.Causes.{Cause, part, alternative, member, element, unmet, few, many, no_alternative, missing, extra, IsUnder, IsCause, of_test, of_part, of_alternative, of_none, of_kind, of_member, of_missing, of_extra, of_list_kind, of_front, of_rest, of_few, of_many}
use Rattle.cs_instance.specs.Constraint.{Constraint}
use Rattle.cs_instance.specs.Instance.{Rule}
use Rattle.cs_instance_reasons.specs.Led.{leads_to, is_alternative}
use Rattle.cs_instance_reasons.specs.Meanings.{key_in, key_at, meaning_of}
use Rattle.cs_instance.specs.Numbering.{rule_at}
use Rattle.cs_instance_reasons.specs.SeenCauses as seen
use Rattle.cs_instance_reasons.specs.SeenCauses.{IsSeenAs, IsCauseOf, IsCauseAt}
use Rattle.cs_instance_reasons.specs.declared.cause.InstanceCause.{InstanceCause}
use Rattle.cs_instance_reasons.specs.declared.cause.InstanceCause.TheVariants.{Part, Alternative, Member, Element, Unmet, Missing, Extra, Few, Many, NoAlternative}
use Rattle.cs_instance_reasons.proofs.Leaves.{place_of}
use Rattle.cs_instance_reasons.proofs.Reached.{IsSeen, named}
use Rattle.cs_instance_reasons.proofs.Traced.{AreSeen}

-- ---- keys

key_found : (xs : List (Opened ℕ)) (i : ℕ) (ms : List (Entry ℕ)) (m : ℕ) (k : List ℕ) (y : ℕ) → slice_get xs i ≡ Some (an_object ms) → slice_get ms m ≡ Some (k, y) → key_at xs i m ≡ k
key_found xs i ms m k y is at = ap (λ o. key_in o m) is ∙ ap (λ e. e.0) (get_or_from_slice_get ms m (k, y) ([], 0) at)

place_under : (ms : List (Entry ℕ)) (k : List ℕ) (y : ℕ) → under k ms ≡ Some y → (m : ℕ) × (slice_get ms m ≡ Some (k, y))
place_under [] k y e = cc
place_under (m ∷ ms) k y e = by (bytes_eq k m.0) refl (place_under ms k y) e
  where
    by : (b : Bool) → bytes_eq k m.0 ≡ b → (under k ms ≡ Some y → (n : ℕ) × (slice_get ms n ≡ Some (k, y))) → (if b then Some m.1 else under k ms) ≡ Some y → (n : ℕ) × (slice_get (m ∷ ms) n ≡ Some (k, y))
    by true is rest e =
        let key : m.0 ≡ k = sym ((bytes_eq-Decides k m.0).0 is) in
        (0, ap (λ l. Some (l, m.1)) key ∙ ap (λ z. Some (k, z)) (same_Some m.1 y e))
    by false is rest e = let r = rest e in (suc r.0, r.1)

member_place : (b : Bool) (l k : List ℕ) (y : ℕ) (ms : List (Entry ℕ)) → IsUnder b l k y ms → (m : ℕ) × (slice_get ms m ≡ Some (k, y))
member_place true l k y ms u = place_of ms (k, y) u
member_place false l k y ms u = place_under ms k y u.1

-- ---- from the code and back

module _ (all : List Rule) (xs : List (Opened ℕ)) where
  sees : (i r : ℕ) (x : Opened ℕ) (c : InstanceCause) (k : Cause ℕ ℕ ℕ) → slice_get xs i ≡ Some x → IsSeenAs i r x c k → IsSeen all xs leads_to (meaning_of all xs) i c k
  sees i r x _ _ at seen.a_part = record { means = refl; leads = refl }
  sees i r x _ _ at seen.an_alternative = record { means = refl; leads = refl }
  sees i r x _ _ at (seen.a_member {ms = ms} {j = j} {m = m} {y = y} {q = q} {k = k} is of) =
      record { means = ap (λ l. member j l (node_at (values xs) y) (rule_at all q)) (key_found xs i ms m k y (at ∙ ap Some is) of); leads = refl }
  sees i r x _ _ at seen.an_element = record { means = refl; leads = refl }
  sees i r x _ _ at seen.an_unmet = record { means = refl; leads = refl }
  sees i r x _ _ at seen.too_few = record { means = refl; leads = refl }
  sees i r x _ _ at seen.too_many = record { means = refl; leads = refl }
  sees i r x _ _ at seen.none = record { means = refl; leads = refl }
  sees i r x _ _ at seen.a_missing = record { means = refl; leads = refl }
  sees i r x _ _ at (seen.an_extra {ms = ms} {m = m} {y = y} {k = k} is of) = record { means = ap extra (key_found xs i ms m k y (at ∙ ap Some is) of); leads = refl }

code_of : {here : ℕ → Bool} {inside : ℕ → ℕ → Bool} {a : Constraint ℕ ℕ} {x : Opened ℕ} {k : Cause ℕ ℕ ℕ} (i r : ℕ) → IsCause here inside a x k → (c : InstanceCause) × IsSeenAs i r x c k
code_of i r (of_test e) = (Unmet, seen.an_unmet)
code_of i r (of_part {k = k} {r = q} e no_instance) = (Part i q k, seen.a_part)
code_of i r (of_alternative {k = k} {r = q} e no_instance) = (Alternative i q k, seen.an_alternative)
code_of i r of_none = (NoAlternative, seen.none)
code_of i r (of_kind e) = (Unmet, seen.an_unmet)
code_of i r (of_member {ms = ms} {j = j} {d = d} {k = k} {y = y} e u no_instance) =
    let m = member_place (is_every d.mark) d.label k y ms u in (Member j m.0 y d.value, seen.a_member refl m.1)
code_of i r (of_missing {j = j} e m none) = (Missing j r, seen.a_missing)
code_of i r (of_extra {ms = ms} {k = k} {y = y} h none) = let m = place_of ms (k, y) h in (Extra m.0 i, seen.an_extra refl m.1)
code_of i r (of_list_kind e) = (Unmet, seen.an_unmet)
code_of i r (of_front {k = k} {e = q} {y = y} e t no_instance) = (Element k y q, seen.an_element)
code_of i r (of_rest {k = k} {e = q} {y = y} l t no_instance) = (Element k y q, seen.an_element)
code_of i r (of_few l) = (Few, seen.too_few)
code_of i r (of_many l) = (Many, seen.too_many)

module _ (all : List Rule) (asked : List (Constraint ℕ ℕ)) (xs : List (Opened ℕ)) (f : AllVerdicts) where
  pub are_seen : AreSeen leads_to (meaning_of all xs) (IsCauseAt asked xs f) all asked xs f
  are_seen = record {
    seen = λ i r c h. (h.cause.told, record { asks = h.asks; value = h.value; at_rule = h.at_rule; at_item = h.at_item; cause = h.cause.cause }, sees all xs i r h.value c h.cause.told h.at_item h.cause.seen);
    shown = λ i r k h.
        let c = code_of i r h.cause in
        (c.0, record { asks = h.asks; value = h.value; at_rule = h.at_rule; at_item = h.at_item; cause = record { told = k; seen = c.1; cause = h.cause } }, sees all xs i r h.value c.0 k h.at_item c.1);
  }

-- ---- alternatives

module _ (all : List Rule) (xs : List (Opened ℕ)) (j : ℕ) where
  of_alternative_named : (n : ℕ) (s : Rule) (k : Cause ℕ ℕ ℕ) → alternative n s ≡ named all xs k → (m : ℕ) × (q : ℕ) × (k ≡ alternative m q)
  of_alternative_named n s (part m q) e = cc
  of_alternative_named n s (alternative m q) e = (m, q, refl)
  of_alternative_named n s (member i l y q) e = cc
  of_alternative_named n s (element m y q) e = cc
  of_alternative_named n s unmet e = cc
  of_alternative_named n s few e = cc
  of_alternative_named n s many e = cc
  of_alternative_named n s no_alternative e = cc
  of_alternative_named n s (missing i) e = cc
  of_alternative_named n s (extra l) e = cc

  pub shows_alternative : (c : InstanceCause) (k : Cause ℕ ℕ ℕ) → IsSeen all xs leads_to (meaning_of all xs) j c k → is_alternative c ≡ true → (n : ℕ) × (s : ℕ) × (k ≡ alternative n s)
  shows_alternative (Alternative item rule n) k h e = of_alternative_named n (rule_at all rule) k h.means
  shows_alternative (Part item rule n) k h e = cc
  shows_alternative (Member d m item rule) k h e = cc
  shows_alternative (Element n item rule) k h e = cc
  shows_alternative Unmet k h e = cc
  shows_alternative (Missing d rule) k h e = cc
  shows_alternative (Extra m item) k h e = cc
  shows_alternative Few k h e = cc
  shows_alternative Many k h e = cc
  shows_alternative NoAlternative k h e = cc

  pub shown_by_alternative : (c : InstanceCause) (n s : ℕ) → IsSeen all xs leads_to (meaning_of all xs) j c (alternative n s) → is_alternative c ≡ true
  shown_by_alternative (Alternative item rule m) n s h = refl
  shown_by_alternative (Part item rule m) n s h = let e = h.means in cc
  shown_by_alternative (Member d m item rule) n s h = let e = h.means in cc
  shown_by_alternative (Element m item rule) n s h = let e = h.means in cc
  shown_by_alternative Unmet n s h = let e = h.means in cc
  shown_by_alternative (Missing d rule) n s h = let e = h.means in cc
  shown_by_alternative (Extra m item) n s h = let e = h.means in cc
  shown_by_alternative Few n s h = let e = h.means in cc
  shown_by_alternative Many n s h = let e = h.means in cc
  shown_by_alternative NoAlternative n s h = let e = h.means in cc
