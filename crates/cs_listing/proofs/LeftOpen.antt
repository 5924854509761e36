-- Kinds that are left open, one number after another.
use Rattle.std.proofs.Common.{◌≡◌, ℕ, ◌+◌, ◌<◌, ⊎_elim, true, List, [], ◌∷◌, ◌++◌, Some, length, get_or, take, refl, sym, subst, ◌∙◌, arith}
use Rattle.std.proofs.lemmas.List.{length_push, get_or_push, take_more}
use Rattle.std.proofs.Math.ListN.{get_or-append}
use Rattle.std.specs.Prelude.{slice_get, unwrap_or}
use Rattle.cs_document.specs.Opened.{Opened, a_null, a_boolean, an_integer, a_text, a_list, an_object}
use Rattle.cs_rules.specs.Kinds.{decided_by, verdict_of}
use Rattle.cs_rules.specs.declared.by_kind.ByKind.{ByKind}
use Rattle.cs_rules.proofs.Lists.{got_push}
use Rattle.cs_listing.specs.ByKind.{AreLeftOpen}
use Rattle.cs_listing.specs.Kinds.{has_kind}

-- a kind is left open where the verdict on it isn't no
pub open_by : (k : ByKind) (x : Opened ℕ) → has_kind k x ≡ unwrap_or (verdict_of k x) true
open_by k a_null = refl
open_by k (a_boolean b) = refl
open_by k (an_integer z) = refl
open_by k (a_text s) = refl
open_by k (a_list ys) = refl
open_by k (an_object ms) = refl

module _ (ks : List ByKind) where
  -- the kinds that are left open for a number
  abbrev pub Leaves : ℕ → ByKind → Type 0
  Leaves n k = (x : Opened ℕ) → has_kind k x ≡ unwrap_or (decided_by ks x n) true

  one_left_open : (numbers : List ℕ) (kinds : List ByKind) (n : ℕ) (k : ByKind) → AreLeftOpen ks numbers kinds → Leaves n k → AreLeftOpen ks (numbers ++ n ∷ []) (kinds ++ k ∷ [])
  one_left_open numbers kinds n k h new = record {
    count = omega (arith, length_push kinds k, length_push numbers n, h.count);
    each = λ i j there.
        ⊎_elim (λ (a : (i < length kinds) × (slice_get kinds i ≡ Some j)). subst (λ m. Leaves m j) (sym (get_or-append numbers (n ∷ []) 0 i (let l = a.0 in omega (arith, l, h.count)))) (h.each i j a.1))
        (λ (a : (i ≡ length kinds) × (k ≡ j)). subst (λ m. Leaves m j) (sym (get_or_push numbers n 0 i (sym (a.0 ∙ h.count)))) (subst (Leaves n) a.1 new)) (got_push kinds k j i there);
  }

  -- the kinds that are left open for the number at a place come behind those of the numbers before it
  pub next_left_open : (numbers : List ℕ) (i : ℕ) (kinds new : List ByKind) (k : ByKind) → i < length numbers → new ≡ kinds ++ k ∷ [] → AreLeftOpen ks (take i numbers) kinds → Leaves (get_or numbers i 0) k
      → AreLeftOpen ks (take (i + 1) numbers) new
  next_left_open numbers i kinds new k l put h leaves =
      let n = get_or numbers i 0 in
      subst (λ ns. AreLeftOpen ks ns new) (sym (take_more numbers i 0 l))
      (subst (AreLeftOpen ks (take i numbers ++ n ∷ [])) (sym put) (one_left_open (take i numbers) kinds n k h leaves))
