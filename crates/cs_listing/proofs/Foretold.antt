-- Verdicts by kind, one after another.
use Rattle.std.proofs.Common.{◌≡◌, ℕ, ◌+◌, ◌<◌, ⊎_elim, List, [], ◌∷◌, ◌++◌, Some, length, get_or, take, take_all, sym, subst, arith}
use Rattle.std.proofs.lemmas.List.{length_push, take-append-le}
use Rattle.std.specs.Prelude.{slice_get}
use Rattle.cs_document.proofs.Maps.{take_at}
use Rattle.cs_rules.specs.Kinds.{Foretells}
use Rattle.cs_rules.specs.declared.by_kind.ByKind.{ByKind}
use Rattle.cs_rules.proofs.Lists.{got_push}
use Rattle.cs_instance.specs.Steps.{step}
use Rattle.cs_instance.specs.declared.rules.Rule.{Rule as Coded}
use Rattle.cs_listing.specs.ByKind.{AreByKind}

-- those before a place that is there stay the same
front_kept : (ks : List ByKind) (k : ByKind) (r : ℕ) (x : Coded) (j : ByKind) → r < length ks + 1 → Foretells (step x) (take r ks) j → Foretells (step x) (take r (ks ++ k ∷ [])) j
front_kept ks k r x j l h = subst (λ es. Foretells (step x) es j) (sym (take-append-le r ks (k ∷ []) (omega (arith, l)))) h

one_by_kind : (rules : List Coded) (ks : List ByKind) (x : Coded) (k : ByKind) → AreByKind rules ks → Foretells (step x) ks k → AreByKind (rules ++ x ∷ []) (ks ++ k ∷ [])
one_by_kind rules ks x k h new = record {
  count = omega (arith, length_push ks k, length_push rules x, h.count);
  each = λ r y j found there.
      ⊎_elim (λ (a : (r < length rules) × (slice_get rules r ≡ Some y)).
      ⊎_elim (λ (b : (r < length ks) × (slice_get ks r ≡ Some j)). front_kept ks k r y j (omega (arith, b.0)) (h.each r y j a.1 b.1))
      (λ (b : (r ≡ length ks) × (k ≡ j)). absurd (let m = a.0 in let n = b.0 in omega (arith, m, n, h.count))) (got_push ks k j r there))
      (λ (a : (r ≡ length rules) × (x ≡ y)).
      ⊎_elim (λ (b : (r < length ks) × (slice_get ks r ≡ Some j)). absurd (let m = a.0 in let n = b.0 in omega (arith, m, n, h.count)))
      (λ (b : (r ≡ length ks) × (k ≡ j)).
      front_kept ks k r y j (omega (arith, b.0))
      (subst (λ es. Foretells (step y) es j) (sym (take_whole ks r b.0)) (subst (λ z. Foretells (step z) ks j) a.1 (subst (Foretells (step x) ks) b.1 new))))
      (got_push ks k j r there))
      (got_push rules x y r found);
}
  where
    take_whole : (ks : List ByKind) (r : ℕ) → r ≡ length ks → take r ks ≡ ks
    take_whole ks r e = take_all r ks (omega (arith, e))

-- the rule at a place is asked with the verdicts of those before it
pub next_by_kind : (rules : List Coded) (i : ℕ) (ks earlier new : List ByKind) (x : Coded) (k : ByKind) → i < length rules → x ≡ get_or rules i x → earlier ≡ ks → new ≡ ks ++ k ∷ []
    → AreByKind (take i rules) ks → Foretells (step x) earlier k → AreByKind (take (i + 1) rules) new
next_by_kind rules i ks earlier new x k l is same put h told =
    subst (λ xs. AreByKind xs new) (sym (take_at rules i x l is))
    (subst (AreByKind (take i rules ++ x ∷ [])) (sym put) (one_by_kind (take i rules) ks x k h (subst (λ es. Foretells (step x) es k) same told)))
