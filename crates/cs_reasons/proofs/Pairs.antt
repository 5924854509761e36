-- The order of pairs.
use Rattle.std.proofs.Common.{◌≡◌, ◌≢◌, ℕ, ◌<◌, ◌≤◌, ◌+◌, ◌*◌, ◌⊎◌, ⊎_elim, inl, inr, Some, ap, ◌∙◌, sym, arith}
use Rattle.std.proofs.Math.Nat.{mul-le-mul_left}
use Rattle.std.proofs.lemmas.Bool.{cases_eq, cases_lt}
use Rattle.cs_table.specs.Judged.{IsEarlier}

pub earlier_trans : (a b j q i r : ℕ) → IsEarlier a b j q → IsEarlier j q i r → IsEarlier a b i r
earlier_trans a b j q i r (inl l) (inl m) = inl (omega arith)
earlier_trans a b j q i r (inl l) (inr m) = inl (let n = m.0 in omega arith)
earlier_trans a b j q i r (inr l) (inl m) = inl (let n = l.0 in omega arith)
earlier_trans a b j q i r (inr l) (inr m) = inr (l.0 ∙ m.0, let x = l.1 in let y = m.1 in omega arith)

-- no pair comes before itself
pub not_earlier : (i r : ℕ) → IsEarlier i r i r → ⊥
not_earlier i r (inl l) = omega arith
not_earlier i r (inr l) = let m = l.1 in omega arith

pub not_both : (j q i r : ℕ) → IsEarlier j q i r → IsEarlier i r j q → ⊥
not_both j q i r e f = not_earlier j q (earlier_trans j q i r j q e f)

-- of two pairs one comes before the other, or they are one
pub in_order : (j q i r : ℕ) → IsEarlier j q i r ⊎ ((j ≡ i) × (q ≡ r)) ⊎ IsEarlier i r j q
in_order j q i r = ⊎_elim
    (λ (l : j < i). inl (inl l))
    (λ (l : i ≤ j). ⊎_elim
    (λ (s : j ≡ i). ⊎_elim
    (λ (m : q < r). inl (inr (s, m)))
    (λ (m : r ≤ q). ⊎_elim
    (λ (t : q ≡ r). inr (inl (s, t)))
    (λ (t : q ≢ r). inr (inr (inr (sym s, omega arith))))
    (cases_eq q r))
    (cases_lt q r))
    (λ (s : j ≢ i). inr (inr (inl (omega arith))))
    (cases_eq j i))
    (cases_lt j i)

-- the place of an earlier pair is before
pub place_before : (rules j q i r : ℕ) → q < rules → IsEarlier j q i r → j * rules + q < i * rules + r
place_before rules j q i r l (inl h) = let m : rules * (j + 1) ≤ rules * i = mul-le-mul_left rules (omega arith) in omega arith
place_before rules j q i r l (inr h) = let s = ap (λ x. x * rules) h.0 in let t = h.1 in omega arith

pub same_pair : (p : ℕ × ℕ) (j q : ℕ) → Some p ≡ Some (j, q) → (p.0 ≡ j) × (p.1 ≡ q)
same_pair p j q e = let h : p ≡ (j, q) = cc in (ap (λ x. x.0) h, ap (λ x. x.1) h)
