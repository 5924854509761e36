-- A verdict given keeps the earlier ones, and a judge has one table.
use Rattle.std.proofs.Common.{◌≡◌, ◌≢◌, ℕ, zero, suc, ◌<◌, ⊎_elim, inl, inr, sym, ◌∙◌, subst, arith}
use Rattle.cs_table.specs.Filled.{OtherPairsStay}
use Rattle.cs_table.specs.Judged.{AllVerdicts, Judgement, IsEarlier, AgreeBefore, LooksBack, IsJudged, Table, verdicts}

pub earlier_trans : (a b j q i r : ℕ) → IsEarlier a b j q → IsEarlier j q i r → IsEarlier a b i r
earlier_trans a b j q i r (inl l) (inl m) = inl (omega arith)
earlier_trans a b j q i r (inl l) (inr m) = inl (let n = m.0 in omega arith)
earlier_trans a b j q i r (inr l) (inl m) = inl (let n = l.0 in omega arith)
earlier_trans a b j q i r (inr l) (inr m) = inr (l.0 ∙ m.0, let x = l.1 in let y = m.1 in omega arith)

-- an earlier pair is another one
apart : (j q i r : ℕ) → IsEarlier j q i r → j ≡ i → q ≢ r
apart j q i r (inl l) same = absurd (omega (arith, l, same))
apart j q i r (inr l) same = λ e. let m = l.1 in omega (arith, m, e)

-- a verdict that is given leaves the earlier ones as they are
pub earlier_stay : (t u : Table) (i r : ℕ) → OtherPairsStay i r t u → AgreeBefore t.rules i r (verdicts u) (verdicts t)
earlier_stay t u i r stay j q m e = stay j q m (apart j q i r e)

module _ (rules : ℕ) (judge : Judgement) (back : LooksBack rules judge) where
  module _ (f f' : AllVerdicts) (i r : ℕ) (same : AgreeBefore rules i r f' f) where
    -- an earlier verdict is still the judge's
    pub kept : (j q : ℕ) → q < rules → IsEarlier j q i r → f j q ≡ judge j q f → f' j q ≡ judge j q f'
    kept j q m e h = same j q m e ∙ h ∙ back j q f f' (λ a b l n. sym (same a b l (earlier_trans a b j q i r n e)))

    -- and so is the one that was given
    pub given : f' i r ≡ judge i r f → f' i r ≡ judge i r f'
    given h = h ∙ back i r f f' (λ a b l m. sym (same a b l m))

  -- two tables of one judge are one
  module _ (items : ℕ) (f g : AllVerdicts) (jf : IsJudged items rules judge f) (jg : IsJudged items rules judge g) where
    cells : (i : ℕ) → i < items → ((j q : ℕ) → j < i → q < rules → f j q ≡ g j q) → (n r : ℕ) → r < n → r < rules → f i r ≡ g i r
    cells i l before zero r m k = absurd (omega arith)
    cells i l before (suc n) r m k =
        jf i r l k
        ∙ back i r f g (λ j q u e. ⊎_elim (λ (a : j < i). before j q a u) (λ (a : (j ≡ i) × (q < r)). subst (λ x. f x q ≡ g x q) (sym a.0) (cells i l before n q (let b = a.1 in omega arith) u)) e)
        ∙ sym (jg i r l k)

    rows : (n i r : ℕ) → i < n → i < items → r < rules → f i r ≡ g i r
    rows zero i r m l k = absurd (omega arith)
    rows (suc n) i r m l k = cells i l (λ j q a u. rows n j q (omega arith) (omega arith) u) (suc r) r (omega arith) k

    pub only_table : (i r : ℕ) → i < items → r < rules → f i r ≡ g i r
    only_table i r l k = rows (suc i) i r (omega arith) l k
