-- An item is judged rule by rule.
use Rattle.std.proofs.Common.{◌≡◌, ◌≢◌, ℕ, zero, suc, ◌<◌, ◌+◌, ◌⊎◌, ⊎_elim, inl, inr, Bool, ◌||◌, refl, sym, ap, ◌∙◌, subst, arith, below_more}
use Rattle.std.proofs.lemmas.Bool.{cases_eq}
use Rattle.cs_table.specs.Filled.{AreOneSize, IsFilledTo, IsUnderWay, OtherPairsStay}
use Rattle.cs_table.specs.Judged.{Judgement, AgreeBefore, LooksBack, Table, verdicts}
use Rattle.cs_table.proofs.Tables.{earlier_stay, kept, given}

-- a rule is one of the order, or none of it
one_or_none : (order : ℕ → ℕ) (n r : ℕ) → ((j : ℕ) × ((j < n) × (order j ≡ r))) ⊎ ((j : ℕ) → j < n → order j ≢ r)
one_or_none order zero r = inr (λ j l. absurd (omega (arith, l)))
one_or_none order (suc n) r = ⊎_elim
    (λ (found : (j : ℕ) × ((j < n) × (order j ≡ r))). inl (found.0, (let l = found.1.0 in omega arith, found.1.1)))
    (λ (none : (j : ℕ) → j < n → order j ≢ r). ⊎_elim
    (λ (e : order n ≡ r). inl (n, (omega arith, e)))
    (λ (e : order n ≢ r). inr (λ j l. below_more (λ k. order k ≢ r) n none e j (omega arith)))
    (cases_eq (order n) r))
    (one_or_none order n r)

module _ (i items rules : ℕ) (answers : Judgement) (back : LooksBack rules answers) (order : ℕ → ℕ) (total : ℕ) (decided : ℕ → Bool) where
  -- a rule more is judged
  module _ (k : ℕ) (t u : Table) (v : Bool) (way : IsUnderWay k i items rules answers order total decided t) (l : k < total) (within : (j : ℕ) → j < total → order j < rules) (ascends : (j n : ℕ) → j < n → n < total → order j < order n) (size : AreOneSize t u) (is : verdicts u i (order k) ≡ (verdicts t i (order k) || v)) (answer : v ≡ answers i (order k) (verdicts t)) (stay : OtherPairsStay i (order k) t u) where
    same : AgreeBefore rules i (order k) (verdicts u) (verdicts t)
    same = subst (λ n. AgreeBefore n i (order k) (verdicts u) (verdicts t)) way.rules (earlier_stay t u i (order k) stay)

    of_rules : (r : ℕ) → r < rules → r < t.rules
    of_rules r m = subst (λ n. r < n) (sym way.rules) m

    now : verdicts u i (order k) ≡ answers i (order k) (verdicts t)
    now = is ∙ ap (λ b. b || v) (way.left k (omega arith) l) ∙ answer

    pub step : IsUnderWay (k + 1) i items rules answers order total decided u
    step = record {
      items = size.0 ∙ way.items;
      rules = size.1 ∙ way.rules;
      count = size.2 ∙ way.count;
      judged = λ j q m n. kept rules answers back (verdicts t) (verdicts u) i (order k) same j q n (inl m) (way.judged j q m n);
      here = below_more (λ j. verdicts u i (order j) ≡ answers i (order j) (verdicts u)) k
          (λ j m. kept rules answers back (verdicts t) (verdicts u) i (order k) same i (order j) (within j (omega arith)) (inr (refl, ascends j k m l)) (way.here j m))
          (given rules answers back (verdicts t) (verdicts u) i (order k) same now);
      left = λ j m n. stay i (order j) (of_rules (order j) (within j n)) (λ _ e. let a = ascends k j (omega arith) n in omega arith) ∙ way.left j (omega arith) n;
      outside = λ r m none. stay i r (of_rules r m) (λ _ e. none k l (sym e)) ∙ way.outside r m none;
      blank = λ j r m n. stay j r (subst (λ x. r < x) size.1 m) (λ e. absurd (omega arith)) ∙ way.blank j r (subst (λ x. r < x) size.1 m) n;
    }

  -- all rules are judged
  pub finish : (t : Table) → IsUnderWay total i items rules answers order total decided t → ((r : ℕ) → r < rules → ((j : ℕ) → j < total → order j ≢ r) → answers i r (verdicts t) ≡ decided r) → IsFilledTo (i + 1) items rules answers t
  finish t way as_decided =
      let row : (r : ℕ) → r < rules → verdicts t i r ≡ answers i r (verdicts t) = λ r m. ⊎_elim
      (λ (found : (j : ℕ) × ((j < total) × (order j ≡ r))). subst (λ q. verdicts t i q ≡ answers i q (verdicts t)) found.1.1 (way.here found.0 found.1.0))
      (λ (none : (j : ℕ) → j < total → order j ≢ r). way.outside r m none ∙ sym (as_decided r m none))
      (one_or_none order total r) in
      record {
        items = way.items;
        rules = way.rules;
        count = way.count;
        judged = λ j r m n. below_more (λ x. verdicts t x r ≡ answers x r (verdicts t)) i (λ x a. way.judged x r a n) (row r n) j m;
        blank = way.blank;
      }
