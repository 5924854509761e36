-- An item takes the verdicts of an earlier one of its class.
use Rattle.std.proofs.Common.{◌≡◌, ℕ, zero, suc, ◌<◌, ◌+◌, ◌⊎◌, ⊎_elim, inl, inr, List, [], ◌∷◌, Option, Some, None, refl, sym, ap, ◌∙◌, subst, arith, below_more}
use Rattle.std.specs.Prelude.{MatchOption, IfSome, replicate, slice_get, slice_set}
use Rattle.cs_table.specs.Classes.{AnswersByClass, AreFirsts}
use Rattle.cs_table.specs.Filled.{AreOneSize, IsFilledTo, OtherItemsStay}
use Rattle.cs_table.specs.Judged.{Judgement, AgreeBefore, LooksBack, Table, verdicts}
use Rattle.cs_table.proofs.Tables.{kept}

module _ (items rules : ℕ) (answers : Judgement) (back : LooksBack rules answers) (is_of : ℕ → ℕ → Type 0) (by_class : AnswersByClass rules answers is_of) where
  -- the item i takes the row of the item j before it
  module _ (i j c : ℕ) (t u : Table) (filled : IsFilledTo i items rules answers t) (l : j < i) (here : is_of i c) (there : is_of j c) (size : AreOneSize t u) (taken : (r : ℕ) → r < t.rules → verdicts u i r ≡ verdicts t j r) (stay : OtherItemsStay i t u) where
    of_rules : (r : ℕ) → r < rules → r < t.rules
    of_rules r m = subst (λ n. r < n) (sym filled.rules) m

    same : AgreeBefore rules i 0 (verdicts u) (verdicts t)
    same k q m (inl n) = stay k q (of_rules q m) (λ e. omega (arith, n, e))
    same k q m (inr n) = let none = n.1 in absurd (omega (arith, none))

    before : (k r : ℕ) → k < i → r < rules → verdicts u k r ≡ answers k r (verdicts u)
    before k r m n = kept rules answers back (verdicts t) (verdicts u) i 0 same k r n (inl m) (filled.judged k r m n)

    row : (r : ℕ) → r < rules → verdicts u i r ≡ verdicts u j r
    row r m = taken r (of_rules r m) ∙ sym (stay j r (of_rules r m) (λ e. omega (arith, l, e)))

    now : (r : ℕ) → r < rules → verdicts u i r ≡ answers i r (verdicts u)
    now r m = row r m ∙ before j r l m ∙ sym (by_class i j c here there (verdicts u) row r m)

    pub repeated : IsFilledTo (i + 1) items rules answers u
    repeated = record {
      items = size.0 ∙ filled.items;
      rules = size.1 ∙ filled.rules;
      count = size.2 ∙ filled.count;
      judged = λ k r m n. below_more (λ x. verdicts u x r ≡ answers x r (verdicts u)) i (λ x a. before x r a n) (now r n) k m;
      blank = λ k r m n. stay k r (subst (λ x. r < x) size.1 m) (λ e. omega (arith, n, e)) ∙ filled.blank k r (subst (λ x. r < x) size.1 m) (omega (arith, n));
    }

-- ---- the first item of each class

none_there : (n k j : ℕ) → slice_get (replicate {A = Option ℕ} n None) k ≡ Some (Some j) → ⊥
none_there zero k j e = cc
none_there (suc n) zero j e = let clash : Some None ≡ Some (Some j) = e in cc
none_there (suc n) (suc k) j e = none_there n k j e

got_set : (xs : List (Option ℕ)) (c k : ℕ) (x y : Option ℕ) → slice_get (slice_set xs c x) k ≡ Some y → (slice_get xs k ≡ Some y) ⊎ ((k ≡ c) × (x ≡ y))
got_set [] c k x y e = cc
got_set (z ∷ zs) zero zero x y e = inr (refl, cc)
got_set (z ∷ zs) zero (suc k) x y e = inl e
got_set (z ∷ zs) (suc c) zero x y e = inl e
got_set (z ∷ zs) (suc c) (suc k) x y e = ⊎_elim (λ (l : slice_get zs k ≡ Some y). inl l) (λ (l : (k ≡ c) × (x ≡ y)). inr (ap suc l.0, l.1)) (got_set zs c k x y e)

module _ (is_of : ℕ → ℕ → Type 0) where
  pub no_firsts : (n : ℕ) (firsts : List (Option ℕ)) → firsts ≡ replicate n None → AreFirsts 0 is_of firsts
  no_firsts n firsts e c j is = absurd (none_there n c j (subst (λ xs. slice_get xs c ≡ Some (Some j)) e is))

  module _ (i : ℕ) (firsts : List (Option ℕ)) (h : AreFirsts i is_of firsts) where
    pub still_firsts : AreFirsts (i + 1) is_of firsts
    still_firsts c j is = let l = (h c j is).0 in (omega (arith, l), (h c j is).1)

    pub more_firsts : (class : Option ℕ) (new : List (Option ℕ)) → IfSome class (is_of i) → MatchOption class (new ≡ firsts) (λ c. new ≡ slice_set firsts c (Some i)) → AreFirsts (i + 1) is_of new
    more_firsts None new has e = subst (AreFirsts (i + 1) is_of) (sym e) still_firsts
    more_firsts (Some k) new has e = λ c j is. ⊎_elim
        (λ (a : slice_get firsts c ≡ Some (Some j)). still_firsts c j a)
        (λ (a : (c ≡ k) × (Some i ≡ Some j)). let same : i ≡ j = (let b = a.1 in cc) in (omega (arith, same), subst (λ x. is_of x c) same (subst (is_of i) (sym a.0) has)))
        (got_set firsts k c (Some i) (Some j) (subst (λ xs. slice_get xs c ≡ Some (Some j)) e is))
