-- Facts of some key of a set, where another key is put.
use Rattle.std.proofs.Common.{◌≡◌, Bool, true, false, ◌||◌, ◌⊎◌, inl, inr, List, [], ◌∷◌, Option, Some, Ordering, Less, Equal, Greater, cond, sym, ap, ◌∙◌, subst}
use Rattle.std.specs.BTreeMap.{is_at}
use Rattle.std.specs.BTreeSet.{insert_key}
use Rattle.std.specs.List.{list_any, find}
use Rattle.std.specs.Ordering.{match_ordering}
use Rattle.std.proofs.lemmas.Bool.{or_cases, cases_Bool}
use Rattle.std.proofs.lemmas.Option.{same_Some}
use Rattle.cs_question.proofs.Some.{or_left, or_right, or_none}

module _ {K : Type 0} (cmp : K → K → Ordering) (f : K → Bool) where
  pub key_kept : (ks : List K) (k : K) → list_any f ks ≡ true → list_any f (insert_key cmp ks k) ≡ true
  key_kept [] k h = cc
  key_kept (x ∷ xs) k h = by (cmp k x) (λ e. key_kept xs k e)
    where
      by : (o : Ordering) → (list_any f xs ≡ true → list_any f (insert_key cmp xs k) ≡ true) → list_any f (match_ordering o (k ∷ x ∷ xs) (x ∷ xs) (x ∷ insert_key cmp xs k)) ≡ true
      by Less r = or_right (f k) (list_any f (x ∷ xs)) h
      by Equal r = h
      by Greater r = elim (or_cases (f x) (list_any f xs) h) [
        | inl e ↦ or_left (f x) (list_any f (insert_key cmp xs k)) e
        | inr e ↦ or_right (f x) (list_any f (insert_key cmp xs k)) (r e)
      ]

  -- the key itself, where none is equal to it by the order
  pub key_there : (ks : List K) (k : K) → list_any (is_at (cmp k)) ks ≡ false → f k ≡ true → list_any f (insert_key cmp ks k) ≡ true
  key_there [] k a h = or_left (f k) false h
  key_there (x ∷ xs) k a h = by (cmp k x) (or_none (is_at (cmp k) x) (list_any (is_at (cmp k)) xs) a) (λ e. key_there xs k e h)
    where
      by : (o : Ordering) → (is_at (λ y. o) x ≡ false) × (list_any (is_at (cmp k)) xs ≡ false) → (list_any (is_at (cmp k)) xs ≡ false → list_any f (insert_key cmp xs k) ≡ true) → list_any f (match_ordering o (k ∷ x ∷ xs) (x ∷ xs) (x ∷ insert_key cmp xs k)) ≡ true
      by Less e r = or_left (f k) (list_any f (x ∷ xs)) h
      by Equal e r = let d = e.0 in cc
      by Greater e r = or_right (f x) (list_any f (insert_key cmp xs k)) (r e.1)

pub key_found : {K : Type 0} (test f : K → Bool) (ks : List K) (k : K) → find test ks ≡ Some k → f k ≡ true → list_any f ks ≡ true
key_found test f [] k e h = cc
key_found test f (x ∷ xs) k e h = elim (cases_Bool (test x)) [
  | inl t ↦ or_left (f x) (list_any f xs) (subst (λ y. f y ≡ true) (sym (same_Some x k (subst (λ b. cond b (Some x) (find test xs) ≡ Some k) t e))) h)
  | inr t ↦ or_right (f x) (list_any f xs) (key_found test f xs k (subst (λ b. cond b (Some x) (find test xs) ≡ Some k) t e) h)
]
