-- Facts of some element of a list, and of tests of all and of some.
use Rattle.std.proofs.Common.{◌≡◌, ℕ, zero, suc, ◌+◌, ◌<◌, ◌⊎◌, inl, inr, Bool, true, false, not, ◌&&◌, ◌||◌, List, [], ◌∷◌, ◌++◌, Contains, get_or, length, refl, sym, ap, ap₂, ◌∙◌, subst, arith}
use Rattle.std.specs.Bool.{beq}
use Rattle.std.specs.Prelude.{slice_get, Some}
use Rattle.std.specs.List.{insert}
use Rattle.std.proofs.lemmas.Option.{same_Some}
use Rattle.std.specs.List.{list_all, list_any, AllByRecursion as Each}
use Rattle.std.proofs.lemmas.Bool.{and_parts, and_from, and_cases, or_cases, cases_Bool}
use Rattle.cs_question.specs.Spread.{SomeOf}

-- ---- tests

pub beq_is : (a b : Bool) → beq a b ≡ true → a ≡ b
beq_is true true e = refl
beq_is false false e = refl
beq_is true false e = cc
beq_is false true e = cc

pub beq_same : (a b : Bool) → a ≡ b → beq a b ≡ true
beq_same true true e = refl
beq_same false false e = refl
beq_same true false e = cc
beq_same false true e = cc

pub or_right : (a b : Bool) → b ≡ true → (a || b) ≡ true
or_right true b e = refl
or_right false b e = e

pub or_left : (a b : Bool) → a ≡ true → (a || b) ≡ true
or_left a b e = ap (λ v. v || b) e

pub or_none : (a b : Bool) → (a || b) ≡ false → (a ≡ false) × (b ≡ false)
or_none true b e = cc
or_none false b e = (refl, e)

-- ---- some element

module _ {X : Type 0} (P : X → Type 0) where
  pub some_front : (xs ys : List X) → SomeOf P xs → SomeOf P (xs ++ ys)
  some_front [] ys h = absurd h
  some_front (x ∷ xs) ys (inl h) = inl h
  some_front (x ∷ xs) ys (inr h) = inr (some_front xs ys h)

  pub some_back : (xs ys : List X) → SomeOf P ys → SomeOf P (xs ++ ys)
  some_back [] ys h = h
  some_back (x ∷ xs) ys h = inr (some_back xs ys h)

  pub some_split : (xs ys : List X) → SomeOf P (xs ++ ys) → SomeOf P xs ⊎ SomeOf P ys
  some_split [] ys h = inr h
  some_split (x ∷ xs) ys (inl h) = inl (inl h)
  some_split (x ∷ xs) ys (inr h) = elim (some_split xs ys h) [ inl k ↦ inl (inr k) | inr k ↦ inr k ]

  pub some_parted : (B : X → Type 0) → ((x : X) → B x ⊎ (B x → ⊥)) → (xs : List X) → SomeOf P xs → SomeOf (λ x. B x × P x) xs ⊎ SomeOf (λ x. (B x → ⊥) × P x) xs
  some_parted B d [] h = absurd h
  some_parted B d (x ∷ xs) (inl h) = elim (d x) [ inl b ↦ inl (inl (b, h)) | inr b ↦ inr (inl (b, h)) ]
  some_parted B d (x ∷ xs) (inr h) = elim (some_parted B d xs h) [ inl k ↦ inl (inr k) | inr k ↦ inr (inr k) ]

  pub each_of_none : (xs : List X) → ((x : X) → P x → ⊥) → SomeOf P xs → ⊥
  each_of_none [] f h = h
  each_of_none (x ∷ xs) f (inl h) = f x h
  each_of_none (x ∷ xs) f (inr h) = each_of_none xs f h

pub some_map : {X : Type 0} (P Q : X → Type 0) → ((x : X) → P x → Q x) → (xs : List X) → SomeOf P xs → SomeOf Q xs
some_map P Q f [] h = h
some_map P Q f (x ∷ xs) (inl h) = inl (f x h)
some_map P Q f (x ∷ xs) (inr h) = inr (some_map P Q f xs h)

-- ---- tests of all elements, and of some

module _ {X : Type 0} (f : X → Bool) where
  pub all_from : (xs : List X) → Each (λ x. f x ≡ true) xs → list_all f xs ≡ true
  all_from [] h = refl
  all_from (x ∷ xs) h = and_from (f x) (list_all f xs) h.0 (all_from xs h.1)

  pub some_false : (xs : List X) → list_all f xs ≡ false → SomeOf (λ x. f x ≡ false) xs
  some_false [] e = cc
  some_false (x ∷ xs) e = elim (and_cases (f x) (list_all f xs) e) [ inl h ↦ inl h | inr h ↦ inr (some_false xs h) ]

  pub some_true : (xs : List X) → list_any f xs ≡ true → SomeOf (λ x. f x ≡ true) xs
  some_true [] e = cc
  some_true (x ∷ xs) e = elim (or_cases (f x) (list_any f xs) e) [ inl h ↦ inl h | inr h ↦ inr (some_true xs h) ]

  pub any_from : (xs : List X) → SomeOf (λ x. f x ≡ true) xs → list_any f xs ≡ true
  any_from [] h = absurd h
  any_from (x ∷ xs) (inl h) = or_left (f x) (list_any f xs) h
  any_from (x ∷ xs) (inr h) = or_right (f x) (list_any f xs) (any_from xs h)

  pub none_true : (xs : List X) → list_any f xs ≡ false → Each (λ x. f x ≡ false) xs
  none_true [] e = tt
  none_true (x ∷ xs) e = let h = or_none (f x) (list_any f xs) e in (h.0, none_true xs h.1)

  pub all_contained : (xs : List X) (x : X) → list_all f xs ≡ true → Contains xs x → f x ≡ true
  all_contained [] x e c = absurd (let l : c.0 < 0 = c.1 in omega (arith, l))
  all_contained (y ∷ xs) x e (zero, l, is) = subst (λ z. f z ≡ true) is (and_parts (f y) (list_all f xs) e).0
  all_contained (y ∷ xs) x e (suc i, l, is) = all_contained xs x (and_parts (f y) (list_all f xs) e).1 (i, omega (arith, l), is)

-- ---- an element put among others

module _ {X : Type 0} (f : X → Bool) where
  pub all_inserted : (xs : List X) (i : ℕ) (x : X) → list_all f xs ≡ true → f x ≡ true → list_all f (insert xs i x) ≡ true
  all_inserted [] zero x h k = and_from (f x) true k refl
  all_inserted [] (suc i) x h k = and_from (f x) true k refl
  all_inserted (y ∷ xs) zero x h k = and_from (f x) (list_all f (y ∷ xs)) k h
  all_inserted (y ∷ xs) (suc i) x h k = let q = and_parts (f y) (list_all f xs) h in and_from (f y) (list_all f (insert xs i x)) q.0 (all_inserted xs i x q.1 k)

  pub any_past : (xs : List X) (i : ℕ) (x : X) → list_any f xs ≡ true → list_any f (insert xs i x) ≡ true
  any_past [] i x h = cc
  any_past (y ∷ xs) zero x h = or_right (f x) (list_any f (y ∷ xs)) h
  any_past (y ∷ xs) (suc i) x h = elim (or_cases (f y) (list_any f xs) h) [
    | inl k ↦ or_left (f y) (list_any f (insert xs i x)) k
    | inr k ↦ or_right (f y) (list_any f (insert xs i x)) (any_past xs i x k)
  ]

  pub any_there : (xs : List X) (i : ℕ) (x : X) → f x ≡ true → list_any f (insert xs i x) ≡ true
  any_there [] zero x k = or_left (f x) false k
  any_there [] (suc i) x k = or_left (f x) false k
  any_there (y ∷ xs) zero x k = or_left (f x) (list_any f (y ∷ xs)) k
  any_there (y ∷ xs) (suc i) x k = or_right (f y) (list_any f (insert xs i x)) (any_there xs i x k)

  pub any_got : (xs : List X) (i : ℕ) (x : X) → slice_get xs i ≡ Some x → f x ≡ true → list_any f xs ≡ true
  any_got [] i x e k = cc
  any_got (y ∷ xs) zero x e k = or_left (f y) (list_any f xs) (subst (λ z. f z ≡ true) (sym (same_Some y x e)) k)
  any_got (y ∷ xs) (suc i) x e k = or_right (f y) (list_any f xs) (any_got xs i x e k)

pub lists_same : {X : Type 0} (xs ys : List X) → length xs ≡ length ys → ((k : ℕ) → k < length xs → slice_get xs k ≡ slice_get ys k) → xs ≡ ys
lists_same [] [] l h = refl
lists_same [] (y ∷ ys) l h = absurd (omega (arith, l))
lists_same (x ∷ xs) [] l h = absurd (omega (arith, l))
lists_same (x ∷ xs) (y ∷ ys) l h = ap₂ ◌∷◌ (same_Some x y (h 0 (omega arith))) (lists_same xs ys (omega (arith, l)) (λ k b. h (suc k) (omega (arith, b))))

pub or_false : (a b : Bool) → a ≡ false → (a || b) ≡ true → b ≡ true
or_false true b e h = cc
or_false false b e h = h

pub all_placed : {X : Type 0} (f : X → Bool) (xs : List X) (i : ℕ) (x : X) → list_all f xs ≡ true → slice_get xs i ≡ Some x → f x ≡ true
all_placed f [] i x h e = cc
all_placed f (y ∷ xs) zero x h e = subst (λ z. f z ≡ true) (same_Some y x e) (and_parts (f y) (list_all f xs) h).0
all_placed f (y ∷ xs) (suc i) x h e = all_placed f xs i x (and_parts (f y) (list_all f xs) h).1 e

-- ---- an element that is taken from the end

only_one : {X : Type 0} (P : X → Type 0) (x : X) → SomeOf P (x ∷ []) → P x
only_one P x (inl h) = h
only_one P x (inr h) = absurd h

pub popped_one : {X : Type 0} (P : X → Type 0) (old new : List X) (x : X) → old ≡ new ++ x ∷ [] → SomeOf P old → SomeOf P new ⊎ P x
popped_one P old new x is h = elim (some_split P new (x ∷ []) (subst (SomeOf P) is h)) [ inl k ↦ inl k | inr k ↦ inr (only_one P x k) ]

pub popped_none : {X : Type 0} (P : X → Type 0) (xs : List X) → length xs ≡ 0 → SomeOf P xs → ⊥
popped_none P [] e h = h
popped_none P (x ∷ xs) e h = absurd (omega (arith, e))
