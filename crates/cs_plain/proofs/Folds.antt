-- Lists, one element more behind those that are done: what is gathered of them, and what is carried along.
use Rattle.std.proofs.Common.{◌≡◌, ℕ, suc, ◌+◌, ◌<◌, List, [], ◌∷◌, ◌++◌, take, length, get_or, sym, ap, ap₂, ◌∙◌, append_assoc, arith}
use Rattle.std.proofs.lemmas.List.{append-nil, length-take}
use Rattle.cs_plain.proofs.Walks.{take_at}

-- F gathers what the elements have, one after another
module _ {A X : Type 0} (F : List A → List X) (own : A → List X) (empty : F [] ≡ []) (parts : (a : A) (rest : List A) → F (a ∷ rest) ≡ own a ++ F rest) where
  gathered : (xs : List A) (a : A) → F (xs ++ a ∷ []) ≡ F xs ++ own a
  gathered [] a = parts a [] ∙ ap (λ ys. own a ++ ys) empty ∙ append-nil (own a) ∙ sym (ap (λ ys. ys ++ own a) empty)
  gathered (x ∷ xs) a = parts x (xs ++ a ∷ []) ∙ ap (λ ys. own x ++ ys) (gathered xs a) ∙ sym (append_assoc (own x) (F xs) (own a)) ∙ ap (λ ys. ys ++ own a) (sym (parts x xs))

  pub gathered_more : (xs : List A) (i : ℕ) (a : A) → i < length xs → a ≡ get_or xs i a → F (take (i + 1) xs) ≡ F (take i xs) ++ own a
  gathered_more xs i a l is = ap F (take_at xs i a l is) ∙ gathered (take i xs) a

-- F carries something along, from each element by `step`
module _ {A B : Type 0} (F : List A → B → B) (step : A → B → B) (empty : (b : B) → F [] b ≡ b) (parts : (a : A) (rest : List A) (b : B) → F (a ∷ rest) b ≡ F rest (step a b)) where
  folded : (xs : List A) (a : A) (b : B) → F (xs ++ a ∷ []) b ≡ step a (F xs b)
  folded [] a b = parts a [] b ∙ empty (step a b) ∙ ap (step a) (sym (empty b))
  folded (x ∷ xs) a b = parts x (xs ++ a ∷ []) b ∙ folded xs a (step x b) ∙ ap (step a) (sym (parts x xs b))

  pub folded_more : (xs : List A) (i : ℕ) (a : A) (b : B) → i < length xs → a ≡ get_or xs i a → F (take (i + 1) xs) b ≡ step a (F (take i xs) b)
  folded_more xs i a b l is = ap (λ ys. F ys b) (take_at xs i a l is) ∙ folded (take i xs) a b

-- the same of elements with their numbers, which count on
module _ {A X : Type 0} (F : ℕ → List A → List X) (own : ℕ → A → List X) (empty : (k : ℕ) → F k [] ≡ []) (parts : (k : ℕ) (a : A) (rest : List A) → F k (a ∷ rest) ≡ own k a ++ F (suc k) rest) where
  numbered : (k : ℕ) (xs : List A) (a : A) (n : ℕ) → n ≡ k + length xs → F k (xs ++ a ∷ []) ≡ F k xs ++ own n a
  numbered k [] a n e =
      parts k a [] ∙ ap (λ ys. own k a ++ ys) (empty (suc k)) ∙ append-nil (own k a) ∙ ap (λ m. own m a) (omega arith) ∙ sym (ap (λ ys. ys ++ own n a) (empty k))
  numbered k (x ∷ xs) a n e =
      parts k x (xs ++ a ∷ []) ∙ ap (λ ys. own k x ++ ys) (numbered (suc k) xs a n (omega arith)) ∙ sym (append_assoc (own k x) (F (suc k) xs) (own n a)) ∙ ap (λ ys. ys ++ own n a) (sym (parts k x xs))

  pub numbered_more : (xs : List A) (i : ℕ) (a : A) → i < length xs → a ≡ get_or xs i a → F 0 (take (i + 1) xs) ≡ F 0 (take i xs) ++ own i a
  numbered_more xs i a l is = ap (F 0) (take_at xs i a l is) ∙ numbered 0 (take i xs) a i (omega (arith, length-take i xs))

module _ {A B : Type 0} (F : ℕ → List A → B → B) (step : ℕ → A → B → B) (empty : (k : ℕ) (b : B) → F k [] b ≡ b) (parts : (k : ℕ) (a : A) (rest : List A) (b : B) → F k (a ∷ rest) b ≡ F (suc k) rest (step k a b)) where
  counted : (k : ℕ) (xs : List A) (a : A) (b : B) (n : ℕ) → n ≡ k + length xs → F k (xs ++ a ∷ []) b ≡ step n a (F k xs b)
  counted k [] a b n e = parts k a [] b ∙ empty (suc k) (step k a b) ∙ ap₂ (λ m c. step m a c) (omega arith) (sym (empty k b))
  counted k (x ∷ xs) a b n e = parts k x (xs ++ a ∷ []) b ∙ counted (suc k) xs a (step k x b) n (omega arith) ∙ ap (step n a) (sym (parts k x xs b))

  pub counted_more : (xs : List A) (i : ℕ) (a : A) (b : B) → i < length xs → a ≡ get_or xs i a → F 0 (take (i + 1) xs) b ≡ step i a (F 0 (take i xs) b)
  counted_more xs i a b l is = ap (λ ys. F 0 ys b) (take_at xs i a l is) ∙ counted 0 (take i xs) a b i (omega (arith, length-take i xs))
