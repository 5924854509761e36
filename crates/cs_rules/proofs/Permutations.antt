-- Lists in another order, and what is gathered from their elements.
use Rattle.std.proofs.Common.{◌≡◌, ℕ, zero, suc, ◌<◌, List, [], ◌∷◌, ◌++◌, length, get_or, sym, ap, ◌∙◌, subst, append_assoc, arith}
use Rattle.std.specs.Prelude.{slice_set}
use Rattle.std.specs.List.{flat_map, swap}
use Rattle.std.specs.List.Sorted.{IsPermutation}
use Rattle.std.proofs.lemmas.List.Sorted.{IsPermutation-refl, IsPermutation-sym, IsPermutation-trans, IsPermutation-append_comm, IsPermutation-append_left, IsPermutation-append_right, IsPermutation-cons, IsPermutation-middle, IsPermutation-keeps}

abbrev pub Same : {X : Type 0} → List X → List X → Type 0
Same = IsPermutation

pub equal : {X : Type 0} (xs ys : List X) → xs ≡ ys → Same xs ys
equal xs ys e = subst (Same xs) e (IsPermutation-refl xs)

pub joined : {X : Type 0} {xs ys zs : List X} → Same xs ys → Same ys zs → Same xs zs
joined {X} {xs} {ys} {zs} a b = IsPermutation-trans xs ys zs a b

-- two in the middle change places
pub exchange : {X : Type 0} (a b c d : List X) → Same ((a ++ b) ++ (c ++ d)) ((a ++ c) ++ (b ++ d))
exchange a b c d =
    let one = equal ((a ++ b) ++ (c ++ d)) (a ++ ((b ++ c) ++ d)) (append_assoc a b (c ++ d) ∙ ap (λ xs. a ++ xs) (sym (append_assoc b c d))) in
    let two = IsPermutation-append_right a ((b ++ c) ++ d) ((c ++ b) ++ d) (IsPermutation-append_left d (b ++ c) (c ++ b) (IsPermutation-append_comm b c)) in
    let three = equal (a ++ ((c ++ b) ++ d)) ((a ++ c) ++ (b ++ d)) (ap (λ xs. a ++ xs) (append_assoc c b d) ∙ sym (append_assoc a c (b ++ d))) in
    joined one (joined two three)

-- what is behind some is before them
pub to_front : {X : Type 0} (x : X) (xs ys zs : List X) → Same (xs ++ ys) zs → Same ((xs ++ x ∷ []) ++ ys) (x ∷ zs)
to_front x xs ys zs h = joined (equal ((xs ++ x ∷ []) ++ ys) (xs ++ x ∷ ys) (append_assoc xs (x ∷ []) ys)) (joined (IsPermutation-middle xs x ys) (IsPermutation-cons x (xs ++ ys) zs h))

-- the first part of what is in the middle goes to the front, and the other behind the rest
pub parted : {X : Type 0} (front middle a b back : List X) → Same (a ++ b) middle → Same (front ++ (middle ++ back)) ((front ++ a) ++ (back ++ b))
parted front middle a b back h =
    let one = IsPermutation-append_right front (middle ++ back) ((a ++ b) ++ back) (IsPermutation-append_left back middle (a ++ b) (IsPermutation-sym (a ++ b) middle h)) in
    let two = equal (front ++ ((a ++ b) ++ back)) ((front ++ a) ++ (b ++ back)) (ap (λ xs. front ++ xs) (append_assoc a b back) ∙ sym (append_assoc front a (b ++ back))) in
    let three = IsPermutation-append_right (front ++ a) (b ++ back) (back ++ b) (IsPermutation-append_comm b back) in
    joined one (joined two three)

-- ---- what is gathered from the elements

-- two in front change places
turned : {Y : Type 0} (a b c : List Y) → Same (a ++ (b ++ c)) (b ++ (a ++ c))
turned a b c = joined (equal _ _ (sym (append_assoc a b c))) (joined (IsPermutation-append_left c (a ++ b) (b ++ a) (IsPermutation-append_comm a b)) (equal _ _ (append_assoc b a c)))

module _ {X Y : Type 0} (f : X → List Y) where
  abbrev flat : List X → List Y
  flat = flat_map f

  -- one takes the place of another
  replaced : (xs : List X) (i : ℕ) (y d : X) → i < length xs → Same (f (get_or xs i d) ++ flat (slice_set xs i y)) (f y ++ flat xs)
  replaced [] i y d l = absurd (omega (arith, l))
  replaced (x ∷ xs) zero y d l = turned (f x) (f y) (flat xs)
  replaced (x ∷ xs) (suc i) y d l =
      joined (turned (f (get_or xs i d)) (f x) (flat (slice_set xs i y)))
      (joined (IsPermutation-append_right (f x) (f (get_or xs i d) ++ flat (slice_set xs i y)) (f y ++ flat xs) (replaced xs i y d (omega (arith, l))))
      (turned (f x) (f y) (flat xs)))

  exchanged : (xs : List X) (i j : ℕ) (d : X) → i < length xs → j < length xs → Same (flat xs) (flat (slice_set (slice_set xs i (get_or xs j d)) j (get_or xs i d)))
  exchanged [] i j d l m = absurd (omega (arith, l))
  exchanged (x ∷ xs) zero zero d l m = IsPermutation-refl _
  exchanged (x ∷ xs) zero (suc j) d l m = IsPermutation-sym _ _ (replaced xs j x d (omega (arith, m)))
  exchanged (x ∷ xs) (suc i) zero d l m = IsPermutation-sym _ _ (replaced xs i x d (omega (arith, l)))
  exchanged (x ∷ xs) (suc i) (suc j) d l m = IsPermutation-append_right (f x) _ _ (exchanged xs i j d (omega (arith, l)) (omega (arith, m)))

  swapped : (xs : List X) (i j : ℕ) → i < length xs → j < length xs → Same (flat xs) (flat (swap xs i j))
  swapped [] i j l m = IsPermutation-refl _
  swapped (x ∷ xs) i j l m = exchanged (x ∷ xs) i j x l m

  pub flat_map-IsPermutation : (xs ys : List X) → IsPermutation xs ys → IsPermutation (flat xs) (flat ys)
  flat_map-IsPermutation xs ys p =
      IsPermutation-keeps xs (λ zs. Same (flat xs) (flat zs)) (IsPermutation-refl (flat xs)) (λ zs i j l m h. joined h (swapped zs i j l m)) ys p
