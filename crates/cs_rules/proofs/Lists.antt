-- Lists that grow, and what is at their places.
use Rattle.std.proofs.Common.{◌≡◌, ℕ, zero, suc, ◌<◌, ◌⊎◌, inl, inr, ⊎_elim, true, false, Bool, List, [], ◌∷◌, ◌++◌, Some, map, length, take, drop, get_or, if◌then◌else◌, refl, sym, ap, ap₂, arith}
use Rattle.std.specs.Prelude.{slice_get}
use Rattle.std.specs.List.{AllByRecursion as Each}
use Rattle.std.specs.Str.{bytes_eq}
use Rattle.cs_document.specs.Document.{Entry, under}
use Rattle.cs_document.proofs.Each.{each_append}

-- ---- one more

pub each_push : {X : Type 0} (P : X → Type 0) (xs : List X) (x : X) → Each P xs → P x → Each P (xs ++ x ∷ [])
each_push P xs x h p = each_append P xs (x ∷ []) h (p, tt)

pub got_push : {X : Type 0} (xs : List X) (x y : X) (r : ℕ) → slice_get (xs ++ x ∷ []) r ≡ Some y → ((r < length xs) × (slice_get xs r ≡ Some y)) ⊎ ((r ≡ length xs) × (x ≡ y))
got_push [] x y zero e = inr (refl, cc)
got_push [] x y (suc r) e = cc
got_push (z ∷ zs) x y zero e = inl (omega arith, e)
got_push (z ∷ zs) x y (suc r) e = ⊎_elim (λ (l : (r < length zs) × (slice_get zs r ≡ Some y)). let a = l.0 in inl (omega arith, l.1)) (λ (l : (r ≡ length zs) × (x ≡ y)). inr (ap suc l.0, l.1)) (got_push zs x y r e)

pub got_last : {X : Type 0} (xs : List X) (x : X) → slice_get (xs ++ x ∷ []) (length xs) ≡ Some x
got_last [] x = refl
got_last (y ∷ xs) x = got_last xs x

pub got_front : {X : Type 0} (xs more : List X) (i : ℕ) (d : X) → slice_get xs i ≡ Some d → slice_get (xs ++ more) i ≡ Some d
got_front [] more i d e = cc
got_front (x ∷ xs) more zero d e = e
got_front (x ∷ xs) more (suc i) d e = got_front xs more i d e

-- ---- the first of those that are left

pub drop_mapped : {X Y : Type 0} (f : X → Y) (xs : List X) (k : ℕ) (x : X) → k < length xs → x ≡ get_or xs k x → drop k (map f xs) ≡ f x ∷ drop (suc k) (map f xs)
drop_mapped f [] k x l e = absurd (omega (arith, l))
drop_mapped f (y ∷ xs) zero x l e = ap (λ z. f z ∷ map f xs) (sym e)
drop_mapped f (y ∷ xs) (suc k) x l e = drop_mapped f xs k x (omega (arith, l)) e

pub take_dropped : {X : Type 0} (xs : List X) (k : ℕ) (x : X) → k < length xs → drop k xs ≡ x ∷ drop (suc k) xs → take (suc k) xs ≡ take k xs ++ x ∷ []
take_dropped [] k x l d = absurd (omega (arith, l))
take_dropped (y ∷ xs) zero x l d = ap (λ ys. take 1 ys) d
take_dropped (y ∷ xs) (suc k) x l d = ap (λ ys. y ∷ ys) (take_dropped xs k x (omega (arith, l)) d)

-- ---- numbers

-- names that agree below a number
pub numbers_same : {X : Type 0} (n : ℕ) (f f' : ℕ → X) → ((d : ℕ) → d < n → f d ≡ f' d) → (ds : List ℕ) → Each (λ d. d < n) ds → map f ds ≡ map f' ds
numbers_same n f f' h [] b = refl
numbers_same n f f' h (d ∷ ds) b = ap₂ ◌∷◌ (h d b.0) (numbers_same n f f' h ds b.1)

-- what is under a key is one of the members
pub found_below : (n : ℕ) (k : List ℕ) (ms : List (Entry ℕ)) (y : ℕ) → Each (λ (m : Entry ℕ). m.1 < n) ms → under k ms ≡ Some y → y < n
found_below n k [] y h e = cc
found_below n k (m ∷ ms) y h e = go (bytes_eq k m.0) e (found_below n k ms y h.1)
  where
    go : (b : Bool) → (if b then Some m.1 else under k ms) ≡ Some y → (under k ms ≡ Some y → y < n) → y < n
    go true e r = let s : m.1 ≡ y = cc in let l = h.0 in omega arith
    go false e r = r e
