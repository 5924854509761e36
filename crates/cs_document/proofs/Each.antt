-- Facts of each element of a list, and facts from some number on.
use Rattle.std.proofs.Common.{◌≡◌, ℕ, zero, suc, ◌<◌, ◌≤◌, max, Bool, true, ◌&&◌, ◌||◌, List, [], ◌∷◌, ◌++◌, map, length, drop, Contains, refl, ap₂, arith}
use Rattle.std.specs.List.{list_all, list_any, AllByRecursion as Each}
use Rattle.std.proofs.lemmas.Bool.{and_parts}

-- ---- each element of a list

pub each_of : {X : Type 0} (P : X → Type 0) → ((x : X) → P x) → (xs : List X) → Each P xs
each_of P f [] = tt
each_of P f (x ∷ xs) = (f x, each_of P f xs)

-- what holds of each member
pub each_member : {X : Type 0} (P : X → Type 0) (xs : List X) → ((x : X) → Contains xs x → P x) → Each P xs
each_member P [] f = tt
each_member P (x ∷ xs) f =
    (f x (0, omega arith, refl), each_member P xs (λ y c. let l : c.0 < length xs = c.1 in f y (suc c.0, omega (arith, l), c.2)))

pub each_map : {X : Type 0} (P Q : X → Type 0) → ((x : X) → P x → Q x) → (xs : List X) → Each P xs → Each Q xs
each_map P Q f [] h = tt
each_map P Q f (x ∷ xs) h = (f x h.0, each_map P Q f xs h.1)

-- from a map's values to what they are made of, and back
pub each_under : {X Y : Type 0} (f : X → Y) (P : Y → Type 0) (xs : List X) → Each P (map f xs) → Each (λ x. P (f x)) xs
each_under f P [] h = tt
each_under f P (x ∷ xs) h = (h.0, each_under f P xs h.1)

pub each_over : {X Y : Type 0} (f : X → Y) (P : Y → Type 0) (xs : List X) → Each (λ x. P (f x)) xs → Each P (map f xs)
each_over f P [] h = tt
each_over f P (x ∷ xs) h = (h.0, each_over f P xs h.1)

pub each_append : {X : Type 0} (P : X → Type 0) (xs ys : List X) → Each P xs → Each P ys → Each P (xs ++ ys)
each_append P [] ys h k = k
each_append P (x ∷ xs) ys h k = (h.0, each_append P xs ys h.1 k)

pub each_front : {X : Type 0} (P : X → Type 0) (xs ys : List X) → Each P (xs ++ ys) → Each P xs
each_front P [] ys h = tt
each_front P (x ∷ xs) ys h = (h.0, each_front P xs ys h.1)

pub each_back : {X : Type 0} (P : X → Type 0) (xs ys : List X) → Each P (xs ++ ys) → Each P ys
each_back P [] ys h = h
each_back P (x ∷ xs) ys h = each_back P xs ys h.1

pub each_drop : {X : Type 0} (P : X → Type 0) (n : ℕ) (xs : List X) → Each P xs → Each P (drop n xs)
each_drop P zero xs h = h
each_drop P (suc n) [] h = h
each_drop P (suc n) (x ∷ xs) h = each_drop P n xs h.1

-- ---- truth values of each element

pub all_same : {X : Type 0} (f g : X → Bool) (xs : List X) → Each (λ x. f x ≡ g x) xs → list_all f xs ≡ list_all g xs
all_same f g [] h = refl
all_same f g (x ∷ xs) h = ap₂ ◌&&◌ h.0 (all_same f g xs h.1)

pub any_same : {X : Type 0} (f g : X → Bool) (xs : List X) → Each (λ x. f x ≡ g x) xs → list_any f xs ≡ list_any g xs
any_same f g [] h = refl
any_same f g (x ∷ xs) h = ap₂ ◌||◌ h.0 (any_same f g xs h.1)

pub all_true : {X : Type 0} (f : X → Bool) (xs : List X) → list_all f xs ≡ true → Each (λ x. f x ≡ true) xs
all_true f [] e = tt
all_true f (x ∷ xs) e = let h = and_parts (f x) (list_all f xs) e in (h.0, all_true f xs h.1)

-- ---- from some number on

-- T holds of each number from the start on
pub record From (T : ℕ → Type 0) : Type 0 where
  pub start : ℕ
  pub holds : (k : ℕ) → start ≤ k → T k

-- what holds of each element from a number of its own on holds of all of them from one number on
pub from_each : {X : Type 0} (T : X → ℕ → Type 0) (xs : List X) → Each (λ x. From (T x)) xs → From (λ k. Each (λ x. T x k) xs)
from_each T [] h = record { start = 0; holds = λ k l. tt }
from_each T (x ∷ xs) h =
    let rest = from_each T xs h.1 in
    record { start = max h.0.start rest.start; holds = λ k l. (h.0.holds k (omega arith), rest.holds k (omega arith)) }

pub from_both : (S T : ℕ → Type 0) → From S → From T → From (λ k. S k × T k)
from_both S T s t = record { start = max s.start t.start; holds = λ k l. (s.holds k (omega arith), t.holds k (omega arith)) }
