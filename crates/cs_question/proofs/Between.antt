-- Integers between limits, and conjunctions of them.
use Rattle.std.proofs.Common.{◌≡◌, ℕ, zero, suc, ◌+◌, ◌<◌, ℤ, Bool, true, false, ◌&&◌, Option, List, [], ◌∷◌, length, take, get_or, add-one, refl, sym, ap, ap₂, ◌∙◌, arith}
use Rattle.std.specs.List.{list_all}
use Rattle.cs_document.specs.Opened.{Opened, a_null, a_boolean, an_integer, a_text, a_list, an_object}
use Rattle.cs_instance.specs.Constraint.{Outline, outline, Constraint, simple, all_of, any_of, object_of, list_of, is_integer, is_satisfied}
use Rattle.cs_question.specs.Between.{is_between, IsRange}

pub and_true : (b : Bool) → (b && true) ≡ b
and_true true = refl
and_true false = refl

and_regrouped : (a b c : Bool) → (a && (b && c)) ≡ ((a && b) && c)
and_regrouped true b c = refl
and_regrouped false b c = refl

-- a test of integers, of whatever kind
pub integer_same : (p q : ℤ → Bool) → ((z : ℤ) → p z ≡ q z) → (o : Outline) → is_integer p o ≡ is_integer q o
integer_same p q h a_null = refl
integer_same p q h (a_boolean b) = refl
integer_same p q h (an_integer z) = h z
integer_same p q h (a_text s) = refl
integer_same p q h (a_list ys) = refl
integer_same p q h (an_object ms) = refl

pub integer_both : (p q : ℤ → Bool) (o : Outline) → (is_integer p o && is_integer q o) ≡ is_integer (λ z. p z && q z) o
integer_both p q a_null = refl
integer_both p q (a_boolean b) = refl
integer_both p q (an_integer z) = refl
integer_both p q (a_text s) = refl
integer_both p q (a_list ys) = refl
integer_both p q (an_object ms) = refl

pub range_is : {A : Type 0} (here : ℕ → Bool) (inside : A → ℕ → Bool) (c : Constraint ℕ ℕ) (least greatest : Option ℤ) (x : Opened A) → IsRange c least greatest → is_satisfied here inside c x ≡ is_integer (is_between least greatest) (outline x)
range_is here inside (simple p) least greatest x h = h (outline x)
range_is here inside (all_of rs) least greatest x h = absurd h
range_is here inside (any_of rs) least greatest x h = absurd h
range_is here inside (object_of ds opened) least greatest x h = absurd h
range_is here inside (list_of es rest) least greatest x h = absurd h

-- ---- conjunctions

all_suc : (f : ℕ → Bool) (xs : List ℕ) (i : ℕ) → i < length xs → list_all f (take (suc i) xs) ≡ (list_all f (take i xs) && f (get_or xs i 0))
all_suc f [] i l = absurd (omega (arith, l))
all_suc f (x ∷ xs) zero l = and_true (f x)
all_suc f (x ∷ xs) (suc i) l = ap (λ b. f x && b) (all_suc f xs i (omega (arith, l))) ∙ and_regrouped (f x) (list_all f (take i xs)) (f (get_or xs i 0))

pub range_more : (f : ℕ → Bool) (xs : List ℕ) (i : ℕ) (a : Bool) (p q r : ℤ → Bool) (o : Outline) → i < length xs → (a && list_all f (take i xs)) ≡ is_integer p o → f (get_or xs i 0) ≡ is_integer q o → ((z : ℤ) → r z ≡ (p z && q z))
    → (a && list_all f (take (i + 1) xs)) ≡ is_integer r o
range_more f xs i a p q r o within before here both =
    ap (λ k. a && list_all f (take k xs)) (add-one i) ∙ ap (λ b. a && b) (all_suc f xs i within) ∙ and_regrouped a (list_all f (take i xs)) (f (get_or xs i 0))
    ∙ ap₂ ◌&&◌ before here ∙ integer_both p q o ∙ sym (integer_same r (λ z. p z && q z) both o)

-- a test that follows from another one
pub absorbed : (a b : Bool) → (b ≡ true → a ≡ true) → (a && b) ≡ b
absorbed true b h = refl
absorbed false true h = h refl
absorbed false false h = refl
