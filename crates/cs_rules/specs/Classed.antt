-- Classes of scalars: those of one class are alike.
use Rattle.std.specs.Prelude.{◌≡◌, ℕ, suc, ◌+◌, ◌*◌, ◌≤◌, ◌⊎◌, nat_lt, nat_le, ℤ, int_lt, Bool, true, false, if◌then◌else◌, cond, List, [], ◌∷◌, length, Option, Some, None, slice_get}
use Rattle.std.specs.List.{AllByRecursion as Each}
use Rattle.std.specs.Ordering.{int_cmp, is_lt, ordering_reverse}
use Rattle.std.specs.declared.cmp.Ordering.{Ordering}
use Rattle.std.specs.declared.cmp.Ordering.TheVariants.{Less, Equal, Greater}
use Rattle.std.specs.Cmp.{IsTotalOrder}
use Rattle.std.specs.Str.{bytes_eq}
use Rattle.std.proofs.Common.{refl, sym, ap, subst, ◌∙◌, inl, inr, arith}
use Rattle.std.proofs.lemmas.Cmp.{int_cmp_total}
use Rattle.std.proofs.lemmas.Option.{slice_get_within}
use Rattle.cs_document.specs.Opened.{Opened, a_null, a_boolean, an_integer, a_text, a_list, an_object}
use Rattle.cs_document.specs.Sizes.{text_length}
use Rattle.cs_document.specs.Inside.{InsideBelow}
use Rattle.cs_rules.specs.Alike.{Compared, AreAlike}

-- how each of the first i compares with something behind them, and each other one
abbrev pub by_place : ℕ → ℕ → Ordering
by_place k i = if nat_lt k i then Less else Greater

-- where something is among marks in order, which compare with it so: at one, or between two
abbrev pub IsPlace : {X : Type 0} → (X → Ordering) → List X → ℕ → Type 0
IsPlace {X} ord xs p =
    ((i : ℕ) × (x : X) × (p ≡ 2 * i + 1) × (slice_get xs i ≡ Some x) × (ord x ≡ Equal))
    ⊎ ((i : ℕ) × (p ≡ 2 * i) × ((k : ℕ) (x : X) → slice_get xs k ≡ Some x → ord x ≡ by_place k i))

-- so many of the lengths, which are in order, are at most n
abbrev pub IsReached : List ℕ → ℕ → ℕ → Type 0
IsReached lengths n p = (k x : ℕ) → slice_get lengths k ≡ Some x → nat_le x n ≡ nat_lt k p

-- where a text is among the marks: at one, or behind them by how many of the lengths it reaches
abbrev pub IsTextPlace : Compared → List ℕ → ℕ → Type 0
IsTextPlace m s p =
    (slice_get m.texts p ≡ Some s)
    ⊎ ((k : ℕ) × (p ≡ length m.texts + k) × Each (λ u. bytes_eq u s ≡ false) m.texts × IsReached m.lengths (text_length s) k)

-- the number of a boolean's class
abbrev pub boolean_class : Bool → ℕ
boolean_class b = if b then 2 else 1

-- null, false and true have a class of their own; integers and texts one for each place among the marks
abbrev pub HasClass : Compared → Opened ℕ → ℕ → Type 0
HasClass m a_null c = c ≡ 0
HasClass m (a_boolean b) c = c ≡ boolean_class b
HasClass m (an_integer z) c = (p : ℕ) × (c ≡ 3 + p) × (p ≤ 2 * length m.integers) × IsPlace (λ k. int_cmp k z) m.integers p
HasClass m (a_text s) c = (p : ℕ) × (c ≡ 4 + 2 * length m.integers + p) × IsTextPlace m s p
HasClass m _ c = ⊥

-- the class of an item, if there is one
abbrev pub HasClassAt : Compared → Option (Opened ℕ) → ℕ → Type 0
HasClassAt m None c = ⊥
HasClassAt m (Some x) c = HasClass m x c

-- ---- what is at one place compares the same with each mark

pub each_from : {X : Type 0} (P : X → Type 0) (xs : List X) → ((k : ℕ) (x : X) → slice_get xs k ≡ Some x → P x) → Each P xs
each_from P [] h = tt
each_from P (x ∷ xs) h = (h 0 x refl, each_from P xs (λ k y e. h (suc k) y e))

module _ {X : Type 0} {cmp : X → X → Ordering} (order : IsTotalOrder cmp) (xs : List X) (z w : X) where
  turned : (k : X) → cmp z k ≡ cmp w k → cmp k z ≡ cmp k w
  turned k e = order.antisymm k z ∙ ap ordering_reverse e ∙ sym (order.antisymm k w)

  same_place : (p : ℕ) → IsPlace (λ k. cmp k z) xs p → IsPlace (λ k. cmp k w) xs p → Each (λ k. cmp k z ≡ cmp k w) xs
  same_place p (inl a) (inl b) =
      let same : a.0 ≡ b.0 = omega (arith, a.2, b.2) in
      let one : Some a.1 ≡ Some b.1 = sym a.3 ∙ ap (slice_get xs) same ∙ b.3 in
      let mark : a.1 ≡ b.1 = cc in
      each_from (λ k. cmp k z ≡ cmp k w) xs (λ i k e. turned k (sym (order.congr a.1 z k a.4) ∙ order.congr a.1 w k (ap (λ x. cmp x w) mark ∙ b.4)))
  same_place p (inl a) (inr b) = absurd (omega (arith, a.2, b.1))
  same_place p (inr a) (inl b) = absurd (omega (arith, a.1, b.2))
  same_place p (inr a) (inr b) =
      let same : a.0 ≡ b.0 = omega (arith, a.1, b.1) in
      each_from (λ k. cmp k z ≡ cmp k w) xs (λ i k e. a.2 i k e ∙ ap (by_place i) same ∙ sym (b.2 i k e))

below_is : (a b : Bool) → is_lt (cond a Less (cond b Greater Equal)) ≡ a
below_is true b = refl
below_is false true = refl
below_is false false = refl

less_is : (x y : ℤ) → is_lt (int_cmp x y) ≡ int_lt x y
less_is x y = below_is (int_lt x y) (int_lt y x)

same_integer : (k z w : ℤ) → int_cmp k z ≡ int_cmp k w → (int_lt z k ≡ int_lt w k) × (int_lt k z ≡ int_lt k w)
same_integer k z w e = (
  sym (less_is z k) ∙ ap is_lt (int_cmp_total.antisymm z k ∙ ap ordering_reverse e ∙ sym (int_cmp_total.antisymm w k)) ∙ less_is w k,
  sym (less_is k z) ∙ ap is_lt e ∙ less_is k w,
)

each_more : {X : Type 0} (P Q : X → Type 0) → ((x : X) → P x → Q x) → (xs : List X) → Each P xs → Each Q xs
each_more P Q f [] h = tt
each_more P Q f (x ∷ xs) h = (f x h.0, each_more P Q f xs h.1)

each_both : {X : Type 0} (P Q R : X → Type 0) → ((x : X) → P x → Q x → R x) → (xs : List X) → Each P xs → Each Q xs → Each R xs
each_both P Q R f [] h k = tt
each_both P Q R f (x ∷ xs) h k = (f x h.0 k.0, each_both P Q R f xs h.1 k.1)

module _ (m : Compared) (s t : List ℕ) where
  one_text : s ≡ t → AreAlike m (a_text s) (a_text t)
  one_text e = (
    each_from _ m.texts (λ i u _. ap (bytes_eq u) e),
    each_from _ m.lengths (λ i k _. ap (λ v. nat_le k (text_length v)) e),
  )

  same_text : (p : ℕ) → IsTextPlace m s p → IsTextPlace m t p → AreAlike m (a_text s) (a_text t)
  same_text p (inl a) (inl b) =
      let one : Some s ≡ Some t = sym a ∙ b in
      one_text cc
  same_text p (inl a) (inr b) =
      let at = slice_get_within m.texts p s a in
      absurd (omega (arith, at, b.1))
  same_text p (inr a) (inl b) =
      let at = slice_get_within m.texts p t b in
      absurd (omega (arith, at, a.1))
  same_text p (inr a) (inr b) =
      let same : a.0 ≡ b.0 = omega (arith, a.1, b.1) in (
        each_both _ _ _ (λ u e k. e ∙ sym k) m.texts a.2 b.2,
        each_from _ m.lengths (λ i k at. a.3 i k at ∙ ap (nat_lt i) same ∙ sym (b.3 i k at)),
      )

-- ---- scalars of one class are alike

one_boolean : (b c : Bool) → boolean_class b ≡ boolean_class c → b ≡ c
one_boolean true true e = refl
one_boolean false false e = refl
one_boolean true false e = absurd (omega (arith, e))
one_boolean false true e = absurd (omega (arith, e))

no_boolean : (b : Bool) (c : ℕ) → c ≡ boolean_class b → (c ≡ 0) ⊎ (3 ≤ c) → ⊥
no_boolean true c e (inl z) = omega (arith, e, z)
no_boolean true c e (inr l) = omega (arith, e, l)
no_boolean false c e (inl z) = omega (arith, e, z)
no_boolean false c e (inr l) = omega (arith, e, l)

module _ (m : Compared) (c : ℕ) where
  pub alike : (x y : Opened ℕ) → HasClass m x c → HasClass m y c → AreAlike m x y
  alike a_null a_null h k = tt
  alike a_null (a_boolean b) h k = absurd (no_boolean b c k (inl h))
  alike a_null (an_integer w) h k = absurd (omega (arith, h, k.1))
  alike a_null (a_text t) h k = absurd (omega (arith, h, k.1))
  alike (a_boolean b) a_null h k = absurd (no_boolean b c h (inl k))
  alike (a_boolean b) (a_boolean b') h k = one_boolean b b' (sym h ∙ k)
  alike (a_boolean b) (an_integer w) h k = absurd (no_boolean b c h (inr (omega (arith, k.1))))
  alike (a_boolean b) (a_text t) h k = absurd (no_boolean b c h (inr (omega (arith, k.1))))
  alike (an_integer z) a_null h k = absurd (omega (arith, k, h.1))
  alike (an_integer z) (a_boolean b) h k = absurd (no_boolean b c k (inr (omega (arith, h.1))))
  alike (an_integer z) (an_integer w) h k =
      let same : h.0 ≡ k.0 = omega (arith, h.1, k.1) in
      each_more _ _ (λ i e. same_integer i z w e) m.integers (same_place int_cmp_total m.integers z w k.0 (subst (IsPlace (λ i. int_cmp i z) m.integers) same h.3) k.3)
  alike (an_integer z) (a_text t) h k = absurd (omega (arith, h.1, h.2, k.1))
  alike (a_text s) a_null h k = absurd (omega (arith, k, h.1))
  alike (a_text s) (a_boolean b) h k = absurd (no_boolean b c k (inr (omega (arith, h.1))))
  alike (a_text s) (an_integer w) h k = absurd (omega (arith, k.1, k.2, h.1))
  alike (a_text s) (a_text t) h k =
      let same : h.0 ≡ k.0 = omega (arith, h.1, k.1) in
      same_text m s t k.0 (subst (IsTextPlace m s) same h.2) k.2
  alike (a_list v) y h k = absurd h
  alike (an_object v) y h k = absurd h
  alike x (a_list v) h k = absurd k
  alike x (an_object v) h k = absurd k

-- only scalars have a class, and nothing is inside them
pub nothing_inside : (m : Compared) (x : Opened ℕ) (c : ℕ) → HasClass m x c → InsideBelow 0 x
nothing_inside m a_null c h = tt
nothing_inside m (a_boolean b) c h = tt
nothing_inside m (an_integer z) c h = tt
nothing_inside m (a_text s) c h = tt
nothing_inside m (a_list v) c h = absurd h
nothing_inside m (an_object v) c h = absurd h
