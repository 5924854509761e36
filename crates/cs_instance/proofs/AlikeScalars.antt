-- Tests and rules give the same for scalars that no mark tells apart, where what they compare with is marked.
use Rattle.std.proofs.Common.{◌≡◌, ℕ, ℤ, int_lt, int_le, Bool, true, not, ◌&&◌, List, [], ◌∷◌, ◌++◌, Option, Some, None, cond, refl, sym, ap, ap₂, subst, ◌∙◌, arith}
use Rattle.std.specs.List.{AllByRecursion as Each}
use Rattle.std.specs.Ordering.{is_eq, int_eq}
use Rattle.std.specs.Str.{bytes_eq}
use Rattle.std.specs.declared.cmp.Ordering.TheVariants.{Less, Equal, Greater}
use Rattle.std.proofs.lemmas.Int.{ints}
use Rattle.std.proofs.lemmas.List.{append_assoc, append-nil}
use Rattle.cs_document.specs.Opened.{Opened, a_null, a_boolean, an_integer, a_text}
use Rattle.cs_document.proofs.Each.{each_front, each_back}
use Rattle.cs_package.specs.Expression.{Expression, atom, kind, range, integer, text, bound, not_integer, not_text, Relation, less, at_most, more, at_least, int, number, string, bool}
use Rattle.cs_package.specs.Inside.{compared_with, with_nothing, with_text, with_integer, with_range}
use Rattle.cs_rules.specs.Alike.{Compared, AreAlike, HasMore}
use Rattle.cs_instance.specs.Constraint.{Outline, outline, is_integer, is_text, is_within, is_related}
use Rattle.cs_instance.specs.Steps.{test_of}
use Rattle.cs_instance.specs.Told.{IsTold}

-- ---- pairs of scalars

-- no mark tells two integers apart, and two texts
abbrev Integers : Compared → ℤ → ℤ → Type 0
Integers m z w = AreAlike m (an_integer z) (an_integer w)

abbrev Texts : Compared → List ℕ → List ℕ → Type 0
Texts m s t = AreAlike m (a_text s) (a_text t)

each_pair : (m : Compared) (P : Opened ℕ → Opened ℕ → Type 0) → P a_null a_null → ((b : Bool) → P (a_boolean b) (a_boolean b))
    → ((z w : ℤ) → Integers m z w → P (an_integer z) (an_integer w)) → ((s t : List ℕ) → Texts m s t → P (a_text s) (a_text t))
    → (x x' : Opened ℕ) → AreAlike m x x' → P x x'
each_pair m P n b i t a_null a_null h = n
each_pair m P n b i t (a_boolean v) (a_boolean w) h = subst (λ u. P (a_boolean v) (a_boolean u)) h (b v)
each_pair m P n b i t (an_integer z) (an_integer w) h = i z w h
each_pair m P n b i t (a_text u) (a_text v) h = t u v h
each_pair m P n b i t _ _ h = absurd h

-- ---- tests of one kind

integers_told : (p : ℤ → Bool) (m : Compared) → ((z w : ℤ) → Integers m z w → p z ≡ p w) → IsTold (is_integer p) m
integers_told p m h = each_pair m (λ x x'. is_integer p (outline x) ≡ is_integer p (outline x')) refl (λ _. refl) h (λ _ _ _. refl)

texts_told : (p : List ℕ → Bool) (m : Compared) → ((s t : List ℕ) → Texts m s t → p s ≡ p t) → IsTold (is_text p) m
texts_told p m h = each_pair m (λ x x'. is_text p (outline x) ≡ is_text p (outline x')) refl (λ _. refl) (λ _ _ _. refl) h

-- ---- integers on the same side of one that is marked

abbrev SameSide : ℤ → ℤ → ℤ → Type 0
SameSide z w k = (int_lt z k ≡ int_lt w k) × (int_lt k z ≡ int_lt k w)

eq_same : (k z w : ℤ) → SameSide z w k → int_eq k z ≡ int_eq k w
eq_same k z w h = ap₂ (λ a b. is_eq (cond a Less (cond b Greater Equal))) h.1 h.0

le_is : (z w : ℤ) → int_le z w ≡ not (int_lt w z)
le_is z w = grind (arith, ints)

at_most_same : (k z w : ℤ) → SameSide z w k → int_le z k ≡ int_le w k
at_most_same k z w h = le_is z k ∙ ap not h.1 ∙ sym (le_is w k)

at_least_same : (k z w : ℤ) → SameSide z w k → int_le k z ≡ int_le k w
at_least_same k z w h = le_is k z ∙ ap not h.0 ∙ sym (le_is k w)

related_same : (r : Relation) (k z w : ℤ) → SameSide z w k → is_related r k z ≡ is_related r k w
related_same less k z w h = h.0
related_same at_most k z w h = at_most_same k z w h
related_same more k z w h = h.1
related_same at_least k z w h = at_least_same k z w h

-- ---- what is marked last, and what was marked before

abbrev IsMarked : ℤ → Compared → Type 0
IsMarked k m = (z w : ℤ) → Integers m z w → SameSide z w k

marked_last : (k : ℤ) (zs : List ℤ) (m : Compared) → m.integers ≡ zs ++ k ∷ [] → IsMarked k m
marked_last k zs m e z w h = (each_back (SameSide z w) zs (k ∷ []) (subst (Each (SameSide z w)) e h)).0

marked_before : (k n : ℤ) (m' m : Compared) → m.integers ≡ m'.integers ++ n ∷ [] → IsMarked k m' → IsMarked k m
marked_before k n m' m e is z w h = is z w (each_front (SameSide z w) m'.integers (n ∷ []) (subst (Each (SameSide z w)) e h))

text_last : (u : List ℕ) (ts : List (List ℕ)) (m : Compared) → m.texts ≡ ts ++ u ∷ [] → (s t : List ℕ) → Texts m s t → bytes_eq u s ≡ bytes_eq u t
text_last u ts m e s t h = (each_back (λ v. bytes_eq v s ≡ bytes_eq v t) ts (u ∷ []) (subst (Each (λ v. bytes_eq v s ≡ bytes_eq v t)) e h.0)).0

-- ---- each test that compares

-- marks after an integer, and after a text
abbrev pub AfterInteger : ℤ → Compared → Compared → Type 0
AfterInteger k m' m = (m.integers ≡ m'.integers ++ k ∷ []) × (m.texts ≡ m'.texts) × (m.lengths ≡ m'.lengths)

abbrev pub AfterText : List ℕ → Compared → Compared → Type 0
AfterText u m' m = (m.texts ≡ m'.texts ++ u ∷ []) × (m.integers ≡ m'.integers) × (m.lengths ≡ m'.lengths)

-- a test of integers that gives the same on one side of an integer
side_told : (p : ℤ → Bool) (k : ℤ) (m : Compared) → IsMarked k m → ((z w : ℤ) → SameSide z w k → p z ≡ p w) → IsTold (is_integer p) m
side_told p k m is same = integers_told p m (λ z w h. same z w (is z w h))

pub integer_told : (k : ℤ) (m' m : Compared) → AfterInteger k m' m → IsTold (is_integer (int_eq k)) m
integer_told k m' m e = side_told (int_eq k) k m (marked_last k m'.integers m e.0) (eq_same k)

pub not_integer_told : (k : ℤ) (m' m : Compared) → AfterInteger k m' m → IsTold (is_integer (λ z. not (int_eq k z))) m
not_integer_told k m' m e = side_told (λ z. not (int_eq k z)) k m (marked_last k m'.integers m e.0) (λ z w h. ap not (eq_same k z w h))

pub bound_told : (r : Relation) (k : ℤ) (m' m : Compared) → AfterInteger k m' m → IsTold (is_integer (is_related r k)) m
bound_told r k m' m e = side_told (is_related r k) k m (marked_last k m'.integers m e.0) (related_same r k)

pub least_told : (k : ℤ) (m' m : Compared) → AfterInteger k m' m → IsTold (is_integer (is_within k None)) m
least_told k m' m e = side_told (is_within k None) k m (marked_last k m'.integers m e.0) (λ z w h. ap (λ b. b && true) (at_least_same k z w h))

pub range_told : (k n : ℤ) (m'' m' m : Compared) → AfterInteger k m'' m' → AfterInteger n m' m → IsTold (is_integer (is_within k (Some n))) m
range_told k n m'' m' m e f =
    let least = marked_before k n m' m f.0 (marked_last k m''.integers m' e.0) in
    let greatest = marked_last n m'.integers m f.0 in
    integers_told (is_within k (Some n)) m (λ z w h. ap₂ ◌&&◌ (at_least_same k z w (least z w h)) (at_most_same n z w (greatest z w h)))

pub text_told : (u : List ℕ) (m' m : Compared) → AfterText u m' m → IsTold (is_text (bytes_eq u)) m
text_told u m' m e = texts_told (bytes_eq u) m (text_last u m'.texts m e.0)

pub not_text_told : (u : List ℕ) (m' m : Compared) → AfterText u m' m → IsTold (is_text (λ s. not (bytes_eq u s))) m
not_text_told u m' m e = texts_told (λ s. not (bytes_eq u s)) m (λ s t h. ap not (text_last u m'.texts m e.0 s t h))

-- ---- the same of expressions, by what they compare values with

-- a test that tells no two integers apart, and no two texts
alike_told : (test : Outline → Bool) (m : Compared) → ((z w : ℤ) → test (an_integer z) ≡ test (an_integer w)) → ((s t : List ℕ) → test (a_text s) ≡ test (a_text t)) → IsTold test m
alike_told test m i t = each_pair m (λ x x'. test (outline x) ≡ test (outline x')) refl (λ _. refl) (λ z w _. i z w) (λ u v _. t u v)

pub nothing_compared : (e : Expression) (m : Compared) → with_nothing ≡ compared_with e → IsTold (test_of e) m
nothing_compared (atom (integer n)) m h = cc
nothing_compared (atom (text s)) m h = cc
nothing_compared (atom (bound r n)) m h = cc
nothing_compared (atom (not_integer n)) m h = cc
nothing_compared (atom (not_text s)) m h = cc
nothing_compared (range least greatest) m h = cc
nothing_compared (kind int) m h = alike_told (test_of (kind int)) m (λ _ _. refl) (λ _ _. refl)
nothing_compared (kind number) m h = alike_told (test_of (kind number)) m (λ _ _. refl) (λ _ _. refl)
nothing_compared (kind string) m h = alike_told (test_of (kind string)) m (λ _ _. refl) (λ _ _. refl)
nothing_compared (kind bool) m h = alike_told (test_of (kind bool)) m (λ _ _. refl) (λ _ _. refl)
nothing_compared e m h = alike_told (test_of e) m (λ _ _. refl) (λ _ _. refl)

pub integer_compared : (e : Expression) (k : ℤ) (m' m : Compared) → with_integer k ≡ compared_with e → AfterInteger k m' m → IsTold (test_of e) m
integer_compared (atom (integer n)) k m' m h a = let is : k ≡ n = cc in integer_told n m' m (subst (λ j. AfterInteger j m' m) is a)
integer_compared (atom (not_integer n)) k m' m h a = let is : k ≡ n = cc in not_integer_told n m' m (subst (λ j. AfterInteger j m' m) is a)
integer_compared (atom (bound r n)) k m' m h a = let is : k ≡ n = cc in bound_told r n m' m (subst (λ j. AfterInteger j m' m) is a)
integer_compared _ k m' m h a = cc

pub text_compared : (e : Expression) (u : List ℕ) (m' m : Compared) → with_text u ≡ compared_with e → AfterText u m' m → IsTold (test_of e) m
text_compared (atom (text s)) u m' m h a = let is : u ≡ s = cc in text_told s m' m (subst (λ v. AfterText v m' m) is a)
text_compared (atom (not_text s)) u m' m h a = let is : u ≡ s = cc in not_text_told s m' m (subst (λ v. AfterText v m' m) is a)
text_compared _ u m' m h a = cc

pub range_compared : (e : Expression) (least : ℤ) (greatest : Option ℤ) → with_range least greatest ≡ compared_with e → range least greatest ≡ e
range_compared (range l g) least greatest h = cc
range_compared (atom (integer n)) least greatest h = cc
range_compared _ least greatest h = cc

-- ---- more marks

pub same_marks : (m : Compared) → HasMore m m
same_marks m = ([], [], [], sym (append-nil m.texts), sym (append-nil m.integers), sym (append-nil m.lengths))

pub more_integers : (k : ℤ) (m' m : Compared) → AfterInteger k m' m → HasMore m' m
more_integers k m' m e = ([], k ∷ [], [], e.1 ∙ sym (append-nil m'.texts), e.0, e.2 ∙ sym (append-nil m'.lengths))

pub more_texts : (u : List ℕ) (m' m : Compared) → AfterText u m' m → HasMore m' m
more_texts u m' m e = (u ∷ [], [], [], e.0, e.1 ∙ sym (append-nil m'.integers), e.2 ∙ sym (append-nil m'.lengths))

pub two_integers : (k n : ℤ) (m'' m' m : Compared) → AfterInteger k m'' m' → AfterInteger n m' m → HasMore m'' m
two_integers k n m'' m' m e f = (
  [],
  k ∷ n ∷ [],
  [],
  f.1 ∙ e.1 ∙ sym (append-nil m''.texts),
  f.0 ∙ ap (λ zs. zs ++ n ∷ []) e.0 ∙ append_assoc m''.integers (k ∷ []) (n ∷ []),
  f.2 ∙ e.2 ∙ sym (append-nil m''.lengths),
)
