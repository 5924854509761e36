-- A rule gives the same for scalars that its marks don't tell apart: the values of `const` and `enum`, and the limits of integers and of lengths of texts.
use Rattle.std.proofs.Common.{◌≡◌, ℕ, suc, ℤ, pos, negsuc, nat_le, int_le, int_lt, Bool, ◌&&◌, List, [], ◌∷◌, ◌++◌, map, Option, Some, None, cond, refl, sym, ap, ap₂, subst, ◌∙◌, arith}
use Rattle.std.proofs.lemmas.Int.{ints}
use Rattle.std.specs.Prelude.{option_map, option_to_list, not}
use Rattle.std.specs.List.{AllByRecursion as Each}
use Rattle.std.specs.Str.{bytes_eq}
use Rattle.std.specs.Ordering.{is_eq, int_eq}
use Rattle.std.specs.declared.cmp.Ordering.TheVariants.{Less, Equal, Greater}
use Rattle.cs_document.specs.Document.{Document, null, boolean, integer, text, document_eq}
use Rattle.cs_document.specs.Opened.{Opened, a_null, a_boolean, an_integer, a_text}
use Rattle.cs_document.specs.Sizes.{text_length}
use Rattle.cs_document.specs.View.{doc_view}
use Rattle.cs_document.specs.declared.doc.Doc.{Doc}
use Rattle.cs_document.proofs.Each.{each_of, each_front, each_back, any_same}
use Rattle.cs_profile.specs.Constraint.{texts_in}
use Rattle.cs_profile.specs.Keywords.{Kind, Number, String, Integer}
use Rattle.cs_profile.specs.Validity.{is_of_kind, if_there}
use Rattle.cs_profile.specs.declared.schema.Keywords.{Keywords}
use Rattle.cs_rules.specs.Kinds.{IsItem}
use Rattle.cs_rules.specs.Alike.{Compared, AreAlike, IsToldBy}
use Rattle.cs_validate.specs.declared.rules.Rule.TheVariants as rule
use Rattle.cs_validate.specs.declared.rules.Conjunction.{Conjunction}
use Rattle.cs_validate.specs.Steps.{kind_of, step}
use Rattle.cs_validate.specs.Asked.{asks_const, asks_enum, asks_any, asks_integer, is_at_most_long, is_at_least_long, asks_text, asks_kind}
use Rattle.cs_validate.specs.Marked.{integers_in, listed, constants_of, limits_of, count_in, lengths_of, texts_of, integers_of, AddsMarks}
use Rattle.cs_validate.proofs.Asked.{claims_hold}

-- ---- documents that are scalars

null_is : (d : Document) → IsItem d a_null → d ≡ null
null_is null is = refl
null_is d is = let e = is.1 in cc

boolean_is : (d : Document) (b : Bool) → IsItem d (a_boolean b) → d ≡ boolean b
boolean_is (boolean c) b is = let e : a_boolean c ≡ a_boolean b = is.1 in cc
boolean_is d b is = let e = is.1 in cc

integer_is : (d : Document) (z : ℤ) → IsItem d (an_integer z) → d ≡ integer z
integer_is (integer w) z is = let e : an_integer w ≡ an_integer z = is.1 in cc
integer_is d z is = let e = is.1 in cc

text_is : (d : Document) (s : List ℕ) → IsItem d (a_text s) → d ≡ text s
text_is (text t) s is = let e : a_text t ≡ a_text s = is.1 in cc
text_is d s is = let e = is.1 in cc

-- ---- what an integer that is marked tells apart

abbrev SameSide : ℤ → ℤ → ℤ → Type 0
SameSide z w k = (int_lt z k ≡ int_lt w k) × (int_lt k z ≡ int_lt k w)

eq_same : (z w k : ℤ) → SameSide z w k → int_eq k z ≡ int_eq k w
eq_same z w k h = ap₂ (λ a b. is_eq (cond a Less (cond b Greater Equal))) h.1 h.0

le_is : (z w : ℤ) → int_le z w ≡ not (int_lt w z)
le_is z w = grind (arith, ints)

at_most_same : (z w k : ℤ) → SameSide z w k → int_le z k ≡ int_le w k
at_most_same z w k h = le_is z k ∙ ap not h.1 ∙ sym (le_is w k)

at_least_same : (z w k : ℤ) → SameSide z w k → int_le k z ≡ int_le k w
at_least_same z w k h = le_is k z ∙ ap not h.0 ∙ sym (le_is k w)

-- ---- by `const` and `enum`

texts_same : (s t : List ℕ) (vs : List Document) → Each (λ u. bytes_eq u s ≡ bytes_eq u t) (texts_in vs) → Each (λ v. document_eq v (text s) ≡ document_eq v (text t)) vs
texts_same s t [] h = tt
texts_same s t (text u ∷ vs) h = (h.0, texts_same s t vs h.1)
texts_same s t (_ ∷ vs) h = (refl, texts_same s t vs h)

integers_same : (z w : ℤ) (vs : List Document) → Each (SameSide z w) (integers_in vs) → Each (λ v. document_eq v (integer z) ≡ document_eq v (integer w)) vs
integers_same z w [] h = tt
integers_same z w (integer k ∷ vs) h = (eq_same z w k h.0, integers_same z w vs h.1)
integers_same z w (_ ∷ vs) h = (refl, integers_same z w vs h)

abbrev EqualTo : Document → Document → Document → Type 0
EqualTo d d' v = document_eq v d ≡ document_eq v d'

constants_same : (vs : List Document) (zs : List ℤ) (ls : List ℕ) (d d' : Document) (x x' : Opened ℕ) → IsItem d x → IsItem d' x'
    → AreAlike (record { texts = texts_in vs; integers = integers_in vs ++ zs; lengths = ls }) x x' → Each (EqualTo d d') vs
constants_same vs zs ls d d' a_null a_null is is' h = rw (null_is d is, null_is d' is') (each_of _ (λ v. refl) vs)
constants_same vs zs ls d d' (a_boolean b) (a_boolean c) is is' h = rw (boolean_is d b is, boolean_is d' c is', h) (each_of _ (λ v. refl) vs)
constants_same vs zs ls d d' (an_integer z) (an_integer w) is is' h = rw (integer_is d z is, integer_is d' w is') (integers_same z w vs (each_front (SameSide z w) (integers_in vs) zs h))
constants_same vs zs ls d d' (a_text s) (a_text t) is is' h = rw (text_is d s is, text_is d' t is') (texts_same s t vs h.0)
constants_same vs zs ls d d' _ _ is is' h = absurd h

const_same : (d d' : Document) (o : Option Doc) → Each (EqualTo d d') (option_to_list (option_map doc_view o)) → asks_const o d ≡ asks_const o d'
const_same d d' None h = refl
const_same d d' (Some v) h = h.0

enum_same : (d d' : Document) (o : Option (List Document)) → Each (EqualTo d d') (listed o) → asks_enum o d ≡ asks_enum o d'
enum_same d d' None h = refl
enum_same d d' (Some vs) h = any_same (λ v. document_eq v d) (λ v. document_eq v d') vs h

-- ---- by `type`

kind_same : (m : Compared) (x x' : Opened ℕ) → AreAlike m x x' → (k : Kind) → is_of_kind k x ≡ is_of_kind k x'
kind_same m a_null a_null h k = refl
kind_same m (a_boolean b) (a_boolean c) h k = rw h refl
kind_same m (an_integer z) (an_integer w) h Number = refl
kind_same m (an_integer z) (an_integer w) h Integer = refl
kind_same m (an_integer z) (an_integer w) h _ = refl
kind_same m (a_text s) (a_text t) h String = refl
kind_same m (a_text s) (a_text t) h _ = refl
kind_same m _ _ h k = absurd h

-- ---- by limits

there_same : {A : Type 0} (f g : A → Bool) (o : Option A) → Each (λ a. f a ≡ g a) (option_to_list o) → if_there f o ≡ if_there g o
there_same f g None h = refl
there_same f g (Some a) h = h.0

limit_same : (z w : ℤ) (p : ℤ → ℤ → Bool) → ((k : ℤ) → SameSide z w k → p z k ≡ p w k) → (o : Option ℤ) → Each (SameSide z w) (option_to_list o) → if_there (p z) o ≡ if_there (p w) o
limit_same z w p f None h = refl
limit_same z w p f (Some k) h = f k h.0

both : {a a' b b' : Bool} → a ≡ a' → b ≡ b' → (a && b) ≡ (a' && b')
both e f = ap₂ ◌&&◌ e f

limits_same : (k : Keywords) (z w : ℤ) → Each (SameSide z w) (limits_of k) → asks_integer k z ≡ asks_integer k w
limits_same k z w h =
    let S = SameSide z w in
    let reached = option_to_list k.maximum ++ option_to_list k.minimum in
    let but_above = each_front S (reached ++ option_to_list k.below) (option_to_list k.above) h in
    let both_reached = each_front S reached (option_to_list k.below) but_above in
    let at_most = limit_same z w int_le (at_most_same z w) k.maximum (each_front S (option_to_list k.maximum) (option_to_list k.minimum) both_reached) in
    let at_least = limit_same z w (λ n l. int_le l n) (at_least_same z w) k.minimum (each_back S (option_to_list k.maximum) (option_to_list k.minimum) both_reached) in
    let under = limit_same z w int_lt (λ l s. s.0) k.below (each_back S reached (option_to_list k.below) but_above) in
    let over = limit_same z w (λ n l. int_lt l n) (λ l s. s.1) k.above (each_back S (reached ++ option_to_list k.below) (option_to_list k.above) h) in
    both (both under at_most) (both over at_least)

-- ---- by limits of lengths

-- what a length that is marked tells apart
abbrev SameReach : ℕ → ℕ → ℕ → Type 0
SameReach n m k = nat_le k n ≡ nat_le k m

within_is : (n l : ℕ) → nat_le n l ≡ not (nat_le (suc l) n)
within_is n l = grind arith

most_same : (n m : ℕ) (o : Option ℤ) → Each (SameReach n m) (map suc (count_in o)) → is_at_most_long o n ≡ is_at_most_long o m
most_same n m None h = refl
most_same n m (Some (pos l)) h = within_is n l ∙ ap not h.0 ∙ sym (within_is m l)
most_same n m (Some (negsuc l)) h = refl

least_same : (n m : ℕ) (o : Option ℤ) → Each (SameReach n m) (count_in o) → is_at_least_long o n ≡ is_at_least_long o m
least_same n m None h = refl
least_same n m (Some (pos l)) h = h.0
least_same n m (Some (negsuc l)) h = refl

lengths_same : (k : Keywords) (s t : List ℕ) → Each (SameReach (text_length s) (text_length t)) (lengths_of k) → asks_text k s ≡ asks_text k t
lengths_same k s t h =
    let n = text_length s in
    let m = text_length t in
    let most = map suc (count_in k.max_length) in
    let least = count_in k.min_length in
    both (most_same n m k.max_length (each_front (SameReach n m) most least h)) (least_same n m k.min_length (each_back (SameReach n m) most least h))

-- ---- by a rule

alike_behind : (m n : Compared) (ts : List (List ℕ)) (zs : List ℤ) (ls : List ℕ) (x x' : Opened ℕ) → AddsMarks ts zs ls m n → AreAlike n x x' → AreAlike (record { texts = ts; integers = zs; lengths = ls }) x x'
alike_behind m n ts zs ls a_null a_null adds h = tt
alike_behind m n ts zs ls (a_boolean b) (a_boolean c) adds h = h
alike_behind m n ts zs ls (an_integer z) (an_integer w) adds h = each_back (SameSide z w) m.integers zs (subst (Each (SameSide z w)) adds.1 h)
alike_behind m n ts zs ls (a_text s) (a_text t) adds h =
    let Same = SameReach (text_length s) (text_length t) in (
      each_back (λ u. bytes_eq u s ≡ bytes_eq u t) m.texts ts (subst (Each (λ u. bytes_eq u s ≡ bytes_eq u t)) adds.0 h.0),
      each_back Same m.lengths ls (subst (Each Same) adds.2 h.1),
    )
alike_behind m n ts zs ls _ _ adds h = absurd h

module _ (c : Conjunction) where
  abbrev own : Compared
  own = record { texts = texts_of c; integers = integers_of c; lengths = lengths_of c.keywords.now }

  of_kind_same : (inside inside' : ℕ → ℕ → Bool) (x x' : Opened ℕ) → AreAlike own x x' → asks_kind inside c x ≡ asks_kind inside' c x'
  of_kind_same inside inside' a_null a_null h = refl
  of_kind_same inside inside' (a_boolean b) (a_boolean c) h = refl
  of_kind_same inside inside' (an_integer z) (an_integer w) h =
      limits_same c.keywords.now z w (each_back (SameSide z w) (integers_in (constants_of c)) (limits_of c.keywords.now) h)
  of_kind_same inside inside' (a_text s) (a_text t) h = lengths_same c.keywords.now s t h.1
  of_kind_same inside inside' _ _ h = absurd h

  module _ (d d' : Document) (x x' : Opened ℕ) (is : IsItem d x) (is' : IsItem d' x') (like : AreAlike own x x') where
    any_kind_same : asks_any c d x ≡ asks_any c d' x'
    any_kind_same =
        let same = constants_same (constants_of c) (limits_of c.keywords.now) (lengths_of c.keywords.now) d d' x x' is is' like in
        let constant = option_to_list (option_map doc_view c.keywords.now.equal) in
        both
        (both (there_same _ _ c.keywords.now.kind (each_of _ (λ j. kind_same own x x' like (kind_of j)) _)) (const_same d d' c.keywords.now.equal (each_front (EqualTo d d') constant (listed c.one_of) same)))
        (enum_same d d' c.one_of (each_back (EqualTo d d') constant (listed c.one_of) same))

  pub keywords_told : (m n : Compared) → AddsMarks (texts_of c) (integers_of c) (lengths_of c.keywords.now) m n → IsToldBy (step (rule.Object c)) n
  keywords_told m n adds = λ here inside inside' d d' x x' is is' h.
      let like = alike_behind m n (texts_of c) (integers_of c) (lengths_of c.keywords.now) x x' adds h in
      claims_hold here inside d c x ∙ both (any_kind_same d d' x x' is is' like) (both refl (of_kind_same inside inside' x x' like)) ∙ sym (claims_hold here inside' d' c x')
