-- Tests of declarations, and what is the same each time and in either order.
use Rattle.std.proofs.Common.{◌≡◌, ℕ, Bool, true, false, ◌||◌, ◌&&◌, cond, List, [], ◌∷◌, ◌++◌, Option, Some, None, refl, sym, ap, ap₂, ◌∙◌, subst, eq-eqb}
use Rattle.std.specs.Cmp.{nat_eq_equiv}
use Rattle.std.specs.List.{filter, list_any}
use Rattle.std.proofs.lemmas.Bool.{or_left, or_right, or_parts}
use Rattle.std.proofs.lemmas.Cmp.{nat_list_eq_equiv}
use Rattle.std.proofs.lemmas.List.{append-nil}
use Rattle.std.proofs.lemmas.List.Elements.{filter-append}
use Rattle.std.proofs.lemmas.List.Folds.{list_any-append}
use Rattle.std.proofs.lemmas.Slice.Eq.{bytes_eq-Decides}
use Rattle.cs_grammar.specs.Tree.{Tree}
use Rattle.cs_grammar.specs.Referred.{referred}
use Rattle.cs_embeddings.specs.Alternatives.{Brought}
use Rattle.cs_embeddings.specs.Clashes.{are_same, is_same_reference, is_same_embedding}

-- ---- tests

pub or_nothing : (b : Bool) → (b || false) ≡ b
or_nothing true = refl
or_nothing false = refl

-- one declaration more
pub any_push : (p : Brought → Bool) (ds : List Brought) (d : Brought) → list_any p (ds ++ d ∷ []) ≡ (list_any p ds || p d)
any_push p ds d = list_any-append p ds (d ∷ []) ∙ ap (λ b. list_any p ds || b) (or_nothing (p d))

-- some of those that pass
pub any_filter : (p q : Brought → Bool) (ds : List Brought) → list_any q (filter p ds) ≡ list_any (λ c. p c && q c) ds
any_filter p q [] = refl
any_filter p q (c ∷ cs) = by (p c) (any_filter p q cs)
  where
    by : (b : Bool) → list_any q (filter p cs) ≡ list_any (λ d. p d && q d) cs
        → list_any q (cond b (c ∷ filter p cs) (filter p cs)) ≡ ((b && q c) || list_any (λ d. p d && q d) cs)
    by true later = ap (λ b. q c || b) later
    by false later = later

pub any_same : (p q : Brought → Bool) → ((c : Brought) → p c ≡ q c) → (ds : List Brought) → list_any p ds ≡ list_any q ds
any_same p q same [] = refl
any_same p q same (c ∷ cs) = ap₂ (λ a b. a || b) (same c) (any_same p q same cs)

-- where r holds of none
pub any_under : (r p q : Brought → Bool) → ((c : Brought) → r c ≡ false → p c ≡ q c) → (ds : List Brought) → list_any r ds ≡ false → list_any p ds ≡ list_any q ds
any_under r p q same [] h = refl
any_under r p q same (c ∷ cs) h =
    let w = or_parts (r c) (list_any r cs) h in
    ap₂ (λ a b. a || b) (same c w.0) (any_under r p q same cs w.1)

-- what p holds of, q holds of
pub any_more : (p q : Brought → Bool) → ((c : Brought) → p c ≡ true → q c ≡ true) → (cs : List Brought) → list_any p cs ≡ true → list_any q cs ≡ true
any_more p q more [] h = cc
any_more p q more (c ∷ cs) h = by (p c) refl (any_more p q more cs) h
  where
    by : (b : Bool) → p c ≡ b → (list_any p cs ≡ true → list_any q cs ≡ true) → (b || list_any p cs) ≡ true → (q c || list_any q cs) ≡ true
    by true here later k = or_left (q c) (list_any q cs) (more c here)
    by false here later k = or_right (q c) (list_any q cs) (later k)

pub any_either : (p q : Brought → Bool) (ds : List Brought) → (list_any p ds || list_any q ds) ≡ list_any (λ c. p c || q c) ds
any_either p q [] = refl
any_either p q (c ∷ cs) = by (p c) (q c) (list_any p cs) (list_any q cs) (list_any (λ d. p d || q d) cs) (any_either p q cs)
  where
    by : (a b x y z : Bool) → (x || y) ≡ z → ((a || x) || (b || y)) ≡ ((a || b) || z)
    by true b x y z h = refl
    by false true true y z h = refl
    by false true false y z h = refl
    by false false x y z h = h

filter_push : (p : Brought → Bool) (ds : List Brought) (d : Brought) → filter p (ds ++ d ∷ []) ≡ filter p ds ++ cond (p d) (d ∷ []) []
filter_push p ds d = filter-append p ds (d ∷ [])

-- T is known of those that pass, where the next one is one of these or not
pub told_in : (T : List Brought → Type 0) (p : Brought → Bool) (ds : List Brought) (d : Brought) → p d ≡ true → T (filter p ds ++ d ∷ []) → T (filter p (ds ++ d ∷ []))
told_in T p ds d h = subst T (sym (filter_push p ds d ∙ ap (λ b. filter p ds ++ cond b (d ∷ []) []) h))

pub told_out : (T : List Brought → Type 0) (p : Brought → Bool) (ds : List Brought) (d : Brought) → p d ≡ false → T (filter p ds) → T (filter p (ds ++ d ∷ []))
told_out T p ds d h = subst T (sym (filter_push p ds d ∙ ap (λ b. filter p ds ++ cond b (d ∷ []) []) h ∙ append-nil (filter p ds)))

-- ---- what is the same

same_euclid : (e d x : Option (List ℕ)) → are_same e d ≡ true → are_same e x ≡ true → are_same d x ≡ true
same_euclid None d x h k = cc
same_euclid (Some s) None x h k = cc
same_euclid (Some s) (Some t) None h k = cc
same_euclid (Some s) (Some t) (Some u) h k = (bytes_eq-Decides t u).1 (sym ((bytes_eq-Decides s t).0 h) ∙ (bytes_eq-Decides s u).0 k)

same_back : (e d : Option (List ℕ)) → are_same e d ≡ are_same d e
same_back None None = refl
same_back None (Some t) = refl
same_back (Some s) None = refl
same_back (Some s) (Some t) = nat_list_eq_equiv.symm s t

pub reference_euclid : (e f g : Tree) → is_same_reference e f ≡ true → is_same_reference e g ≡ true → is_same_reference f g ≡ true
reference_euclid e f g = same_euclid (referred e) (referred f) (referred g)

pub reference_back : (e f : Tree) → is_same_reference e f ≡ is_same_reference f e
reference_back e f = same_back (referred e) (referred f)

pub embedding_back : (o p : Option ℕ) → is_same_embedding o p ≡ is_same_embedding p o
embedding_back None None = refl
embedding_back None (Some p) = refl
embedding_back (Some o) None = refl
embedding_back (Some o) (Some p) = nat_eq_equiv.symm o p

pub embedding_euclid : (o p q : Option ℕ) → is_same_embedding o p ≡ true → is_same_embedding o q ≡ true → is_same_embedding p q ≡ true
embedding_euclid None None q h k = k
embedding_euclid None (Some p) q h k = cc
embedding_euclid (Some o) None q h k = cc
embedding_euclid (Some o) (Some p) None h k = cc
embedding_euclid (Some o) (Some p) (Some q) h k = sym (nat_eq_equiv.congr o p q h) ∙ k

pub embedding_itself : (o : Option ℕ) → is_same_embedding o o ≡ true
embedding_itself None = refl
embedding_itself (Some o) = eq-eqb o o refl

-- the same each time, and in either order
module _ {A : Type 0} (same : A → A → Bool) (back : (x y : A) → same x y ≡ same y x)
    (euclid : (x y z : A) → same x y ≡ true → same x z ≡ true → same y z ≡ true) where
  pub alike : (x y z : A) → same x y ≡ true → same x z ≡ same y z
  alike x y z h = by (same x z) (same y z) refl refl
    where
      by : (a b : Bool) → same x z ≡ a → same y z ≡ b → a ≡ b
      by true b k l = sym (euclid x y z h k) ∙ l
      by false true k l = sym k ∙ euclid y x z (back y x ∙ h) l
      by false false k l = refl
