-- The bodies of a table, classified one after another.
use Rattle.std.proofs.Common.{◌≡◌, ℕ, zero, suc, ◌+◌, ◌<◌, Bool, true, false, cond, List, [], ◌∷◌, ◌++◌, ◌⊎◌, inl, inr, Option, Some, None, length, slice_get, take, refl, sym, ap, ◌∙◌, subst, arith, add-one}
use Rattle.std.specs.Borrow.{Bor}
use Rattle.std.specs.Map.{lookup}
use Rattle.std.specs.Str.{bytes_eq}
use Rattle.std.proofs.lemmas.Option.{slice_get_cases}
use Rattle.std.proofs.lemmas.Slice.Eq.{bytes_eq-Decides}
use Rattle.cs_grammar.specs.Tree.{Tree}
use Rattle.cs_grammar.specs.declared.ast.Expr.{Expr}
use Rattle.cs_resolve.specs.Narrowed.{StillHas, Refiners, StillLists, IsClassified}
use Rattle.cs_resolve.specs.declared.refinement.Bases.{Bases}

abbrev Entry : Type 0
Entry = Bor (List ℕ) × Option (Bor Expr)

abbrev at_name : List ℕ → List Entry → Option (Option (Bor Expr))
at_name n es = lookup (λ k. bytes_eq n k.now) es

take_push : {X : Type 0} (xs : List X) (i : ℕ) (x : X) → slice_get xs i ≡ Some x → take (suc i) xs ≡ take i xs ++ x ∷ []
take_push [] i x h = cc
take_push (y ∷ xs) zero x h = let same : y ≡ x = cc in ap (λ z. z ∷ []) same
take_push (y ∷ xs) (suc i) x h = ap (λ zs. y ∷ zs) (take_push xs i x h)

last_or_before : (n : List ℕ) (es : List Entry) (k : Bor (List ℕ)) (v w : Option (Bor Expr)) → at_name n (es ++ (k, v) ∷ []) ≡ Some w → (at_name n es ≡ Some w) ⊎ ((n ≡ k.now) × (v ≡ w))
last_or_before n [] k v w h = by (bytes_eq n k.now) refl h
  where
    by : (b : Bool) → bytes_eq n k.now ≡ b → cond b (Some v) None ≡ Some w → (at_name n [] ≡ Some w) ⊎ ((n ≡ k.now) × (v ≡ w))
    by true e g = let same : v ≡ w = cc in inr ((bytes_eq-Decides n k.now).0 e, same)
    by false e g = cc
last_or_before n (x ∷ es) k v w h = by (bytes_eq n x.0.now) h (last_or_before n es k v w)
  where
    by : (b : Bool) → cond b (Some x.1) (at_name n (es ++ (k, v) ∷ [])) ≡ Some w → (at_name n (es ++ (k, v) ∷ []) ≡ Some w → (at_name n es ≡ Some w) ⊎ ((n ≡ k.now) × (v ≡ w))) → (cond b (Some x.1) (at_name n es) ≡ Some w) ⊎ ((n ≡ k.now) × (v ≡ w))
    by true g rest = inl g
    by false g rest = rest g

-- what holds of the first bodies, and of one more
pub classified_more : (P : List ℕ → Bor Expr → Type 0) (es : List Entry) (i : ℕ) → ((n : List ℕ) (e : Bor Expr) → at_name n (take i es) ≡ Some (Some e) → P n e) → ((k : Bor (List ℕ)) (e : Bor Expr) → slice_get es i ≡ Some (k, Some e) → P k.now e) → (n : List ℕ) (e : Bor Expr) → at_name n (take (i + 1) es) ≡ Some (Some e) → i < length es → P n e
classified_more P es i before here n e h l = elim (slice_get_cases es i).1 [
  | inl x ↦ elim (last_or_before n (take i es) x.0.0 x.0.1 (Some e) (sym (ap (at_name n) (take_push es i x.0 x.2)) ∙ ap (λ j. at_name n (take j es)) (sym (add-one i)) ∙ h)) [
    | inl old ↦ before n e old
    | inr new ↦ subst (λ u. P u e) (sym new.0) (here x.0.0 e (x.2 ∙ ap (λ v. Some (x.0.0, v)) new.1))
  ]
  | inr past ↦ absurd (let q = past.0 in omega (arith, l, q))
]

pub classified_kept : {S : Type 0} (b c : Bases) (r q : Refiners S) (n : List ℕ) (e : Tree) → StillHas b c → StillLists r q → IsClassified b r n e → IsClassified c q n e
classified_kept b c r q n e kept listed s = record {
  literal = λ fs h. kept n (s.literal fs h);
  listed = λ m fs h. listed m n (s.listed m fs h);
}

abbrev Found : Type 0
Found = Bor (List ℕ) × Bor Expr

pub same_entry : (x y : Found) → Some x ≡ Some y → (x.0 ≡ y.0) × (x.1 ≡ y.1)
same_entry x y h = let same : x ≡ y = cc in (ap (λ (p : Found). p.0) same, ap (λ (p : Found). p.1) same)
