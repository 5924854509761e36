-- Tables of closed bases, and one more base.
use Rattle.std.proofs.Common.{◌≡◌, ℕ, zero, suc, Bool, true, false, cond, List, [], ◌∷◌, ◌++◌, Option, Some, None, is_some, length, slice_get, refl, sym, ap, ◌∙◌, subst}
use Rattle.std.specs.Borrow.{Bor}
use Rattle.std.specs.HashMap.{get_by, keys}
use Rattle.std.specs.List.{IsDistinct}
use Rattle.std.specs.Map.{update, keys_of, lookup}
use Rattle.std.specs.Option.{MatchOption}
use Rattle.std.specs.Str.{bytes_eq}
use Rattle.std.proofs.lemmas.List.{append-nil}
use Rattle.std.proofs.lemmas.Slice.Eq.{bytes_eq-Decides}
use Rattle.indexmap.specs.IndexMap.{insert_entry}
use Rattle.cs_grammar.specs.Tree.{DefinitionTree}
use Rattle.cs_package.proofs.Environments.{bytes_eq-refl}
use Rattle.cs_resolve.specs.Narrowed.{Has, HoldsBase, Sound}
use Rattle.cs_resolve.specs.declared.refinement.Bases.{Bases}

at_kept : {X : Type 0} (P : X → Type 0) (xs ys : List X) (i : ℕ) → MatchOption (slice_get xs i) ⊥ P → MatchOption (slice_get (xs ++ ys) i) ⊥ P
at_kept P [] ys i h = absurd h
at_kept P (x ∷ xs) ys zero h = h
at_kept P (x ∷ xs) ys (suc i) h = at_kept P xs ys i h

pub at_end : {X : Type 0} (P : X → Type 0) (xs : List X) (x : X) → P x → MatchOption (slice_get (xs ++ x ∷ []) (length xs)) ⊥ P
at_end P [] x h = h
at_end P (y ∷ xs) x h = at_end P xs x h

-- the keys after one is put in, if it wasn't there
pub keys_grown : {K X : Type 0} (eq : K → K → Bool) (es : List (K × X)) (k : K) (v : X) → (more : List K) × (keys_of (insert_entry eq es k v) ≡ keys_of es ++ more)
keys_grown eq [] k v = (k ∷ [], refl)
keys_grown {K = K} {X = X} eq (e ∷ es) k v = by (eq k e.0) (keys_grown eq es k v)
  where
    by : (b : Bool) → (more : List K) × (keys_of (insert_entry eq es k v) ≡ keys_of es ++ more) → (more : List K) × (keys_of (cond b ((e.0, v) ∷ es) (e ∷ insert_entry eq es k v)) ≡ e.0 ∷ keys_of es ++ more)
    by true r = ([], ap (λ ks. e.0 ∷ ks) (sym (append-nil (keys_of es))))
    by false r = (r.0, ap (λ ks. e.0 ∷ ks) r.1)

module _ (b c : Bases) (name : List ℕ) (number : ℕ) (after : (t : List ℕ) → get_by (λ k. bytes_eq t k.now) c.numbers ≡ update bytes_eq (λ n. get_by (λ k. bytes_eq n k.now) b.numbers) name (Some number) t) where
  pub has_kept : (n : List ℕ) → Has b n → Has c n
  has_kept n h = ap is_some (after n) ∙ elim (bytes_eq name n) as (λ s. is_some (cond s (Some number) (get_by (λ k. bytes_eq n k.now) b.numbers)) ≡ true) [ true ↦ refl | false ↦ h ]

  pub has_added : Has c name
  has_added = ap is_some (after name ∙ ap (λ s. cond s (Some number) (get_by (λ k. bytes_eq name k.now) b.numbers)) (bytes_eq-refl name))

  module _ (ds : List DefinitionTree) (more : List _) (sets : c.sets.items ≡ b.sets.items ++ more) (once : IsDistinct (λ k l. bytes_eq k.now l.now) (keys c.numbers)) (here : MatchOption (slice_get c.sets.items number) ⊥ (HoldsBase ds name)) where
    pub sound_put : Sound ds b → Sound ds c
    sound_put s = record {
      once = once;
      each = λ n. subst (λ o. MatchOption o (Unit {0}) (λ i. MatchOption (slice_get c.sets.items i) ⊥ (HoldsBase ds n))) (sym (after n)) (by n (bytes_eq name n) refl);
    }
      where
        old : (n : List ℕ) (o : Option ℕ) → MatchOption o (Unit {0}) (λ i. MatchOption (slice_get b.sets.items i) ⊥ (HoldsBase ds n)) → MatchOption o (Unit {0}) (λ i. MatchOption (slice_get c.sets.items i) ⊥ (HoldsBase ds n))
        old n None h = tt
        old n (Some i) h = subst (λ xs. MatchOption (slice_get xs i) ⊥ (HoldsBase ds n)) (sym sets) (at_kept (HoldsBase ds n) b.sets.items more i h)

        by : (n : List ℕ) (same : Bool) → bytes_eq name n ≡ same → MatchOption (cond same (Some number) (get_by (λ k. bytes_eq n k.now) b.numbers)) (Unit {0}) (λ i. MatchOption (slice_get c.sets.items i) ⊥ (HoldsBase ds n))
        by n true e = subst (λ u. MatchOption (slice_get c.sets.items number) ⊥ (HoldsBase ds u)) ((bytes_eq-Decides name n).0 e) here
        by n false e = old n (get_by (λ k. bytes_eq n k.now) b.numbers) (s.each n)

-- no base
pub sound_none : (ds : List DefinitionTree) (b : Bases) → b.numbers.entries ≡ [] → Sound ds b
unfolding IsDistinct
sound_none ds b none = record {
  once = subst (λ es. IsDistinct (λ (k l : Bor (List ℕ)). bytes_eq k.now l.now) (keys_of es)) (sym none) tt;
  each = λ n. subst (λ es. MatchOption (lookup (λ k. bytes_eq n k.now) es) (Unit {0}) (λ i. MatchOption (slice_get b.sets.items i) ⊥ (HoldsBase ds n))) (sym none) tt;
}
