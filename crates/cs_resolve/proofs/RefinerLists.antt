-- Tables of the definitions that may narrow a base.
use Rattle.std.proofs.Common.{◌≡◌, ℕ, Bool, true, false, ◌||◌, cond, List, [], ◌∷◌, ◌++◌, Some, None, Vec, Global, refl, sym, ap, ◌∙◌, subst}
use Rattle.std.specs.Borrow.{Bor}
use Rattle.std.specs.HashMap.{get_by}
use Rattle.std.specs.List.{list_any}
use Rattle.std.specs.Map.{update}
use Rattle.std.specs.Option.{MatchOption}
use Rattle.std.specs.Str.{bytes_eq}
use Rattle.std.proofs.lemmas.List.Folds.{list_any-append}
use Rattle.std.proofs.lemmas.Slice.Eq.{bytes_eq-Decides}
use Rattle.cs_package.proofs.Environments.{bytes_eq-refl}
use Rattle.cs_resolve.specs.Narrowed.{Refiners, Lists}

abbrev pub among : List ℕ → List (Bor (List ℕ)) → Bool
among n xs = list_any (λ k. bytes_eq n k.now) xs

or_right : (a : Bool) → (a || true) ≡ true
or_right true = refl
or_right false = refl

module _ {S : Type 0} (r mid new : Refiners S) (base : List ℕ) (names : Vec (Bor (List ℕ)) Global) (taken : (t : List ℕ) → get_by (λ k. bytes_eq t k.now) mid ≡ update bytes_eq (λ n. get_by (λ k. bytes_eq n k.now) r) base None t) (put : (t : List ℕ) → get_by (λ k. bytes_eq t k.now) new ≡ update bytes_eq (λ n. get_by (λ k. bytes_eq n k.now) mid) base (Some names) t) (old : List (Bor (List ℕ))) (name : Bor (List ℕ)) (pushed : names.items ≡ old ++ name ∷ []) where
  pub lists_added : Lists new base name.now
  lists_added = subst (λ o. MatchOption o ⊥ (λ xs. among name.now xs.items ≡ true)) (sym (put base ∙ ap (λ b. cond b (Some names) (get_by (λ k. bytes_eq base k.now) mid)) (bytes_eq-refl base)))
      (ap (among name.now) pushed ∙ list_any-append (λ k. bytes_eq name.now k.now) old (name ∷ []) ∙ ap (λ b. among name.now old || (b || false)) (bytes_eq-refl name.now) ∙ or_right (among name.now old))

  pub lists_kept : ((n : List ℕ) → MatchOption (get_by (λ k. bytes_eq base k.now) r) ⊥ (λ xs. among n xs.items ≡ true) → among n old ≡ true) → (m n : List ℕ) → Lists r m n → Lists new m n
  lists_kept before m n h = subst (λ o. MatchOption o ⊥ (λ xs. among n xs.items ≡ true)) (sym (put m)) (by (bytes_eq base m) refl)
    where
      by : (b : Bool) → bytes_eq base m ≡ b → MatchOption (cond b (Some names) (get_by (λ k. bytes_eq m k.now) mid)) ⊥ (λ xs. among n xs.items ≡ true)
      by true e =
          let there = before n (subst (λ u. Lists r u n) (sym ((bytes_eq-Decides base m).0 e)) h) in
          ap (among n) pushed ∙ list_any-append (λ k. bytes_eq n k.now) old (name ∷ []) ∙ ap (λ b. b || (bytes_eq n name.now || false)) there
      by false e = subst (λ o. MatchOption o ⊥ (λ xs. among n xs.items ≡ true)) (sym (taken m ∙ ap (λ b. cond b None (get_by (λ k. bytes_eq m k.now) r)) e)) h
