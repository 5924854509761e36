-- Where the search ends, exactly the closed bases are found.
use Rattle.std.proofs.Common.{◌≡◌, ℕ, zero, suc, ◌+◌, ◌<◌, ◌≤◌, Bool, true, false, cond, List, [], ◌∷◌, ◌++◌, ◌⊎◌, inl, inr, Option, Some, None, is_some, length, slice_get, Vec, Global, refl, sym, ap, ◌∙◌, subst, arith}
use Rattle.std.specs.Borrow.{Bor}
use Rattle.std.specs.BTreeSet.{BTreeSet}
use Rattle.std.specs.Cmp.{IsEquivalence}
use Rattle.std.specs.HashMap.{HashMap, get_by, keys}
use Rattle.std.specs.List.{list_any}
use Rattle.std.specs.Map.{keys_of, lookup}
use Rattle.std.specs.Option.{option_map, MatchOption}
use Rattle.std.specs.Str.{bytes_eq}
use Rattle.std.proofs.lemmas.Cmp.{nat_list_eq_equiv}
use Rattle.std.proofs.lemmas.Map.Made.{is_some-lookup}
use Rattle.std.proofs.lemmas.Map.Steps.{length-le_from_keys}
use Rattle.std.proofs.lemmas.Option.{slice_get_within}
use Rattle.std.proofs.lemmas.Slice.Eq.{bytes_eq-Decides}
use Rattle.cs_grammar.specs.Tree.{DefinitionTree}
use Rattle.cs_grammar.specs.declared.ast.Expr.{Expr}
use Rattle.cs_resolve.specs.Refinement.{IsBase, by_literal, by_refinement}
use Rattle.cs_resolve.specs.ClosedBases.{bases}
use Rattle.cs_resolve.specs.Narrowed.{HoldsSole, HoldsBase, HoldsFound, HoldBases, Numbers, Has, Sound, Grown, Refines, Refiners, AreClassified, Closed}
use Rattle.cs_resolve.specs.declared.refinement.Bases.{Bases}
use Rattle.cs_resolve.proofs.BaseLaw.{least}
use Rattle.cs_resolve.proofs.Searches.{body_of}

-- ---- keys by place

pub key_at : {K X : Type 0} (es : List (K × X)) (i : ℕ) → slice_get (keys_of es) i ≡ option_map (λ e. e.0) (slice_get es i)
key_at [] i = refl
key_at (e ∷ es) zero = refl
key_at (e ∷ es) (suc i) = key_at es i

pub same_key : (k l : Bor (List ℕ)) → Some k ≡ Some l → k ≡ l
same_key k l h = cc

same_front : {X : Type 0} (xs ys : List X) (i : ℕ) → i < length xs → slice_get (xs ++ ys) i ≡ slice_get xs i
same_front [] ys i l = absurd (omega (arith, l))
same_front (x ∷ xs) ys zero l = refl
same_front (x ∷ xs) ys (suc i) l = same_front xs ys i (omega (arith, l))

-- the place of a key
place_of : {X : Type 0} (n : List ℕ) (es : List (Bor (List ℕ) × X)) → is_some (lookup (λ k. bytes_eq n k.now) es) ≡ true → (i : ℕ) × (k : Bor (List ℕ)) × (slice_get (keys_of es) i ≡ Some k) × (n ≡ k.now)
place_of n [] h = cc
place_of {X = X} n (e ∷ es) h = by (bytes_eq n e.0.now) refl h (place_of n es)
  where
    by : (b : Bool) → bytes_eq n e.0.now ≡ b → is_some (cond b (Some e.1) (lookup (λ k. bytes_eq n k.now) es)) ≡ true → (is_some (lookup (λ k. bytes_eq n k.now) es) ≡ true → (i : ℕ) × (k : Bor (List ℕ)) × (slice_get (keys_of es) i ≡ Some k) × (n ≡ k.now)) → (i : ℕ) × (k : Bor (List ℕ)) × (slice_get (keys_of (e ∷ es)) i ≡ Some k) × (n ≡ k.now)
    by true same g rest = (zero, e.0, refl, (bytes_eq-Decides n e.0.now).0 same)
    by false other g rest = let r = rest g in (suc r.0, r.1, r.2, r.3)

module _ (ds : List DefinitionTree) (old new : Bases) (grown : Grown old new) (p : ℕ) (closed : Closed ds old p) where
  -- what refines the next is found too, where the keys up to it stay
  pub closed_more : ((k : Bor (List ℕ)) → slice_get (keys old.numbers) p ≡ Some k → (n : List ℕ) → Refines ds n k.now → Has new n) → ((i : ℕ) → i < suc p → slice_get (keys new.numbers) i ≡ slice_get (keys old.numbers) i) → Closed ds new (p + 1)
  closed_more here front i k l at n r = elim (before_or_at i p (omega (arith, l))) [
    | inl b ↦ grown.kept n (closed i k b (sym (front i (omega (arith, b))) ∙ at) n r)
    | inr e ↦ here k (ap (slice_get (keys old.numbers)) (sym e) ∙ sym (front i (omega (arith, l))) ∙ at) n r
  ]
    where
      before_or_at : (i p : ℕ) → i < suc p → (i < p) ⊎ (i ≡ p)
      before_or_at zero zero l = inr refl
      before_or_at zero (suc p) l = inl (omega arith)
      before_or_at (suc i) zero l = absurd (omega (arith, l))
      before_or_at (suc i) (suc p) l = elim (before_or_at i p (omega (arith, l))) [ inl b ↦ inl (omega (arith, b)) | inr e ↦ inr (ap suc e) ]

  pub front_kept : p < length (keys old.numbers) → (i : ℕ) → i < suc p → slice_get (keys new.numbers) i ≡ slice_get (keys old.numbers) i
  front_kept within i l = ap (λ ks. slice_get ks i) grown.behind ∙ same_front (keys old.numbers) grown.more i (omega (arith, within, l))

-- what narrows is listed
pub listed_names : {S : Type 0} (r : Refiners S) (ds : List DefinitionTree) (b : Bases) (m n : List ℕ) → AreClassified ds b r → Refines ds n m → (o : Option (Vec (Bor (List ℕ)) Global)) → get_by (λ k. bytes_eq m k.now) r ≡ o → MatchOption o ⊥ (λ names. list_any (λ k. bytes_eq n k.now) names.items ≡ true)
listed_names r ds b m n classified f o is = subst (λ x. MatchOption x ⊥ (λ names. list_any (λ k. bytes_eq n k.now) names.items ≡ true)) is ((classified n f.body f.is).listed m f.fields f.narrowed)

-- ---- the end

found_labels : (ds : List DefinitionTree) (n : List ℕ) (o : Option (BTreeSet (Bor (List ℕ)))) → MatchOption o ⊥ (HoldsBase ds n) → MatchOption o ⊥ (HoldsFound (bases ds n))
found_labels ds n None h = absurd h
found_labels ds n (Some s) h = (h.0, (least ds n h.0).1 h.1, h.2)

module _ {S : Type 0} (m : HashMap (Bor (List ℕ)) (Option (Bor Expr)) S) (ds : List DefinitionTree) (held : HoldsSole m ds) where
  declared : (n : List ℕ) (ls : List (List ℕ)) → IsBase ds n ls → is_some (get_by (λ k. bytes_eq n k.now) m) ≡ true
  declared n ls (by_literal {e = e} is lit) = let x = body_of m ds n e held is in ap is_some x.1
  declared n ls (by_refinement {e = e} is nar base fits) = let x = body_of m ds n e held is in ap is_some x.1

  with_set : (n : List ℕ) (o : Option (BTreeSet (Bor (List ℕ)))) → MatchOption o ⊥ (HoldsBase ds n) → is_some (get_by (λ k. bytes_eq n k.now) m) ≡ true
  with_set n None h = absurd h
  with_set n (Some s) h = declared n h.0 h.1

  laws : IsEquivalence (λ (k l : Bor (List ℕ)). bytes_eq k.now l.now)
  laws = record {
    refl = λ k. nat_list_eq_equiv.refl k.now;
    symm = λ k l. nat_list_eq_equiv.symm k.now l.now;
    congr = λ k l j. nat_list_eq_equiv.congr k.now l.now j.now;
  }

  -- each that is found has a body, so there are no more of them than bodies
  few : (b : Bases) → Sound ds b → length (keys b.numbers) ≤ length m.entries
  few b sound = length-le_from_keys laws (keys b.numbers) m.entries sound.once (λ k h. there k.now (get_by (λ l. bytes_eq k.now l.now) b.numbers) (sound.each k.now) (is_some-lookup (λ l. bytes_eq k.now l.now) b.numbers.entries ∙ h))
    where
      there : (n : List ℕ) (o : Option ℕ) → MatchOption o (Unit {0}) (λ i. MatchOption (slice_get b.sets.items i) ⊥ (HoldsBase ds n)) → is_some o ≡ true → is_some (get_by (λ k. bytes_eq n k.now) m) ≡ true
      there n None h g = cc
      there n (Some i) h g = with_set n (slice_get b.sets.items i) h

  module _ {T : Type 0} (r : Refiners T) (old b : Bases) (classified : AreClassified ds old r) (grown : Grown old b) (sound : Sound ds b) (closed : Closed ds b (length m.entries)) where
    complete : (n : List ℕ) (ls : List (List ℕ)) → IsBase ds n ls → Has b n
    complete n ls (by_literal {e = e} {fs = fs} is lit) = grown.kept n ((classified n e is).literal fs lit)
    complete n ls (by_refinement {m = k} {e = e} {fs = fs} is nar base fits) =
        let at = place_of k b.numbers.entries (complete k ls base) in
        let inside = slice_get_within (keys b.numbers) at.0 at.1 at.2 in
        closed at.0 at.1 (let l = few b sound in omega (arith, l, inside)) at.2 n (subst (Refines ds n) at.3 (record { body = e; fields = fs; labels = ls; is = is; narrowed = nar; base = base; fits = fits }))

    pub hold_bases : HoldBases b (bases ds)
    hold_bases n = by (get_by (λ k. bytes_eq n k.now) b.numbers) refl (sound.each n)
      where
        missing : get_by (λ k. bytes_eq n k.now) b.numbers ≡ None → (o : Option (List (List ℕ))) → bases ds n ≡ o → bases ds n ≡ None
        missing none None e = e
        missing none (Some ls) e = let h : false ≡ true = sym (ap is_some none) ∙ complete n ls ((least ds n ls).0 e) in cc

        by : (o : Option ℕ) → get_by (λ k. bytes_eq n k.now) b.numbers ≡ o → MatchOption o (Unit {0}) (λ i. MatchOption (slice_get b.sets.items i) ⊥ (HoldsBase ds n)) → Numbers b.sets.items o (bases ds n)
        by None e h = missing e (bases ds n) refl
        by (Some i) e h = found_labels ds n (slice_get b.sets.items i) h
