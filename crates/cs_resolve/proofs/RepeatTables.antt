-- Tables of the names whose values aren't plain.
use Rattle.std.proofs.Common.{◌≡◌, ℕ, ◌+◌, Bool, true, false, cond, List, [], ◌∷◌, ◌++◌, Some, map, filter, count_by, unwrap_or, refl, sym, ap, ◌∙◌, subst, add-zero, zero-add}
use Rattle.std.specs.Borrow.{Bor}
use Rattle.std.specs.BTreeMap.{BTreeMap, get_by}
use Rattle.std.specs.Cmp.Lexicographic.{slice_cmp}
use Rattle.std.specs.Map.{update}
use Rattle.std.specs.Ordering.{nat_cmp}
use Rattle.std.specs.Str.{bytes_eq}
use Rattle.std.proofs.lemmas.List.{map-append}
use Rattle.std.proofs.lemmas.List.Elements.{filter-append}
use Rattle.std.proofs.lemmas.List.Sums.{sum_by-append}
use Rattle.std.proofs.lemmas.Slice.Eq.{bytes_eq-Decides}
use Rattle.cs_grammar.specs.Tree.{Tree}
use Rattle.cs_resolve.specs.Opening.{has_literal_or_reference, Declared, one, Named, covers, values}
use Rattle.cs_resolve.specs.declared.opening.Count.{Count}
use Rattle.cs_resolve.specs.declared.opening.Count.TheVariants as count
use Rattle.cs_resolve.specs.Checks.{CountsAs, Repeats, unplain}

abbrev named : List ℕ → Tree → Named
named n e = record { name = one n; value = e }

-- how many aren't plain, with one more behind
count_push : (d : Declared) (n : Named) (ns : List Named) → unplain d (ns ++ n ∷ []) ≡ unplain d ns + cond (covers n.name d) (cond (has_literal_or_reference n.value) 1 0) 0
count_push d n ns =
    ap (λ xs. count_by has_literal_or_reference (map (λ (m : Named). m.value) xs)) (filter-append (λ (m : Named). covers m.name d) ns (n ∷ []))
    ∙ ap (count_by has_literal_or_reference) (map-append (λ (m : Named). m.value) (filter (λ (m : Named). covers m.name d) ns) (filter (λ (m : Named). covers m.name d) (n ∷ [])))
    ∙ sum_by-append (λ x. cond (has_literal_or_reference x) 1 0) (values d ns) (values d (n ∷ []))
    ∙ ap (λ k. unplain d ns + k) (elim (covers n.name d) as (λ b. count_by has_literal_or_reference (map (λ (m : Named). m.value) (cond b (n ∷ []) [])) ≡ cond b (cond (has_literal_or_reference n.value) 1 0) 0) [ true ↦ zero-add (cond (has_literal_or_reference n.value) 1 0) | false ↦ refl ])

plain_more : (o : Count) (k : ℕ) → CountsAs o k → CountsAs o (k + 0)
plain_more o k h = subst (λ j. CountsAs o j) (sym (add-zero k)) h

module _ (m : BTreeMap (Bor (List ℕ)) Count) (ns : List Named) (name : List ℕ) (e : Tree) (told : Repeats m ns) where
  -- one that isn't, put into the table
  pub noted : has_literal_or_reference e ≡ true → (n : BTreeMap (Bor (List ℕ)) Count) (more : Count) → CountsAs more (unplain (one name) ns + 1) → ((t : List ℕ) → get_by (λ k. slice_cmp nat_cmp t k.now) n ≡ update bytes_eq (λ ds. get_by (λ k. slice_cmp nat_cmp ds k.now) m) name (Some more) t) → Repeats n (ns ++ named name e ∷ [])
  noted isnt n more counts after t = subst (λ k. CountsAs (unwrap_or (get_by (λ k. slice_cmp nat_cmp t k.now) n) count.None) k) (sym (count_push (one t) (named name e) ns)) (subst (λ o. CountsAs (unwrap_or o count.None) (unplain (one t) ns + cond (bytes_eq name t) (cond (has_literal_or_reference e) 1 0) 0)) (sym (after t)) (by (bytes_eq name t) refl))
    where
      by : (b : Bool) → bytes_eq name t ≡ b → CountsAs (unwrap_or (cond b (Some more) (get_by (λ k. slice_cmp nat_cmp t k.now) m)) count.None) (unplain (one t) ns + cond b (cond (has_literal_or_reference e) 1 0) 0)
      by true same = rw isnt (subst (λ s. CountsAs more (unplain (one s) ns + 1)) ((bytes_eq-Decides name t).0 same) counts)
      by false other = plain_more (unwrap_or (get_by (λ k. slice_cmp nat_cmp t k.now) m) count.None) (unplain (one t) ns) (told t)
