-- The values of a literal that aren't plain, counted for a label and for every key.
use Rattle.std.proofs.Common.{◌≡◌, ℕ, ◌+◌, true, false, cond, List, [], ◌∷◌, map, filter, count_by, refl, sym, ap, ◌∙◌, arith, zero-add}
use Rattle.std.proofs.lemmas.List.Sums.{sum_by-append}
use Rattle.cs_grammar.specs.Tree.{Tree}
use Rattle.cs_resolve.specs.Opening.{has_literal_or_reference, Declared, one, every_key, Named, covers, values}
use Rattle.cs_resolve.specs.Checks.{unplain, with_own_name}

abbrev weight : Tree → ℕ
weight e = cond (has_literal_or_reference e) 1 0

count_cons : (d : Declared) (n : Named) (ns : List Named) → unplain d (n ∷ ns) ≡ cond (covers n.name d) (weight n.value) 0 + unplain d ns
count_cons d n ns = elim (covers n.name d) as (λ b. count_by has_literal_or_reference (map (λ (m : Named). m.value) (cond b (n ∷ filter (λ (m : Named). covers m.name d) ns) (filter (λ (m : Named). covers m.name d) ns))) ≡ cond b (weight n.value) 0 + unplain d ns) [ true ↦ sum_by-append (λ x. cond (has_literal_or_reference x) 1 0) (n.value ∷ []) (values d ns) ∙ ap (λ k. k + unplain d ns) (zero-add (weight n.value)) | false ↦ sym (zero-add (unplain d ns)) ]

split_cons : (t : List ℕ) (d : Declared) (e : Tree) (ns : List Named) → unplain (one t) ns ≡ unplain (one t) (with_own_name ns) + unplain every_key ns
    → unplain (one t) (record { name = d; value = e } ∷ ns) ≡ unplain (one t) (with_own_name (record { name = d; value = e } ∷ ns)) + unplain every_key (record { name = d; value = e } ∷ ns)
split_cons t (one s) e ns before =
    let all = count_cons (one t) (record { name = one s; value = e }) ns in
    let own = count_cons (one t) (record { name = one s; value = e }) (with_own_name ns) in
    let every = count_cons every_key (record { name = one s; value = e }) ns in
    omega (arith, all, own, every, before)
split_cons t every_key e ns before =
    let all = count_cons (one t) (record { name = every_key; value = e }) ns in
    let every = count_cons every_key (record { name = every_key; value = e }) ns in
    omega (arith, all, every, before)

-- the values of a label are its own and those of every key
pub split : (t : List ℕ) (ns : List Named) → unplain (one t) ns ≡ unplain (one t) (with_own_name ns) + unplain every_key ns
split t [] = refl
split t (n ∷ ns) = split_cons t n.name n.value ns (split t ns)
