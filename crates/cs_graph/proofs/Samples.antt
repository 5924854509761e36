-- Graphs, heights and cycles, worked by computation. A wrong expectation stops the check here.
use Rattle.std.proofs.Common.{◌≡◌, ℕ, zero, suc, ◌<◌, List, [], ◌∷◌, inl, inr, Vec, Global, length, get_or, refl, sym, subst, arith}
use Rattle.cs_graph.specs.Chains.{On, Chain, NoCycle, IsHeight}
use Rattle.cs_graph.specs.Graph.{Graph, Refers, Within, IsLowestCycle, AreHeights, FallAlong, IsRefusal}
use Rattle.cs_graph.specs.declared.fault.GraphFault.TheVariants.{Cycle}
use Rattle.cs_graph.proofs.Paths.{chain_short, no_cycle}
use Rattle.cs_graph.proofs.Marks.{refers_on}

-- ---- 0 refers to 1 and 2, 1 refers to 2, and 2 and 3 to none

abbrev falling : Graph
falling = (1 ∷ 2 ∷ []) ∷ (2 ∷ []) ∷ [] ∷ [] ∷ []

abbrev heights : List ℕ
heights = 2 ∷ 1 ∷ 0 ∷ 0 ∷ []

refers_0_1 : Refers falling 0 1
refers_0_1 = record { row = 1 ∷ 2 ∷ []; found = refl; on = inl refl }

refers_0_2 : Refers falling 0 2
refers_0_2 = record { row = 1 ∷ 2 ∷ []; found = refl; on = inr (inl refl) }

refers_1_2 : Refers falling 1 2
refers_1_2 = record { row = 2 ∷ []; found = refl; on = inl refl }

-- what refers to what, and to nothing else
referring : (P : ℕ → ℕ → Type 0) → P 0 1 → P 0 2 → P 1 2 → (n m : ℕ) → Refers falling n m → P n m
referring P a b c zero m r = elim (refers_on falling 0 m (1 ∷ 2 ∷ []) refl r) as (λ _. P 0 m) [
  | inl e ↦ subst (P 0) (sym e) a
  | inr o ↦ elim o as (λ _. P 0 m) [ inl e ↦ subst (P 0) (sym e) b | inr none ↦ absurd none ]
]
referring P a b c (suc zero) m r = elim (refers_on falling 1 m (2 ∷ []) refl r) as (λ _. P 1 m) [ inl e ↦ subst (P 1) (sym e) c | inr none ↦ absurd none ]
referring P a b c (suc (suc zero)) m r = absurd (refers_on falling 2 m [] refl r)
referring P a b c (suc (suc (suc zero))) m r = absurd (refers_on falling 3 m [] refl r)
referring P a b c (suc (suc (suc (suc n)))) m r = let e = r.found in cc

within : Within falling
within = referring (λ n m. m < 4) (omega arith) (omega arith) (omega arith)

falls : FallAlong falling heights
falls = referring (λ n m. get_or heights m 0 < get_or heights n 0) (omega arith) (omega arith) (omega arith)

acyclic : NoCycle (Refers falling)
acyclic = no_cycle (Refers falling) (λ n. get_or heights n 0) falls

by_chain : (n : ℕ) (ns : List ℕ) → Chain (Refers falling) n ns → length ns ≡ get_or heights n 0 → IsHeight (Refers falling) n (get_or heights n 0)
by_chain n ns c l = record { steps = ns; chain = c; long = l; longest = chain_short (Refers falling) (λ k. get_or heights k 0) falls n }

each : (n : ℕ) → n < 4 → IsHeight (Refers falling) n (get_or heights n 0)
each zero l = by_chain 0 (1 ∷ 2 ∷ []) (refers_0_1, (refers_1_2, tt)) refl
each (suc zero) l = by_chain 1 (2 ∷ []) (refers_1_2, tt) refl
each (suc (suc zero)) l = by_chain 2 [] tt refl
each (suc (suc (suc zero))) l = by_chain 3 [] tt refl
each (suc (suc (suc (suc n)))) l = absurd (omega (arith, l))

have_heights : AreHeights falling heights
have_heights = record { long = refl; each = each }

-- the longest chain counts, and not the first or the shortest
not_one : IsHeight (Refers falling) 0 1 → ⊥
not_one h = let l = h.longest (1 ∷ 2 ∷ []) (refers_0_1, (refers_1_2, tt)) in omega (arith, l)

not_three : IsHeight (Refers falling) 0 3 → ⊥
not_three h = let l = chain_short (Refers falling) (λ k. get_or heights k 0) falls 0 h.steps h.chain in omega (arith, l, h.long)

one_without_height : AreHeights falling (2 ∷ 1 ∷ 0 ∷ []) → ⊥
one_without_height h = omega (arith, h.long)

as_high : FallAlong falling (1 ∷ 1 ∷ 0 ∷ 0 ∷ []) → ⊥
as_high f = let l = f 0 1 refers_0_1 in omega (arith, l)

-- the one number refers to one that isn't there
not_within : Within ((1 ∷ []) ∷ []) → ⊥
not_within w = let l = w 0 1 (record { row = 1 ∷ []; found = refl; on = inl refl }) in omega (arith, l)

-- ---- 0 refers to 2, 2 to 1 and 1 to 0; 3 refers to 0 and to itself

abbrev turning : Graph
turning = (2 ∷ []) ∷ (0 ∷ []) ∷ (1 ∷ []) ∷ (0 ∷ 3 ∷ []) ∷ []

turns_0 : Refers turning 0 2
turns_0 = record { row = 2 ∷ []; found = refl; on = inl refl }

turns_2 : Refers turning 2 1
turns_2 = record { row = 1 ∷ []; found = refl; on = inl refl }

turns_1 : Refers turning 1 0
turns_1 = record { row = 0 ∷ []; found = refl; on = inl refl }

one_of_two : (n a b : ℕ) → (n ≡ a → ⊥) → (n ≡ b → ⊥) → On n (a ∷ b ∷ []) → ⊥
one_of_two n a b x y (inl e) = x e
one_of_two n a b x y (inr (inl e)) = y e
one_of_two n a b x y (inr (inr o)) = o

apart : (n a : ℕ) → (n ≡ a → ⊥) → On n (a ∷ []) → ⊥
apart n a x (inl e) = x e
apart n a x (inr o) = o

told : IsLowestCycle turning (0 ∷ 2 ∷ 1 ∷ [])
told = record {
  cycle = ((turns_0, (turns_2, (turns_1, tt))), (one_of_two 0 2 1 (λ e. omega (arith, e)) (λ e. omega (arith, e)), (apart 2 1 (λ e. omega (arith, e)), ((λ o. o), tt))));
  lowest = λ m o. omega arith;
}

of_itself : IsLowestCycle turning (3 ∷ [])
of_itself = record { cycle = ((record { row = 0 ∷ 3 ∷ []; found = refl; on = inr (inl refl) }, tt), ((λ o. o), tt)); lowest = λ m o. absurd o }

told_from_another : IsLowestCycle turning (2 ∷ 1 ∷ 0 ∷ []) → ⊥
told_from_another h = let l = h.lowest 0 (inr (inl refl)) in omega (arith, l)

told_twice : IsLowestCycle turning (0 ∷ 2 ∷ 1 ∷ 0 ∷ 2 ∷ 1 ∷ []) → ⊥
told_twice h = h.cycle.1.0 (inr (inr (inl refl)))

told_without_its_end : IsLowestCycle turning (0 ∷ 2 ∷ []) → ⊥
told_without_its_end h = apart 0 1 (λ e. omega (arith, e)) (refers_on turning 2 0 (1 ∷ []) refl h.cycle.0.1.0)

none_told : IsLowestCycle turning [] → ⊥
none_told h = h.cycle.0

not_acyclic : NoCycle (Refers turning) → ⊥
not_acyclic f = f 0 (2 ∷ 1 ∷ []) (turns_0, (turns_2, (turns_1, tt)))

refused : (v : Vec ℕ Global) → v.items ≡ 0 ∷ 2 ∷ 1 ∷ [] → IsRefusal (Cycle v) turning
refused v e = subst (IsLowestCycle turning) (sym e) told
