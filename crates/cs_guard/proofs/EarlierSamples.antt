-- What the first edition took for guarded, worked by the definitions. A wrong expectation stops the check here.
use Rattle.std.proofs.Common.{◌≡◌, ℕ, ◌<◌, ◌≤◌, true, false, List, [], ◌∷◌, ◌++◌, length, map, replicate, codes, cond, Some, None, refl, ap, arith}
use Rattle.std.specs.List.{flat_map}
use Rattle.std.specs.Option.{unwrap_or}
use Rattle.std.specs.Str.{bytes_eq}
use Rattle.cs_package.specs.Expression as cue
use Rattle.cs_package.specs.Expression.{Expression, no_declarations}
use Rattle.cs_package.specs.View.{expressions_of}
use Rattle.cs_graph.specs.Chains.{Chain, NoCycle}
use Rattle.cs_guard.specs.Earlier.{mixed, mixed_of, RefersMixedly, IsGuardedEarlier}
use Rattle.cs_guard.specs.Guarded.{IsGuarded}
use Rattle.cs_guard.specs.Limits.{most_references}
use Rattle.cs_guard.specs.References.{strong_of}
use Rattle.cs_guard.proofs.Samples.{T, A, B, int, null, literal, regular, optional, every, forms, atoms, counts, itself, first_of, alone_with, expressions, expressions_guarded}

-- ---- references

mixed_names : map mixed forms ≡ (A ∷ []) ∷ (A ∷ B ∷ []) ∷ (A ∷ B ∷ []) ∷ (A ∷ B ∷ []) ∷ (A ∷ []) ∷ (A ∷ B ∷ []) ∷ (A ∷ B ∷ []) ∷ (A ∷ B ∷ []) ∷ [] ∷ (A ∷ B ∷ []) ∷ (A ∷ B ∷ []) ∷ []
mixed_names = refl

without_mixed : map mixed atoms ≡ replicate 13 []
without_mixed = refl

-- with `|` as with `&`, but not beneath `?` and not behind the front of a list
mixed_counts : counts mixed ≡
    (1 ∷ 1 ∷ 1 ∷ 0 ∷ 1 ∷ 1 ∷ 0 ∷ [])
    ∷ (1 ∷ 1 ∷ 1 ∷ 0 ∷ 1 ∷ 1 ∷ 0 ∷ [])
    ∷ (1 ∷ 1 ∷ 1 ∷ 0 ∷ 1 ∷ 1 ∷ 0 ∷ [])
    ∷ (0 ∷ 0 ∷ 0 ∷ 0 ∷ 0 ∷ 0 ∷ 0 ∷ [])
    ∷ (1 ∷ 1 ∷ 1 ∷ 0 ∷ 1 ∷ 1 ∷ 0 ∷ [])
    ∷ (1 ∷ 1 ∷ 1 ∷ 0 ∷ 1 ∷ 1 ∷ 0 ∷ [])
    ∷ (0 ∷ 0 ∷ 0 ∷ 0 ∷ 0 ∷ 0 ∷ 0 ∷ []) ∷ []
mixed_counts = refl

-- #T: null | #A & {x: #B}, where #B is no strong reference now
abbrev operand : Expression
operand = cue.disjunction (expressions_of (null ∷ cue.conjunction (expressions_of (cue.reference A ∷ literal (regular (codes "x") (cue.reference B) no_declarations) ∷ [])) ∷ []))

mixed_operand : RefersMixedly (alone_with operand) T B
mixed_operand = (1, omega arith, refl)

strong_operand : strong_of (alone_with operand) T ≡ A ∷ []
strong_operand = refl

-- #T: {[string]: #A} and #T: null | #B, of which the first asks nothing; and a name without a definition
both_bodies : map (mixed_of ((T, literal (every (cue.reference A) no_declarations) ∷ cue.disjunction (expressions_of (null ∷ cue.reference B ∷ [])) ∷ []) ∷ [])) (T ∷ A ∷ []) ≡ (B ∷ []) ∷ [] ∷ []
both_bodies = refl

-- ---- environments

-- where the body of #T refers to none so
module _ (e : Expression) (none : mixed e ≡ []) where
  of_none : (n : List ℕ) → mixed_of (alone_with e) n ≡ []
  of_none n = elim (bytes_eq n T) as (λ b. flat_map mixed (unwrap_or (cond b (Some (e ∷ [])) None) []) ≡ []) [ true ↦ ap (λ ns. ns ++ []) none | false ↦ refl ]

  no_step : (n m : List ℕ) → RefersMixedly (alone_with e) n m → ⊥
  no_step n m c = let l : c.0 < length (mixed_of (alone_with e) n) = c.1 in omega (arith, ap length (of_none n), l)

  pub was_guarded : IsGuardedEarlier (alone_with e)
  was_guarded = record { no_cycle = cycle; short = chain }
    where
      cycle : NoCycle (RefersMixedly (alone_with e))
      cycle n [] c = no_step n n c.0
      cycle n (m ∷ ns) c = no_step n m c.0

      chain : (n : List ℕ) (ns : List (List ℕ)) → Chain (RefersMixedly (alone_with e)) n ns → length ns ≤ most_references
      chain n [] c = omega arith
      chain n (m ∷ ns) c = absurd (no_step n m c.0)

-- #T: {v: int, kids?: [...#T]}
tree : IsGuardedEarlier (alone_with (literal (regular (codes "v") int (optional (codes "kids") (cue.list cue.no_expressions (cue.each (cue.reference T))) no_declarations))))
tree = was_guarded _ refl

-- #A: {next: #A}
itself_was_refused : ¬ IsGuardedEarlier itself
itself_was_refused h = h.no_cycle A [] (first_of A [], tt)

-- #T: int | {l: #T, r: #T}: a cycle through `|`, which is guarded now
pub through_disjunction : ¬ IsGuardedEarlier (alone_with expressions)
through_disjunction h = h.no_cycle T [] (first_of T (T ∷ []), tt)

guarded_now : IsGuarded (alone_with expressions)
guarded_now = expressions_guarded
