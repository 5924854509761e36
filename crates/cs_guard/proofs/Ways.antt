-- The ways in which references are reached: a strong one is direct or inside, and is reached with and without `|` at once.
use Rattle.std.proofs.Common.{ℕ, ◌<◌, List, [], ◌∷◌, ◌++◌, ◌⊎◌, inl, inr, ◌↔◌, Contains, arith}
use Rattle.std.specs.List.{flat_map}
use Rattle.std.specs.Option.{unwrap_or}
use Rattle.std.proofs.lemmas.List.Elements.{Contains-append_left, Contains-append_right, Contains-append_cases}
use Rattle.cs_package.specs.Expression as cue
use Rattle.cs_package.specs.Expression.{Expression, Expressions, Declarations, DeclarationMark}
use Rattle.cs_package.specs.Environment.{Environment, bodies}
use Rattle.cs_graph.specs.Chains.{Chain}
use Rattle.cs_guard.specs.Limits as limits
use Rattle.cs_guard.specs.Earlier.{mixed, mixed_all, mixed_fields, RefersMixedly, IsGuardedEarlier}
use Rattle.cs_guard.specs.Guarded.{IsGuarded}
use Rattle.cs_guard.specs.References.{direct, direct_all, unless_optional, inside, inside_all, inside_fields, strong, strong_all, RefersStrongly}

-- each name of the first list is one of the second
abbrev pub Within : List (List ℕ) → List (List ℕ) → Type 0
Within ns ms = (m : List ℕ) → Contains ns m → Contains ms m

none-within : (ms : List (List ℕ)) → Within [] ms
none-within ms m c = absurd (let l : c.0 < 0 = c.1 in omega (arith, l))

joined-within : (ks ls ms ns : List (List ℕ)) → Within ks ms → Within ls ns → Within (ks ++ ls) (ms ++ ns)
joined-within ks ls ms ns f g m c =
    elim (Contains-append_cases ks ls m c) [
      | inl h ↦ Contains-append_left ms ns m (f m h)
      | inr h ↦ Contains-append_right ms ns m (g m h)
    ]

field-within : (mark : DeclarationMark) (ns ms : List (List ℕ)) → Within ns ms → Within (unless_optional mark ns) (unless_optional mark ms)
field-within cue.regular ns ms f = f
field-within cue.optional ns ms f = none-within []
field-within cue.required ns ms f = f
field-within cue.every ns ms f = none-within []

-- ---- a strong reference is a direct one or one inside

mutual
  pub direct-strong : (e : Expression) → Within (direct e) (strong e)
  direct-strong (cue.reference n) = λ m c. c
  direct-strong (cue.conjunction es) = direct-strong_all es
  direct-strong (cue.disjunction es) = λ m c. c
  direct-strong (cue.atom a) = λ m c. c
  direct-strong (cue.kind k) = λ m c. c
  direct-strong (cue.range a b) = λ m c. c
  direct-strong (cue.struct ds o) = none-within _
  direct-strong (cue.list es r) = none-within _

  direct-strong_all : (es : Expressions) → Within (direct_all es) (strong_all es)
  direct-strong_all cue.no_expressions = none-within []
  direct-strong_all (cue.expression e es) = joined-within (direct e) (direct_all es) (strong e) (strong_all es) (direct-strong e) (direct-strong_all es)

mutual
  pub inside-strong : (e : Expression) → Within (inside e) (strong e)
  inside-strong (cue.reference n) = λ m c. c
  inside-strong (cue.conjunction es) = inside-strong_all es
  inside-strong (cue.disjunction es) = none-within _
  inside-strong (cue.atom a) = λ m c. c
  inside-strong (cue.kind k) = λ m c. c
  inside-strong (cue.range a b) = λ m c. c
  inside-strong (cue.struct ds o) = λ m c. c
  inside-strong (cue.list es r) = λ m c. c

  inside-strong_all : (es : Expressions) → Within (inside_all es) (strong_all es)
  inside-strong_all cue.no_expressions = none-within []
  inside-strong_all (cue.expression e es) = joined-within (inside e) (inside_all es) (strong e) (strong_all es) (inside-strong e) (inside-strong_all es)

mutual
  strong-either : (e : Expression) (m : List ℕ) → Contains (strong e) m → Contains (direct e) m ⊎ Contains (inside e) m
  strong-either (cue.reference n) m c = inl c
  strong-either (cue.conjunction es) m c = strong-either_all es m c
  strong-either (cue.disjunction es) m c = inl c
  strong-either (cue.struct ds o) m c = inr c
  strong-either (cue.list es r) m c = inr c
  strong-either (cue.atom a) m c = inl c
  strong-either (cue.kind k) m c = inl c
  strong-either (cue.range a b) m c = inl c

  strong-either_all : (es : Expressions) (m : List ℕ) → Contains (strong_all es) m → Contains (direct_all es) m ⊎ Contains (inside_all es) m
  strong-either_all cue.no_expressions m c = inl c
  strong-either_all (cue.expression e es) m c =
      elim (Contains-append_cases (strong e) (strong_all es) m c) [
        | inl h ↦ elim (strong-either e m h) [
          | inl d ↦ inl (Contains-append_left (direct e) (direct_all es) m d)
          | inr i ↦ inr (Contains-append_left (inside e) (inside_all es) m i)
        ]
        | inr h ↦ elim (strong-either_all es m h) [
          | inl d ↦ inl (Contains-append_right (direct e) (direct_all es) m d)
          | inr i ↦ inr (Contains-append_right (inside e) (inside_all es) m i)
        ]
      ]

-- a law for readers of `strong`, which no proof cites: strong references are the direct ones and those inside
pub strong-is-either : (e : Expression) (m : List ℕ) → Contains (strong e) m ↔ (Contains (direct e) m ⊎ Contains (inside e) m)
strong-is-either e m = (strong-either e m, λ either. elim either [ inl d ↦ direct-strong e m d | inr i ↦ inside-strong e m i ])

-- ---- with and without `|` at once

mutual
  direct-mixed : (e : Expression) → Within (direct e) (mixed e)
  direct-mixed (cue.reference n) = λ m c. c
  direct-mixed (cue.conjunction es) = direct-mixed_all es
  direct-mixed (cue.disjunction es) = direct-mixed_all es
  direct-mixed (cue.atom a) = λ m c. c
  direct-mixed (cue.kind k) = λ m c. c
  direct-mixed (cue.range a b) = λ m c. c
  direct-mixed (cue.struct ds o) = none-within _
  direct-mixed (cue.list es r) = none-within _

  direct-mixed_all : (es : Expressions) → Within (direct_all es) (mixed_all es)
  direct-mixed_all cue.no_expressions = none-within []
  direct-mixed_all (cue.expression e es) = joined-within (direct e) (direct_all es) (mixed e) (mixed_all es) (direct-mixed e) (direct-mixed_all es)

mutual
  inside-mixed : (e : Expression) → Within (inside e) (mixed e)
  inside-mixed (cue.reference n) = λ m c. c
  inside-mixed (cue.conjunction es) = inside-mixed_all es
  inside-mixed (cue.disjunction es) = none-within _
  inside-mixed (cue.struct ds o) = inside-mixed_fields ds
  inside-mixed (cue.list es r) = inside-mixed_all es
  inside-mixed (cue.atom a) = λ m c. c
  inside-mixed (cue.kind k) = λ m c. c
  inside-mixed (cue.range a b) = λ m c. c

  inside-mixed_all : (es : Expressions) → Within (inside_all es) (mixed_all es)
  inside-mixed_all cue.no_expressions = none-within []
  inside-mixed_all (cue.expression e es) = joined-within (inside e) (inside_all es) (mixed e) (mixed_all es) (inside-mixed e) (inside-mixed_all es)

  inside-mixed_fields : (ds : Declarations) → Within (inside_fields ds) (mixed_fields ds)
  inside-mixed_fields cue.no_declarations = none-within []
  inside-mixed_fields (cue.declaration l mark e ds) =
      joined-within (unless_optional mark (inside e)) (inside_fields ds) (unless_optional mark (mixed e)) (mixed_fields ds) (field-within mark (inside e) (mixed e) (inside-mixed e)) (inside-mixed_fields ds)

pub strong-mixed : (e : Expression) → Within (strong e) (mixed e)
strong-mixed e m c = elim (strong-either e m c) [ inl d ↦ direct-mixed e m d | inr i ↦ inside-mixed e m i ]

bodies-mixed : (bs : List Expression) → Within (flat_map strong bs) (flat_map mixed bs)
bodies-mixed [] = none-within []
bodies-mixed (b ∷ bs) = joined-within (strong b) (flat_map strong bs) (mixed b) (flat_map mixed bs) (strong-mixed b) (bodies-mixed bs)

pub strongly-mixedly : (E : Environment) (n m : List ℕ) → RefersStrongly E n m → RefersMixedly E n m
strongly-mixedly E n = bodies-mixed (unwrap_or (bodies E n) [])

-- ---- what is guarded by more references is guarded by fewer

module _ {X : Type 0} (R S : X → X → Type 0) (more : (x y : X) → R x y → S x y) where
  chain-more : (x : X) (ys : List X) → Chain R x ys → Chain S x ys
  chain-more x [] c = tt
  chain-more x (y ∷ ys) c = (more x y c.0, chain-more y ys c.1)

  pub fewer-guarded : limits.IsGuarded S → limits.IsGuarded R
  fewer-guarded g = record {
    no_cycle = λ x xs c. g.no_cycle x xs (chain-more x (xs ++ x ∷ []) c);
    short = λ x xs c. g.short x xs (chain-more x xs c);
  }

-- an environment without a cycle and a long chain of references with and without `|` at once is guarded
pub mixedly-guarded : (E : Environment) → IsGuardedEarlier E → IsGuarded E
mixedly-guarded E = fewer-guarded (RefersStrongly E) (RefersMixedly E) (strongly-mixedly E)
