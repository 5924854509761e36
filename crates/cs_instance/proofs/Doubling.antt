-- Definitions of which each refers twice to the next, forty times over: what they mean comes by the law of one
-- meaning and not by computing, which would take two to the fortieth steps.
use Rattle.std.proofs.Common.{◌≡◌, ℕ, zero, suc, ◌<◌, ◌≤◌, Bool, true, false, cond, ◌&&◌, List, [], ◌∷◌, ◌++◌, length, Contains, Some, None, pos, codes, leb, get_or, inl, inr, refl, sym, ap, ◌∙◌, subst, arith}
use Rattle.std.specs.List.{flat_map}
use Rattle.std.specs.Option.{unwrap_or}
use Rattle.std.specs.Str.{bytes_eq}
use Rattle.std.proofs.lemmas.Bool.Decides.{nat_tests}
use Rattle.std.proofs.lemmas.List.Elements.{Contains-append_cases}
use Rattle.std.proofs.lemmas.Slice.Eq.{bytes_eq-Decides}
use Rattle.cs_document.specs.Document.{Document, integer}
use Rattle.cs_document.specs.Opened.{opened}
use Rattle.cs_package.specs.Expression as cue
use Rattle.cs_package.specs.Expression.{Expression}
use Rattle.cs_package.specs.Environment.{Environment, bodies}
use Rattle.cs_guard.specs.References.{strong, strong_of}
use Rattle.cs_guard.specs.Guarded.{Chain, IsGuarded}
use Rattle.cs_instance.specs.Constraint.{is_satisfied}
use Rattle.cs_instance.specs.Instance.{Rule, definition, node, all_bodies, IsInstance, OneMeaning}
use Rattle.cs_instance.proofs.Meaning.{one_meaning}

-- a name of k letters behind the first
abbrev name : ℕ → List ℕ
name zero = codes "A"
name (suc k) = 65 ∷ name k

abbrev int : Expression
int = cue.kind cue.int

-- #N & #N
abbrev twice : List ℕ → Expression
twice n = cue.conjunction (cue.expression (cue.reference n) (cue.expression (cue.reference n) cue.no_expressions))

abbrev body : ℕ → Expression
body zero = int
body (suc k) = twice (name k)

abbrev tower : ℕ → Environment
tower zero = (name zero, body zero ∷ []) ∷ []
tower (suc k) = (name (suc k), body (suc k) ∷ []) ∷ tower k

length-name : (k : ℕ) → length (name k) ≡ suc k
length-name zero = refl
length-name (suc k) = ap suc (length-name k)

name-other : (j k : ℕ) → j < k → bytes_eq (name j) (name k) ≡ false
name-other j k l = by (bytes_eq (name j) (name k)) refl
  where
    by : (b : Bool) → bytes_eq (name j) (name k) ≡ b → b ≡ false
    by false e = refl
    by true e = let same = ap length ((bytes_eq-Decides (name j) (name k)).0 e) in absurd (omega (arith, same, length-name j, length-name k))

look-up : (k j : ℕ) → j ≤ k → bodies (tower k) (name j) ≡ Some (body j ∷ [])
look-up zero zero l = refl
look-up zero (suc j) l = absurd (omega arith)
look-up (suc k) j l = by (leb j k) refl (look-up k j)
  where
    top : j ≡ suc k → bodies (tower (suc k)) (name j) ≡ Some (body j ∷ [])
    top e =
        subst (λ i. bodies (tower (suc k)) (name i) ≡ Some (body i ∷ [])) (sym e)
        (ap (λ b. cond b (Some (body (suc k) ∷ [])) (bodies (tower k) (name (suc k)))) ((bytes_eq-Decides (name (suc k)) (name (suc k))).1 refl))

    by : (b : Bool) → leb j k ≡ b → (j ≤ k → bodies (tower k) (name j) ≡ Some (body j ∷ [])) → bodies (tower (suc k)) (name j) ≡ Some (body j ∷ [])
    by true e below =
        let le : j ≤ k = grind (arith, nat_tests) in
        ap (λ b. cond b (Some (body (suc k) ∷ [])) (bodies (tower k) (name j))) (name-other j (suc k) (omega (arith, le))) ∙ below le
    by false e below = let same : j ≡ suc k = grind (arith, nat_tests) in top same

and-true : (b : Bool) → (b && true) ≡ b
and-true true = refl
and-true false = refl

both-same : (b : Bool) → (b && (b && true)) ≡ b
both-same true = refl
both-same false = refl

module _ (k : ℕ) (I : Rule → Document → Bool) (h : IsInstance (tower k) I) (x : Document) where
  by_body : (j : ℕ) → j ≤ k → I (definition (name j)) x ≡ I (node (body j)) x
  by_body j l =
      h (definition (name j)) x ∙ ap (λ o. is_satisfied (λ r. I r x) (λ y e. I (node e) y) (all_bodies o) (opened x)) (look-up k j l) ∙ and-true (I (node (body j)) x)

  is_int : (j : ℕ) → j ≤ k → I (definition (name j)) x ≡ I (node int) x
  is_int zero l = by_body zero l
  is_int (suc j) l =
      let next : I (node (cue.reference (name j))) x ≡ I (node int) x = h (node (cue.reference (name j))) x ∙ and-true (I (definition (name j)) x) ∙ is_int j (omega arith) in
      by_body (suc j) l ∙ h (node (twice (name j))) x ∙ both-same (I (node (cue.reference (name j))) x) ∙ next

doubled : (I : Rule → Document → Bool) → IsInstance (tower 40) I → I (definition (name 40)) (integer (pos 7)) ≡ true
doubled I h = is_int 40 I h (integer (pos 7)) 40 (omega arith) ∙ h (node int) (integer (pos 7))

-- ---- the recursion is guarded

one_of_two : (n m : List ℕ) → Contains (n ∷ n ∷ []) m → m ≡ n
one_of_two n m c = elim (Contains-append_cases (n ∷ []) (n ∷ []) m c) [ inl h ↦ alone h | inr h ↦ alone h ]
  where
    alone : Contains (n ∷ []) m → m ≡ n
    alone h = let l : h.0 < 1 = h.1 in let first : h.0 ≡ 0 = omega (arith, l) in sym h.2 ∙ ap (λ i. get_or (n ∷ []) i m) first

refers : (k : ℕ) (n m : List ℕ) → Contains (strong_of (tower k) n) m → (length m < length n) × (length n ≤ suc k)
refers zero n m c =
    absurd ((elim (bytes_eq n (name zero)) as (λ b. Contains (flat_map strong (unwrap_or (cond b (Some (int ∷ [])) None) [])) m → ⊥) [ true ↦ (λ d. let l : d.0 < 0 = d.1 in omega (arith, l)) | false ↦ (λ d. let l : d.0 < 0 = d.1 in omega (arith, l)) ]) c)
refers (suc k) n m c = by (bytes_eq n (name (suc k))) refl c (refers k n m)
  where
    by : (b : Bool) → bytes_eq n (name (suc k)) ≡ b → Contains (flat_map strong (unwrap_or (cond b (Some (twice (name k) ∷ [])) (bodies (tower k) n)) [])) m
        → (Contains (strong_of (tower k) n) m → (length m < length n) × (length n ≤ suc k))
        → (length m < length n) × (length n ≤ suc (suc k))
    by true e d below =
        let at = ap length ((bytes_eq-Decides n (name (suc k))).0 e) in
        let same = ap length (one_of_two (name k) m d) in
        (omega (arith, at, same, length-name (suc k), length-name k), omega (arith, at, length-name (suc k)))
    by false e d below = let r = below d in (r.0, omega (arith, r.1))

-- names grow shorter along a chain
falls : (k : ℕ) (n m : List ℕ) (ns : List (List ℕ)) → Chain (tower k) n (ns ++ m ∷ []) → length m < length n
falls k n m [] c = (refers k n m c.0).0
falls k n m (o ∷ ns) c = let first = (refers k n o c.0).0 in let rest = falls k o m ns c.1 in omega (arith, first, rest)

length-chain : (k : ℕ) (n : List ℕ) (ns : List (List ℕ)) → Chain (tower k) n ns → length ns ≤ length n
length-chain k n [] c = omega arith
length-chain k n (m ∷ ns) c = let first = (refers k n m c.0).0 in let rest = length-chain k m ns c.1 in omega (arith, first, rest)

tower-guarded : (k : ℕ) → k ≤ 63 → IsGuarded (tower k)
tower-guarded k l = record { no_cycle = λ n ns c. let h = falls k n n ns c in omega (arith, h); short = short }
  where
    short : (n : List ℕ) (ns : List (List ℕ)) → Chain (tower k) n ns → length ns ≤ 64
    short n [] c = omega arith
    short n (m ∷ ns) c = let low = (refers k n m c.0).1 in let long = length-chain k n (m ∷ ns) c in omega (arith, low, long, l)

doubled-meaning : OneMeaning (tower 40)
doubled-meaning = one_meaning (tower 40) (tower-guarded 40 (omega arith))
