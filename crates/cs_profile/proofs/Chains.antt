-- Where no definition reaches itself directly, each chain of direct references comes to an end: a name that it
-- goes through is not gone through again, and there are only so many.
use Rattle.std.proofs.Common.{◌≡◌, ℕ, zero, suc, ◌≤◌, Bool, true, false, ◌||◌, List, [], ◌∷◌, ◌++◌, length, Some, codes, refl, sym, ap, subst, ◌∙◌, ◌⊎◌, inl, inr, arith, if◌then◌else◌}
use Rattle.std.specs.Option.{option_map_or}
use Rattle.std.specs.Str.{bytes_eq}
use Rattle.std.specs.List.{list_any, AllByRecursion as Each}
use Rattle.std.proofs.lemmas.Slice.Eq.{bytes_eq-Decides}
use Rattle.cs_graph.specs.Chains.{Chain}
use Rattle.cs_graph.proofs.Paths.{chain_push, none_closed}
use Rattle.cs_document.specs.Document.{Document, Entry, under}
use Rattle.cs_profile.specs.Keywords.{defined, listed_under, entries_of}
use Rattle.cs_profile.specs.Loops.{direct_names, RefersDirectly, NoLoop}
use Rattle.cs_profile.specs.Refusal.{IsLoop}

-- where no definition reaches itself, no names are a loop
pub none_loop : (R : Document) → NoLoop R → (ns : List (List ℕ)) → IsLoop R ns → ⊥
none_loop R none ns l = none_closed (RefersDirectly R) none ns l

-- each chain of direct references that begins at n goes through fewer than k definitions
abbrev pub Short : Document → ℕ → List ℕ → Type 0
Short R zero n = ⊥
Short R (suc k) n = (s : Document) → defined R n ≡ Some s → Each (Short R k) (direct_names s)

abbrev is_in : List ℕ → List (List ℕ) → Bool
is_in n ns = list_any (bytes_eq n) ns

-- the names without the first that is n
abbrev without : List ℕ → List (List ℕ) → List (List ℕ)
without n [] = []
without n (m ∷ ms) = if bytes_eq n m then ms else m ∷ without n ms

length-without : (n : List ℕ) (ns : List (List ℕ)) → is_in n ns ≡ true → suc (length (without n ns)) ≡ length ns
length-without n [] h = cc
length-without n (m ∷ ms) h =
    elim (bytes_eq n m) as (λ b. (b || is_in n ms) ≡ true → suc (length (if b then ms else m ∷ without n ms)) ≡ suc (length ms)) [
      | true ↦ λ h. refl
      | false ↦ λ h. ap suc (length-without n ms h)
    ] h

is_in-without : (n q : List ℕ) (ns : List (List ℕ)) → is_in q ns ≡ true → (is_in q (without n ns) ≡ true) ⊎ (q ≡ n)
is_in-without n q [] h = cc
is_in-without n q (m ∷ ms) h = at_first (is_in-without n q ms) (bytes_eq n m) (bytes_eq q m) refl refl h
  where
    at_first : (is_in q ms ≡ true → (is_in q (without n ms) ≡ true) ⊎ (q ≡ n)) → (b c : Bool) → bytes_eq n m ≡ b → bytes_eq q m ≡ c → (c || is_in q ms) ≡ true
        → (is_in q (if b then ms else m ∷ without n ms) ≡ true) ⊎ (q ≡ n)
    at_first more true true e f h = inr ((bytes_eq-Decides q m).0 f ∙ sym ((bytes_eq-Decides n m).0 e))
    at_first more true false e f h = inl h
    at_first more false true e f h = inl (ap (λ c. c || is_in q (without n ms)) f)
    at_first more false false e f h = elim (more h) [ inl w ↦ inl (ap (λ c. c || is_in q (without n ms)) f ∙ w) | inr w ↦ inr w ]

abbrev names_of : List (Entry Document) → List (List ℕ)
names_of [] = []
names_of (e ∷ es) = e.0 ∷ names_of es

named : (q : List ℕ) (es : List (Entry Document)) (s : Document) → under q es ≡ Some s → is_in q (names_of es) ≡ true
named q [] s e = cc
named q (f ∷ es) s e =
    elim (bytes_eq q f.0) as (λ b. (if b then Some f.1 else under q es) ≡ Some s → (b || is_in q (names_of es)) ≡ true) [
      | true ↦ λ e. refl
      | false ↦ λ e. named q es s e
    ] e

-- a fact of each name that a list holds
each_in : (P : List ℕ → Type 0) (ns : List (List ℕ)) → ((m : List ℕ) → is_in m ns ≡ true → P m) → Each P ns
each_in P [] f = tt
each_in P (n ∷ ns) f =
    (f n (ap (λ b. b || is_in n ns) ((bytes_eq-Decides n n).1 refl)), each_in P ns (λ m h. f m (later m h)))
  where
    later : (m : List ℕ) → is_in m ns ≡ true → (bytes_eq m n || is_in m ns) ≡ true
    later m h = elim (bytes_eq m n) as (λ b. (b || is_in m ns) ≡ true) [ true ↦ refl | false ↦ h ]

-- the names of the definitions
abbrev defined_names : Document → List (List ℕ)
defined_names R = names_of (listed_under (codes "$defs") (entries_of R))

-- a number that no chain of direct references reaches
abbrev pub most_steps : Document → ℕ
most_steps R = suc (suc (length (defined_names R)))

module _ (R : Document) (no_loop : NoLoop R) where
  -- q comes to n by direct references
  abbrev Leads : List ℕ → List ℕ → Type 0
  Leads q n = (ns : List (List ℕ)) × Chain (RefersDirectly R) q (ns ++ n ∷ [])

  -- each definition is still to be gone through, or is n or leads to it
  abbrev Left : List (List ℕ) → List ℕ → Type 0
  Left left n = (q : List ℕ) (s : Document) → defined R q ≡ Some s → (is_in q left ≡ true) ⊎ ((q ≡ n) ⊎ Leads q n)

  goes_on : (left : List (List ℕ)) (n m : List ℕ) → RefersDirectly R n m → Left left n → Left (without m left) m
  goes_on left n m r h q s e = elim (h q s e) [
    | inl w ↦ elim (is_in-without m q left w) [ inl v ↦ inl v | inr v ↦ inr (inl v) ]
    | inr w ↦ elim w [
      | inl v ↦ inr (inr ([], (subst (λ p. RefersDirectly R p m) (sym v) r, tt)))
      | inr v ↦ inr (inr (v.0 ++ n ∷ [], chain_push (RefersDirectly R) q n m v.0 v.1 r))
    ]
  ]

  -- a definition that n refers to is still to be gone through: else there were a loop
  is_left : (left : List (List ℕ)) (n m : List ℕ) (t : Document) → RefersDirectly R n m → Left left n → defined R m ≡ Some t → is_in m left ≡ true
  is_left left n m t r h f = elim (h m t f) [
    | inl w ↦ w
    | inr w ↦ absurd (elim w [
      | inl v ↦ no_loop n [] (subst (λ p. RefersDirectly R n p) v r, tt)
      | inr v ↦ no_loop m (v.0 ++ n ∷ []) (chain_push (RefersDirectly R) m n m v.0 v.1 r)
    ])
  ]

  refers : (n m : List ℕ) (s : Document) → defined R n ≡ Some s → is_in m (direct_names s) ≡ true → RefersDirectly R n m
  refers n m s e i = subst (λ o. is_in m (option_map_or direct_names o []) ≡ true) (sym e) i

  short : (k : ℕ) (left : List (List ℕ)) → length left ≤ k → (n : List ℕ) → Left left n → Short R (suc (suc k)) n
  short zero left l n h s e =
      each_in (Short R 1) (direct_names s) (λ m i t f. absurd (none_left m (is_left left n m t (refers n m s e i) h f)))
    where
      none_left : (m : List ℕ) → is_in m left ≡ true → ⊥
      none_left m w = let e = length-without m left w in omega arith
  short (suc k) left l n h s e =
      each_in (Short R (suc (suc k))) (direct_names s)
      (λ m i t f. short k (without m left) (fewer m (is_left left n m t (refers n m s e i) h f)) m (goes_on left n m (refers n m s e i) h) t f)
    where
      fewer : (m : List ℕ) → is_in m left ≡ true → length (without m left) ≤ k
      fewer m w = let e = length-without m left w in omega arith

  pub all_short : (n : List ℕ) → Short R (most_steps R) n
  all_short n = short (length (defined_names R)) (defined_names R) (omega arith) n (λ q s e. inl (named q _ s e))
