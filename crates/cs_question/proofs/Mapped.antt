-- Maps: what is under their keys, and under other keys.
use Rattle.std.proofs.Common.{◌≡◌, ℕ, zero, suc, ◌<◌, ◌≤◌, ◌⊎◌, inl, inr, Bool, true, false, true≢false, not, ◌||◌, List, [], ◌∷◌, Option, Some, None, Bor, Contains, map, length, get_or, cond, refl, sym, ap, ◌∙◌, subst, arith}
use Rattle.std.specs.Prelude.{slice_get, IfSome}
use Rattle.std.specs.List.{list_all, list_any, filter, AllByRecursion as Each}
use Rattle.std.specs.Str.{bytes_eq}
use Rattle.std.proofs.lemmas.Bool.{and_parts, or_cases, cases_Bool}
use Rattle.std.proofs.lemmas.Option.{same_Some}
use Rattle.std.proofs.lemmas.Slice.Eq.{bytes_eq-Decides}
use Rattle.cs_document.specs.Document.{Document, Members, no_members, member, object, Entry, entries, under, depth, members_depth, KeysAbove, IsDocument, AreMembers}
use Rattle.cs_question.specs.Spread.{SomeOf, is_among, others}
use Rattle.cs_question.specs.Truth.{IsInner}
use Rattle.cs_instance.proofs.Members.{under_at, ascends}
use Rattle.cs_question.proofs.Some.{some_true, some_map}

-- ---- what is under a key

pub inner_under : (n : ℕ) (k : List ℕ) (ms : Members) (y : Document) → AreMembers ms → depth (object ms) ≤ n → under k (entries ms) ≡ Some y → IsInner n y
inner_under n k no_members y h l e = cc
inner_under n k (member j d ms) y h l e = elim (cases_Bool (bytes_eq k j)) [
  | inl b ↦ subst (IsInner n) (same_Some d y (subst (λ t. cond t (Some d) (under k (entries ms)) ≡ Some y) b e)) (h.1, omega (arith, l))
  | inr b ↦ inner_under n k ms y h.2 (omega (arith, l)) (subst (λ t. cond t (Some d) (under k (entries ms)) ≡ Some y) b e)
]

inner_at : (n : ℕ) (ms : Members) (m : Entry Document) → AreMembers ms → depth (object ms) ≤ n → (c : Contains (entries ms) m) → IsInner n m.1
inner_at n no_members m h l c = absurd (let k : c.0 < 0 = c.1 in omega (arith, k))
inner_at n (member j d ms) m h l (zero, k, is) = subst (λ (e : Entry Document). IsInner n e.1) is (h.1, omega (arith, l))
inner_at n (member j d ms) m h l (suc i, k, is) = inner_at n ms m h.2 (omega (arith, l)) (i, omega (arith, k), is)

pub inner_entry : (n : ℕ) (ms : Members) (m : Entry Document) → AreMembers ms → depth (object ms) ≤ n → Contains (entries ms) m → IsInner n m.1
inner_entry n ms m h l c = inner_at n ms m h l c

-- ---- entries whose keys are among some, and the others

-- a fact of each of the others
pub each_other : (ls : List (Bor (List ℕ))) (ms : List (Entry Document)) (P : Document → Type 0) → ((m : Entry Document) → Contains ms m → is_among ls m.0 ≡ false → P m.1) → Each P (others ls ms)
each_other ls [] P f = tt
each_other ls (m ∷ ms) P f =
    let rest = each_other ls ms P (λ e c. let l : c.0 < length ms = c.1 in f e (suc c.0, omega (arith, l), c.2)) in
    elim (cases_Bool (is_among ls m.0)) [
      | inl b ↦ subst (λ t. Each P (map (λ (e : Entry Document). e.1) (cond (not t) (m ∷ filter (λ (e : Entry Document). not (is_among ls e.0)) ms) (filter (λ (e : Entry Document). not (is_among ls e.0)) ms)))) (sym b) rest
      | inr b ↦ subst (λ t. Each P (map (λ (e : Entry Document). e.1) (cond (not t) (m ∷ filter (λ (e : Entry Document). not (is_among ls e.0)) ms) (filter (λ (e : Entry Document). not (is_among ls e.0)) ms)))) (sym b) (f m (0, omega arith, refl) b, rest)
    ]

-- an entry at a place whose key isn't among them is one of the others
pub other_at : (ls : List (Bor (List ℕ))) (ms : List (Entry Document)) (i : ℕ) (m : Entry Document) (Q : Document → Type 0) → slice_get ms i ≡ Some m → is_among ls m.0 ≡ false → Q m.1 → SomeOf Q (others ls ms)
other_at ls [] i m Q e b h = cc
other_at ls (n ∷ ms) zero m Q e b h =
    let same = same_Some n m e in
    subst (λ t. SomeOf Q (map (λ (e : Entry Document). e.1) (cond (not t) (n ∷ filter (λ (e : Entry Document). not (is_among ls e.0)) ms) (filter (λ (e : Entry Document). not (is_among ls e.0)) ms)))) (sym (ap (λ (k : Entry Document). is_among ls k.0) same ∙ b)) (inl (subst (λ (k : Entry Document). Q k.1) (sym same) h))
other_at ls (n ∷ ms) (suc i) m Q e b h =
    let rest : SomeOf Q (others ls ms) = other_at ls ms i m Q e b h in
    elim (is_among ls n.0) as (λ t. SomeOf Q (map (λ (e : Entry Document). e.1) (cond (not t) (n ∷ filter (λ (e : Entry Document). not (is_among ls e.0)) ms) (filter (λ (e : Entry Document). not (is_among ls e.0)) ms)))) [
      | true ↦ rest
      | false ↦ inr rest
    ]

pub some_placed : {X : Type 0} (P : X → Type 0) (xs : List X) → SomeOf P xs → (i : ℕ) × (x : X) × (slice_get xs i ≡ Some x) × P x
some_placed P [] h = absurd h
some_placed P (x ∷ xs) (inl h) = (0, x, refl, h)
some_placed P (x ∷ xs) (inr h) = let r = some_placed P xs h in (suc r.0, r.1, r.2, r.3)

-- what holds of some entry holds of what is under a key, or of one of the others
pub key_or_other : (ls : List (Bor (List ℕ))) (ms : Members) (P : Entry Document → Type 0) → AreMembers ms → SomeOf P (entries ms)
    → SomeOf (λ l. (y : Document) × (under l.now (entries ms) ≡ Some y) × P (l.now, y)) ls ⊎ SomeOf (λ y. (k : List ℕ) × P (k, y)) (others ls (entries ms))
key_or_other ls ms P are h = by (some_placed P (entries ms) h)
  where
    by : ((i : ℕ) × (m : Entry Document) × (slice_get (entries ms) i ≡ Some m) × P m) → SomeOf (λ l. (y : Document) × (under l.now (entries ms) ≡ Some y) × P (l.now, y)) ls ⊎ SomeOf (λ y. (k : List ℕ) × P (k, y)) (others ls (entries ms))
    by (i, (k, y), e, p) = elim (cases_Bool (is_among ls k)) [
      | inl b ↦ inl (some_map (λ l. bytes_eq k l.now ≡ true) (λ l. (z : Document) × (under l.now (entries ms) ≡ Some z) × P (l.now, z))
          (λ l f. let same : k ≡ l.now = (bytes_eq-Decides k l.now).0 f in (y, ap (λ j. under j (entries ms)) (sym same) ∙ under_at (entries ms) i k y (ascends (object ms) are) e, subst (λ j. P (j, y)) same p))
          ls (some_true (λ (l : Bor (List ℕ)). bytes_eq k l.now) ls b))
      | inr b ↦ inr (other_at ls (entries ms) i (k, y) (λ z. (j : List ℕ) × P (j, z)) e b (k, p))
    ]

pub if_under : (n : ℕ) (k : List ℕ) (ms : Members) → AreMembers ms → depth (object ms) ≤ n → IfSome (under k (entries ms)) (IsInner n)
if_under n k ms h l = by (under k (entries ms)) refl
  where
    by : (o : Option Document) → under k (entries ms) ≡ o → IfSome o (IsInner n)
    by None e = tt
    by (Some y) e = inner_under n k ms y h l e

-- a key that is a label that is among them
pub among_label : (ls : List (Bor (List ℕ))) (k l : List ℕ) → bytes_eq k l ≡ true → is_among ls l ≡ true → is_among ls k ≡ true
among_label ls k l e h = subst (λ j. is_among ls j ≡ true) (sym ((bytes_eq-Decides k l).0 e)) h
