-- Rules of one side that are asked in another way.
use Rattle.std.proofs.Common.{◌≡◌, ℕ, zero, suc, ◌+◌, ◌<◌, ◌≤◌, Bool, true, ◌⊎◌, inl, inr, List, [], ◌∷◌, ◌++◌, Some, map, length, get_or, set, below_more, refl, sym, ap, ◌∙◌, arith}
use Rattle.std.specs.Prelude.{slice_get, slice_index}
use Rattle.std.proofs.lemmas.Option.{same_Some}
use Rattle.std.proofs.lemmas.List.{get_or_past}
use Rattle.std.proofs.Math.Path.{fun_ext}
use Rattle.cs_document.specs.Document.{Document}
use Rattle.cs_document.specs.Opened.{Opened, opened}
use Rattle.cs_instance.specs.Constraint.{Constraint, simple, is_satisfied}
use Rattle.cs_instance.specs.Steps.{numbered, asked_of as rule_asks}
use Rattle.cs_instance.specs.declared.rules.Rule.{Rule as Coded}
use Rattle.cs_instance.proofs.Satisfied.{named}
use Rattle.cs_question.specs.declared.nodes.Literal.{Literal}
use Rattle.cs_question.specs.declared.nodes.Node.{Node}
use Rattle.cs_question.specs.declared.nodes.Nodes.{Nodes}
use Rattle.cs_question.specs.Asked.{meets}
use Rattle.cs_question.specs.Nodes.{Judgement, IsMeaning, IsSide, Says, AreAlike, asked_of, nodes_on}
use Rattle.cs_question.proofs.Some.{beq_is}

pub got_mapped : {X Y : Type 0} (f : X → Y) (xs : List X) (i : ℕ) (x : X) → slice_get xs i ≡ Some x → slice_get (map f xs) i ≡ Some (f x)
got_mapped f [] i x e = cc
got_mapped f (y ∷ xs) zero x e = ap (λ z. Some (f z)) (same_Some y x e)
got_mapped f (y ∷ xs) (suc i) x e = got_mapped f xs i x e

pub got_unmapped : {X Y : Type 0} (f : X → Y) (xs : List X) (i : ℕ) (y : Y) → slice_get (map f xs) i ≡ Some y → (x : X) × (slice_get xs i ≡ Some x) × (f x ≡ y)
got_unmapped f [] i y e = cc
got_unmapped f (x ∷ xs) zero y e = (x, refl, same_Some (f x) y e)
got_unmapped f (x ∷ xs) (suc i) y e = got_unmapped f xs i y e

-- what is put at a place, or what was there before
pub got_set : {X Y : Type 0} (f : X → Y) (xs : List X) (i : ℕ) (n : X) (r : ℕ) (y : Y) → slice_get (map f (set xs i n)) r ≡ Some y → ((r ≡ i) × (f n ≡ y)) ⊎ (slice_get (map f xs) r ≡ Some y)
got_set f [] i n r y e = inr e
got_set f (x ∷ xs) zero n zero y e = inl (refl, same_Some (f n) y e)
got_set f (x ∷ xs) zero n (suc r) y e = inr e
got_set f (x ∷ xs) (suc i) n zero y e = inr e
got_set f (x ∷ xs) (suc i) n (suc r) y e = elim (got_set f xs i n r y e) [ inl h ↦ inl (ap suc h.0, h.1) | inr h ↦ inr h ]

-- another rule at a place, which is met by the same documents
pub said_set : (nodes : List Node) (i : ℕ) (n : Node)
    → ((J : ℕ → Document → Bool) → IsSide (map asked_of nodes) J → (x : Document) → J i x ≡ is_satisfied (λ p. J p x) (λ y p. J p y) (asked_of n) (opened x))
    → Says (map asked_of nodes) (map asked_of (set nodes i n))
said_set nodes i n same J side r c x at = elim (got_set asked_of nodes i n r c at) [
  | inl h ↦ ap (λ k. J k x) h.0 ∙ same J side x ∙ ap (λ d. is_satisfied (λ p. J p x) (λ y p. J p y) d (opened x)) h.1
  | inr h ↦ side r c x h
]

-- parts that are asked by other numbers, of rules that are met by the same documents
pub renumbered : (rules : List Coded) (inner others : List ℕ) (J : ℕ → Document → Bool) → ((i : ℕ) (x : Document) → J (slice_index others i) x ≡ J (slice_index inner i) x) → IsSide (map (numbered inner) rules) J → IsSide (map (numbered others) rules) J
renumbered rules inner others J same side k c x at =
    let found = got_unmapped (numbered others) rules k c at in
    let asks = rule_asks found.0 in
    let inside : (λ (y : Document) (q : ℕ). J (slice_index inner q) y) ≡ (λ y q. J (slice_index others q) y) = fun_ext (λ y. fun_ext (λ q. sym (same q y))) in
    side k (numbered inner found.0) x (got_mapped (numbered inner) rules k found.0 found.1)
    ∙ named (λ q. q) (slice_index inner) (λ p. J p x) (λ y p. J p y) asks (opened x)
    ∙ ap (λ f. is_satisfied (λ p. J p x) f asks (opened x)) inside
    ∙ sym (named (λ q. q) (slice_index others) (λ p. J p x) (λ y p. J p y) asks (opened x))
    ∙ ap (λ d. is_satisfied (λ p. J p x) (λ y p. J p y) d (opened x)) found.2

-- ---- rules that ask the same

pub alike : {A : Type 0} (here : ℕ → Bool) (inside : A → ℕ → Bool) (there : ℕ → Bool) (within : A → ℕ → Bool) (c d : Constraint ℕ ℕ) (x : Opened A) → AreAlike c d → is_satisfied here inside c x ≡ is_satisfied there within d x
alike here inside there within (simple p) (simple q) x h = h _
alike here inside there within _ _ x h = absurd h

pub same_rules : (nodes : List Node) (i k : ℕ) (n m : Node) → slice_get nodes i ≡ Some n → slice_get nodes k ≡ Some m → AreAlike (asked_of n) (asked_of m) → (J : ℕ → Document → Bool) → IsSide (map asked_of nodes) J → (x : Document) → J i x ≡ J k x
same_rules nodes i k n m at there h J side x =
    side i (asked_of n) x (got_mapped asked_of nodes i n at)
    ∙ alike (λ p. J p x) (λ y p. J p y) (λ p. J p x) (λ y p. J p y) (asked_of n) (asked_of m) (opened x) h
    ∙ sym (side k (asked_of m) x (got_mapped asked_of nodes k m there))

pub same_parts : (nodes : List Node) (i k : ℕ) (n m : Node) → slice_get nodes i ≡ Some n → slice_get nodes k ≡ Some m → asked_of n ≡ asked_of m → (J : ℕ → Document → Bool) → IsSide (map asked_of nodes) J → (x : Document) → J i x ≡ J k x
same_parts nodes i k n m at there same J side x =
    side i (asked_of n) x (got_mapped asked_of nodes i n at)
    ∙ ap (λ c. is_satisfied (λ p. J p x) (λ y p. J p y) c (opened x)) same
    ∙ sym (side k (asked_of m) x (got_mapped asked_of nodes k m there))

-- nothing is as one rule asks and not as another one that asks the same
pub opposite : (ns : Nodes) (J : Judgement) → IsMeaning ns J → (x : Document) (l k : Literal) (n m : Node) → slice_get (nodes_on ns l.side) l.rule ≡ Some n → slice_get (nodes_on ns k.side) k.rule ≡ Some m → AreAlike (asked_of n) (asked_of m) → (k.holds ≡ l.holds → ⊥) → meets J x l ≡ true → meets J x k ≡ true → ⊥
opposite ns J means x l k n m at there h differ met other =
    differ (sym (beq_is (J k.side k.rule x) k.holds other)
    ∙ means k.side k.rule m x there
    ∙ sym (alike (λ p. J l.side p x) (λ y p. J l.side p y) (λ p. J k.side p x) (λ y p. J k.side p y) (asked_of n) (asked_of m) (opened x) h)
    ∙ sym (means l.side l.rule n x at)
    ∙ beq_is (J l.side l.rule x) l.holds met)

-- ---- numbers, one after another, of rules that are met by the same documents

got_before : (xs : List ℕ) (r i : ℕ) → i < length xs → get_or (xs ++ r ∷ []) i 0 ≡ get_or xs i 0
got_before [] r i l = absurd (omega (arith, l))
got_before (x ∷ xs) r zero l = refl
got_before (x ∷ xs) r (suc i) l = got_before xs r i (omega (arith, l))

got_end : (xs : List ℕ) (r : ℕ) → get_or (xs ++ r ∷ []) (length xs) 0 ≡ r
got_end [] r = refl
got_end (x ∷ xs) r = got_end xs r

less_or : (i k : ℕ) → (i < k) ⊎ (k ≤ i)
less_or i zero = inr (omega arith)
less_or zero (suc k) = inl (omega arith)
less_or (suc i) (suc k) = elim (less_or i k) [ inl l ↦ inl (omega (arith, l)) | inr l ↦ inr (omega (arith, l)) ]

pub shared_more : (J : ℕ → Document → Bool) (all inner : List ℕ) (k r : ℕ) (x : Document) → length all ≡ k → ((i : ℕ) → i < k → J (get_or all i 0) x ≡ J (get_or inner i 0) x) → J r x ≡ J (get_or inner k 0) x
    → (i : ℕ) → i < k + 1 → J (get_or (all ++ r ∷ []) i 0) x ≡ J (get_or inner i 0) x
shared_more J all inner k r x long before here =
    below_more (λ i. J (get_or (all ++ r ∷ []) i 0) x ≡ J (get_or inner i 0) x) k
    (λ i l. ap (λ n. J n x) (got_before all r i (omega (arith, l, long))) ∙ before i l)
    (ap (λ n. J n x) (ap (λ j. get_or (all ++ r ∷ []) j 0) (sym long) ∙ got_end all r) ∙ here)

pub shared_all : (J : ℕ → Document → Bool) (all inner : List ℕ) (k : ℕ) (x : Document) → length all ≡ k → length inner ≤ k → ((i : ℕ) → i < k → J (get_or all i 0) x ≡ J (get_or inner i 0) x) → (i : ℕ) → J (get_or all i 0) x ≡ J (get_or inner i 0) x
shared_all J all inner k x long short before i = elim (less_or i k) [
  | inl l ↦ before i l
  | inr l ↦ ap (λ n. J n x) (get_or_past all i 0 (omega (arith, l, long)) ∙ sym (get_or_past inner i 0 (omega (arith, l, short))))
]
