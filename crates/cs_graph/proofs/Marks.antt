-- Marks, before and after one is written.
use Rattle.std.proofs.Common.{◌≡◌, ℕ, zero, suc, ◌+◌, ◌<◌, ◌≤◌, Bool, cond, List, [], ◌∷◌, ◌++◌, ◌⊎◌, inl, inr, Some, length, slice_get, get_or, take, Vec, Global, refl, sym, ap, subst, ◌∙◌, arith, add-one}
use Rattle.std.proofs.Math.ListN.{set, length-set, length-map}
use Rattle.std.proofs.Math.Seq.{take-suc}
use Rattle.std.proofs.lemmas.List.Sums.{sum_by-set}
use Rattle.std.proofs.lemmas.Option.{slice_get-map, slice_get-get_or, slice_get_within, get_or_from_slice_get}
use Rattle.std.specs.List.{count_by}
use Rattle.std.specs.Option.{option_map}
use Rattle.cs_graph.specs.Chains.{On}
use Rattle.cs_graph.specs.Graph.{Graph, Refers, graph_of}
use Rattle.cs_graph.specs.Paths.{Links}
use Rattle.cs_graph.specs.Walk.{State, Marked, Settled, Below, HasChain, Keeps, is_done}
use Rattle.cs_graph.specs.declared.walk.VisitState.{VisitState}
use Rattle.cs_graph.specs.declared.walk.VisitState.TheVariants.{New, Open, Done}
use Rattle.cs_graph.proofs.Places.{on_left, on_end, on_cases, distinct_push, distinct_front, last_apart}
use Rattle.cs_graph.proofs.Paths.{links_front}

pub at_set : {X : Type 0} (xs : List X) (i : ℕ) (v : X) → i < length xs → slice_get (set xs i v) i ≡ Some v
at_set [] i v l = absurd (omega arith)
at_set (x ∷ xs) zero v l = refl
at_set (x ∷ xs) (suc i) v l = at_set xs i v (omega arith)

pub past_set : {X : Type 0} (xs : List X) (i j : ℕ) (v : X) → (i ≡ j → ⊥) → slice_get (set xs i v) j ≡ slice_get xs j
past_set [] i j v h = refl
past_set (x ∷ xs) zero zero v h = absurd (h refl)
past_set (x ∷ xs) zero (suc j) v h = refl
past_set (x ∷ xs) (suc i) zero v h = refl
past_set (x ∷ xs) (suc i) (suc j) v h = past_set xs i j v (λ e. h (ap suc e))

pub same_or : (i j : ℕ) → (i ≡ j) ⊎ (i ≡ j → ⊥)
same_or zero zero = inl refl
same_or zero (suc j) = inr (λ e. let f : ⊥ = omega (arith, e) in f)
same_or (suc i) zero = inr (λ e. let f : ⊥ = omega (arith, e) in f)
same_or (suc i) (suc j) = elim (same_or i j) [ inl e ↦ inl (ap suc e) | inr ne ↦ inr (λ e. ne (omega (arith, e))) ]

pub up_to : (m n : ℕ) → (m ≤ n) ⊎ (n < m)
up_to zero n = inl (omega arith)
up_to (suc m) zero = inr (omega arith)
up_to (suc m) (suc n) = elim (up_to m n) [ inl l ↦ inl (omega arith) | inr l ↦ inr (omega arith) ]

-- a count, after a mark is written over another
pub count_written : (p : VisitState → Bool) (M : List VisitState) (i : ℕ) (old v : VisitState) → slice_get M i ≡ Some old → count_by p (set M i v) + cond (p old) 1 0 ≡ count_by p M + cond (p v) 1 0
count_written p M i old v at =
    let weight : VisitState → ℕ = λ m. cond (p m) 1 0 in
    ap (λ n. count_by p (set M i v) + n) (ap weight (sym (get_or_from_slice_get M i old old at))) ∙ sum_by-set weight M i v old (slice_get_within M i old at)

apart : (M : List VisitState) (i j : ℕ) (a b : VisitState) → slice_get M i ≡ Some a → slice_get M j ≡ Some b → (a ≡ b → ⊥) → i ≡ j → ⊥
apart M i j a b x y ne e = ne (let f : Some a ≡ Some b = sym x ∙ ap (slice_get M) e ∙ y in cc)

pub new_open : New ≡ Open → ⊥
new_open e = cc

pub new_done : (h : ℕ) → New ≡ Done h → ⊥
new_done h e = cc

pub open_done : (h : ℕ) → Open ≡ Done h → ⊥
open_done h e = cc

-- below h, after a write at a place that wasn't done
pub below_set : (M : List VisitState) (i : ℕ) (a v : VisitState) → slice_get M i ≡ Some a → ((k : ℕ) → a ≡ Done k → ⊥) → (m h : ℕ) → Below M m h → Below (set M i v) m h
below_set M i a v at ne m h b = record { height = b.height; done = past_set M i m v (apart M i m a (Done b.height) at b.done (ne b.height)) ∙ b.done; less = b.less }

settled_set : (G : Graph) (M : List VisitState) (i : ℕ) (a v : VisitState) → slice_get M i ≡ Some a → ((k : ℕ) → a ≡ Done k → ⊥) → count_by is_done M ≤ count_by is_done (set M i v) → (j h : ℕ) → Settled G M j h → Settled G (set M i v) j h
settled_set G M i a v at ne le j h s = record { chain = s.chain; low = λ m r. below_set M i a v at ne m h (s.low m r); few = let f = s.few in omega arith }

-- a number is entered
pub opening : (G : Graph) (M : List VisitState) (P : List ℕ) (i : ℕ) → State G M P → slice_get M i ≡ Some New → Links (Refers G) (P ++ i ∷ []) → State G (set M i Open) (P ++ i ∷ [])
opening G M P i s at links =
    let l = slice_get_within M i New at in record {
      marked = record {
        long = length-set M i Open ∙ s.marked.long;
        settled = λ j h found.
            let ne : i ≡ j → ⊥ = λ e. let f : Some Open ≡ Some (Done h) = sym (at_set M i Open l) ∙ ap (slice_get (set M i Open)) e ∙ found in cc in
            settled_set G M i New Open at new_done (let c = count_written is_done M i New Open at in omega (arith, c)) j h (s.marked.settled j h (sym (past_set M i j Open ne) ∙ found));
      };
      entered = λ j found. elim (same_or i j) [ inl e ↦ (let Q : ℕ → Type 0 = λ y. On y (P ++ i ∷ []) in subst Q e (on_end i P)) | inr ne ↦ on_left j P (i ∷ []) (s.entered j (sym (past_set M i j Open ne) ∙ found)) ];
      opened = λ j o. elim (on_cases j i P o) [
        | inl a ↦ past_set M i j Open (apart M i j New Open at (s.opened j a) new_open) ∙ s.opened j a
        | inr e ↦ ap (slice_get (set M i Open)) e ∙ at_set M i Open l
      ];
      links = links;
      distinct = distinct_push i P s.distinct (λ o. apart M i i New Open at (s.opened i o) new_open refl);
    }

-- a number is left, with its height
pub closing : (G : Graph) (M : List VisitState) (P : List ℕ) (i h : ℕ) → State G M (P ++ i ∷ []) → HasChain G i h → ((m : ℕ) → Refers G i m → Below M m h) → h ≤ count_by is_done M → State G (set M i (Done h)) P
closing G M P i h s chain low few =
    let at : slice_get M i ≡ Some Open = s.opened i (on_end i P) in
    let l = slice_get_within M i Open at in
    let more = count_written is_done M i Open (Done h) at in record {
      marked = record {
        long = length-set M i (Done h) ∙ s.marked.long;
        settled = λ j k found. elim (same_or i j) [
          | inl e ↦ (let f : Some (Done h) ≡ Some (Done k) = sym (at_set M i (Done h) l) ∙ ap (slice_get (set M i (Done h))) e ∙ found in
              let same : h ≡ k = cc in
              let here : Settled G (set M i (Done h)) i h = record { chain = chain; low = λ m r. below_set M i Open (Done h) at open_done m h (low m r); few = omega (arith, more) } in
              let Q : ℕ → ℕ → Type 0 = λ x y. Settled G (set M i (Done h)) x y in
              subst (λ x. Q x k) e (subst (λ y. Q i y) same here))
          | inr ne ↦ settled_set G M i Open (Done h) at open_done (omega (arith, more)) j k (s.marked.settled j k (sym (past_set M i j (Done h) ne) ∙ found))
        ];
      };
      entered = λ j found.
          let ne : i ≡ j → ⊥ = λ e. let f : Some (Done h) ≡ Some Open = sym (at_set M i (Done h) l) ∙ ap (slice_get (set M i (Done h))) e ∙ found in cc in
          elim (on_cases j i P (s.entered j (sym (past_set M i j (Done h) ne) ∙ found))) [ inl a ↦ a | inr e ↦ absurd (ne (sym e)) ];
      opened = λ j o. past_set M i j (Done h) (λ e. last_apart i P s.distinct (let Q : ℕ → Type 0 = λ y. On y P in subst Q (sym e) o)) ∙ s.opened j (on_left j P (i ∷ []) o);
      links = links_front (Refers G) P (i ∷ []) s.links;
      distinct = distinct_front P (i ∷ []) s.distinct;
    }

-- what is done stays where another mark is written, and nothing becomes new
pub keeps_set : (M : List VisitState) (i : ℕ) (a v : VisitState) → slice_get M i ≡ Some a → ((k : ℕ) → a ≡ Done k → ⊥) → (v ≡ New → ⊥) → Keeps M (set M i v)
keeps_set M i a v at undone old = record {
  done = λ n h found. past_set M i n v (apart M i n a (Done h) at found (undone h)) ∙ found;
  entered = λ n found. elim (same_or i n) [
    | inl e ↦ absurd (old (let f : Some v ≡ Some New = sym (at_set M i v (slice_get_within M i a at)) ∙ ap (slice_get (set M i v)) e ∙ found in cc))
    | inr ne ↦ sym (past_set M i n v ne) ∙ found
  ];
}

pub keeps_same : (A : List VisitState) → Keeps A A
keeps_same A = record { done = λ n h found. found; entered = λ n found. found }

below_kept : (M : List VisitState) (m h k : ℕ) → Below M m h → h ≤ k → Below M m k
below_kept M m h k b le = record { height = b.height; done = b.done; less = let l = b.less in omega arith }

-- the references so far, one more
pub below_more : (M : List VisitState) (xs : List ℕ) (i h k b : ℕ) → i < length xs → ((m : ℕ) → On m (take i xs) → Below M m h) → h ≤ k → slice_get M (get_or xs i 0) ≡ Some (Done b) → b < k → (m : ℕ) → On m (take (i + 1) xs) → Below M m k
below_more M xs i h k b l before le done less m o =
    let split : take (i + 1) xs ≡ take i xs ++ get_or xs i 0 ∷ [] = rw add-one (take-suc xs i 0 l) in
    let Q : List ℕ → Type 0 = λ ys. On m ys in
    elim (on_cases m (get_or xs i 0) (take i xs) (subst Q split o)) [
      | inl a ↦ below_kept M m h k (before m a) le
      | inr e ↦ record { height = b; done = ap (slice_get M) e ∙ done; less = less }
    ]

-- a chain grows by a reference
pub chain_more : (G : Graph) (M : List VisitState) (i x b h k : ℕ) → Marked G M → slice_get M x ≡ Some (Done b) → Refers G i x → HasChain G i h → (k ≡ h) ⊎ (k ≡ b + 1) → HasChain G i k
chain_more G M i x b h k s at r c (inl e) = record { steps = c.steps; chain = c.chain; long = c.long ∙ sym e }
chain_more G M i x b h k s at r c (inr e) =
    let d = (s.settled x b at).chain in record { steps = x ∷ d.steps; chain = (r, d.chain); long = let l = d.long in omega arith }

pub graph_long : (vs : List (Vec ℕ Global)) → length (graph_of vs) ≡ length vs
graph_long vs = length-map vs (λ (w : Vec ℕ Global). w.items)

-- the row of a number, read from the graph
pub row_at : (vs : List (Vec ℕ Global)) (i j : ℕ) (v : Vec ℕ Global) (xs : List ℕ) → i ≡ j → j < length vs → v ≡ get_or vs j v → xs ≡ v.items → slice_get (graph_of vs) i ≡ Some xs
row_at vs i j v xs same l e is =
    ap (slice_get (graph_of vs)) same ∙ slice_get-map (λ (w : Vec ℕ Global). w.items) vs j ∙ ap (option_map (λ (w : Vec ℕ Global). w.items)) (slice_get-get_or vs j v l)
    ∙ ap (λ (w : Vec ℕ Global). Some w.items) (sym e) ∙ ap Some (sym is)

pub read_at : {X : Type 0} (xs : List X) (i : ℕ) (d x : X) → i < length xs → get_or xs i d ≡ x → slice_get xs i ≡ Some x
read_at xs i d x l is = slice_get-get_or xs i d l ∙ ap Some is

pub refers_on : (G : Graph) (i m : ℕ) (row : List ℕ) → slice_get G i ≡ Some row → Refers G i m → On m row
refers_on G i m row at r = let e : Some r.row ≡ Some row = sym r.found ∙ at in let same : r.row ≡ row = cc in let Q : List ℕ → Type 0 = λ xs. On m xs in subst Q same r.on
