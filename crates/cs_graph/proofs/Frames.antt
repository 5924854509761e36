-- What each step of the walk does to the marks and the path.
use Rattle.std.proofs.Common.{◌≡◌, ℕ, ◌+◌, ◌<◌, ◌≤◌, List, [], ◌∷◌, ◌++◌, ◌⊎◌, inl, inr, Some, None, max, length, take, slice_get, get_or, refl, sym, ap, subst, ◌∙◌, arith}
use Rattle.std.proofs.Math.ListN.{set}
use Rattle.std.proofs.lemmas.List.{map-append, length-append, take_all}
use Rattle.std.proofs.lemmas.Option.{slice_get-get_or, slice_get_within, get_or_from_slice_get}
use Rattle.std.specs.List.{count_by}
use Rattle.cs_graph.specs.Chains.{On}
use Rattle.cs_graph.specs.Graph.{Graph, Refers, Within, IsLowestFirst, IsLowestCycle}
use Rattle.cs_graph.specs.Paths.{Links, tail_from, IsTurned}
use Rattle.cs_graph.specs.Walk.{State, Marked, Below, Passed, Walking, Stopped, Onward, IsDone, frame_of, numbers_of, is_new, is_done}
use Rattle.cs_graph.specs.declared.walk.Frame.{Frame}
use Rattle.cs_graph.specs.declared.walk.VisitState.{VisitState}
use Rattle.cs_graph.specs.declared.walk.VisitState.TheVariants.{New, Open, Done}
use Rattle.cs_graph.proofs.Places.{on_left, on_end, on_cases, on_get}
use Rattle.cs_graph.proofs.Paths.{closes, links_push, turned}
use Rattle.cs_graph.proofs.Marks.{opening, closing, below_set, below_more, chain_more, refers_on, up_to, count_written, keeps_set, new_done, open_done}

pub numbers_end : (S : List Frame) (f : Frame) → numbers_of (S ++ f ∷ []) ≡ numbers_of S ++ f.number ∷ []
numbers_end S f = map-append (λ (g : Frame). g.number) S (f ∷ [])

done_new : (h : ℕ) → Done h ≡ New → ⊥
done_new h e = cc

pub open_new : Open ≡ New → ⊥
open_new e = cc

-- what a frame has passed stays, where a mark is written over one that wasn't done
passed_set : (G : Graph) (M : List VisitState) (i : ℕ) (a v : VisitState) → slice_get M i ≡ Some a → ((k : ℕ) → a ≡ Done k → ⊥) → count_by is_done M ≤ count_by is_done (set M i v) → (f : Frame) → Passed G M f → Passed G (set M i v) f
passed_set G M i a v at undone le f p = record { chain = p.chain; low = λ m o. below_set M i a v at undone m f.height (p.low m o); few = let l = p.few in omega (arith, l, le) }

-- no reference is passed yet
fresh : (G : Graph) (M : List VisitState) (n : ℕ) → Passed G M (frame_of n)
fresh G M n = record { chain = record { steps = []; chain = tt; long = refl }; low = λ m o. absurd o; few = omega arith }

-- the first number of a walk
pub starting : (G : Graph) (M : List VisitState) (n : ℕ) → State G M [] → slice_get M n ≡ Some New → Walking G (set M n Open) (frame_of n ∷ [])
starting G M n s new = record {
  state = opening G M [] n s new tt;
  passed = λ f o. elim o [ inl e ↦ subst (Passed G (set M n Open)) (sym e) (fresh G (set M n Open) n) | inr none ↦ absurd none ];
}

-- ---- the references of a frame

module _ (G : Graph) (f : Frame) (xs : List ℕ) (row : slice_get G f.number ≡ Some xs) where
  row_is : get_or G f.number [] ≡ xs
  row_is = get_or_from_slice_get G f.number xs [] row

  -- the next one
  pub next_refers : f.passed < length xs → Refers G f.number (get_or xs f.passed 0)
  next_refers l = record { row = xs; found = row; on = on_get xs f.passed 0 l }

  pub next_within : (M : List VisitState) → Within G → Marked G M → f.passed < length xs → get_or xs f.passed 0 < length M
  next_within M within marked l = let low = within f.number (get_or xs f.passed 0) (next_refers l) in omega (arith, low, marked.long)

  -- it is passed
  pub passed_more : (M : List VisitState) (b k : ℕ) → Marked G M → f.passed < length xs → slice_get M (get_or xs f.passed 0) ≡ Some (Done b) → Passed G M f → k ≡ max f.height (b + 1) → Passed G M (record { number = f.number; passed = f.passed + 1; height = k })
  passed_more M b k marked l at p top =
      let which : (k ≡ f.height) ⊎ (k ≡ b + 1) = elim (up_to (b + 1) f.height) [ inl low ↦ inl (omega arith) | inr high ↦ inr (omega arith) ] in
      let own = marked.settled (get_or xs f.passed 0) b at in
      let Q : List ℕ → Type 0 = λ ys. (m : ℕ) → On m (take (f.passed + 1) ys) → Below M m k in
      let P : List ℕ → Type 0 = λ ys. (m : ℕ) → On m (take f.passed ys) → Below M m f.height in
      record {
        chain = chain_more G M f.number (get_or xs f.passed 0) b f.height k marked at (next_refers l) p.chain which;
        low = subst Q (sym row_is) (below_more M xs f.passed f.height k b l (subst P row_is p.low) (omega arith) at (omega arith));
        few = let few = own.few in let before = p.few in omega arith;
      }

  -- all are passed
  pub passed_all : (M : List VisitState) → length xs ≤ f.passed → Passed G M f → (m : ℕ) → Refers G f.number m → Below M m f.height
  passed_all M l p m r =
      let all : take f.passed (get_or G f.number []) ≡ xs = ap (take f.passed) row_is ∙ take_all f.passed xs l in
      let Q : List ℕ → Type 0 = λ ys. On m ys in
      p.low m (subst Q (sym all) (refers_on G f.number m xs row r))

-- ---- marks

-- what is neither new nor done is open
pub open_of : (M : List VisitState) (n : ℕ) (d : VisitState) → n < length M → (get_or M n d ≡ New → ⊥) → (IsDone M n → ⊥) → slice_get M n ≡ Some Open
open_of M n d l old undone = by (get_or M n d) (slice_get-get_or M n d l) old
  where
    by : (m : VisitState) → slice_get M n ≡ Some m → (m ≡ New → ⊥) → slice_get M n ≡ Some Open
    by New at none = absurd (none refl)
    by Open at none = at
    by (Done h) at none = absurd (undone (record { height = h; done = at }))

-- where nothing is open, what isn't new is done
pub done_of : (G : Graph) (M : List VisitState) (n : ℕ) → State G M [] → (slice_get M n ≡ Some New → ⊥) → n < length M → IsDone M n
done_of G M n s old l = by (get_or M n New) (slice_get-get_or M n New l)
  where
    by : (m : VisitState) → slice_get M n ≡ Some m → IsDone M n
    by New at = absurd (old at)
    by Open at = absurd (s.entered n at)
    by (Done h) at = record { height = h; done = at }

-- ---- the last frame of the path, whose references are passed up to the next one that isn't done

module _ (G : Graph) (M : List VisitState) (S : List Frame) (last f : Frame) (w : Walking G M (S ++ last ∷ [])) where
  same_numbers : f.number ≡ last.number → numbers_of (S ++ last ∷ []) ≡ numbers_of S ++ f.number ∷ []
  same_numbers same = numbers_end S last ∙ ap (λ n. numbers_of S ++ n ∷ []) (sym same)

  path_of : f.number ≡ last.number → State G M (numbers_of S ++ f.number ∷ [])
  path_of same = subst (State G M) (same_numbers same) w.state

  pub last_within : last.number < length M
  last_within =
      let path : State G M (numbers_of S ++ last.number ∷ []) = subst (State G M) (numbers_end S last) w.state in
      slice_get_within M last.number Open (path.opened last.number (on_end last.number (numbers_of S)))

  -- its references end: it is done
  pub finishing : Stopped G M last.number f None → Onward G M (set M f.number (Done f.height)) S S
  finishing stop =
      let path = path_of stop.same in
      let at : slice_get M f.number ≡ Some Open = path.opened f.number (on_end f.number (numbers_of S)) in
      let less = count_written is_new M f.number Open (Done f.height) at in
      let more = count_written is_done M f.number Open (Done f.height) at in
      let p = stop.passed in record {
        walking = record {
          state = closing G M (numbers_of S) f.number f.height path p.chain stop.stops p.few;
          passed = λ g o. passed_set G M f.number Open (Done f.height) at open_done (omega (arith, more)) g (w.passed g (on_left g S (last ∷ []) o));
        };
        kept = keeps_set M f.number Open (Done f.height) at open_done (done_new f.height);
        fewer = omega (arith, less);
      }

  module _ (n : ℕ) (stop : Stopped G M last.number f (Some n)) where
    links_on : Links (Refers G) ((numbers_of S ++ f.number ∷ []) ++ n ∷ [])
    links_on = let path = path_of stop.same in links_push (Refers G) f.number n (numbers_of S) path.links stop.stops.0

    -- the next number is new: it is entered
    pub entering : slice_get M n ≡ Some New → Onward G M (set M n Open) S ((S ++ f ∷ []) ++ frame_of n ∷ [])
    entering new =
        let P = numbers_of S ++ f.number ∷ [] in
        let N = set M n Open in
        let less = count_written is_new M n New Open new in
        let more = count_written is_done M n New Open new in
        let whole : numbers_of ((S ++ f ∷ []) ++ frame_of n ∷ []) ≡ P ++ n ∷ [] = numbers_end (S ++ f ∷ []) (frame_of n) ∙ ap (λ p. p ++ n ∷ []) (numbers_end S f) in
        let before = λ (g : Frame) (o : On g (S ++ f ∷ [])). elim (on_cases g f S o) as (λ _. Passed G M g) [ inl a ↦ w.passed g (on_left g S (last ∷ []) a) | inr e ↦ subst (Passed G M) (sym e) stop.passed ] in record {
          walking = record {
            state = subst (State G N) (sym whole) (opening G M P n (path_of stop.same) new links_on);
            passed = λ g o. elim (on_cases g (frame_of n) (S ++ f ∷ []) o) [
              | inl a ↦ passed_set G M n New Open new new_done (omega (arith, more)) g (before g a)
              | inr e ↦ subst (Passed G N) (sym e) (fresh G N n)
            ];
          };
          kept = keeps_set M n New Open new new_done open_new;
          fewer = omega (arith, less, length-append (S ++ f ∷ []) (frame_of n ∷ []), length-append S (f ∷ []));
        }

    -- the next number is on the path: it closes a cycle
    pub cycle_closed : slice_get M n ≡ Some Open → (ns : List ℕ) → IsTurned (tail_from n (numbers_of (S ++ f ∷ []))) ns → IsLowestFirst ns → IsLowestCycle G ns
    cycle_closed at ns t low =
        let P = numbers_of S ++ f.number ∷ [] in
        let path = path_of stop.same in
        let here : IsTurned (tail_from n P) ns = subst (λ p. IsTurned (tail_from n p) ns) (numbers_end S f) t in record {
          cycle = turned (Refers G) (tail_from n P) ns here (closes (Refers G) n P links_on (path.entered n at) path.distinct);
          lowest = low;
        }
