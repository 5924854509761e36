-- The heights of numbers that are all done.
use Rattle.std.proofs.Common.{◌≡◌, ℕ, ◌+◌, ◌<◌, List, [], ◌++◌, Some, length, map, slice_get, get_or, take, drop, sym, ap, ◌∙◌, arith, below_more}
use Rattle.std.proofs.Math.ListN.{length-map}
use Rattle.std.proofs.lemmas.List.{append-nil, take_all, drop_all}
use Rattle.std.proofs.lemmas.Option.{slice_get-map, slice_get_within, get_or_from_slice_get}
use Rattle.std.specs.Option.{option_map}
use Rattle.cs_graph.specs.Chains.{NoCycle}
use Rattle.cs_graph.specs.Graph.{Graph, Refers, AreHeights, FallAlong}
use Rattle.cs_graph.specs.Walk.{State, Keeps, IsDone, Solved, height_of}
use Rattle.cs_graph.specs.declared.walk.VisitState.{VisitState}
use Rattle.cs_graph.specs.declared.walk.VisitState.TheVariants.{Done}
use Rattle.cs_graph.proofs.Paths.{chain_short, no_cycle}

-- the height of a number that is done, read among all heights
read_height : (M : List VisitState) (n h : ℕ) → slice_get M n ≡ Some (Done h) → get_or (map height_of M) n 0 ≡ h
read_height M n h at = get_or_from_slice_get (map height_of M) n h 0 (slice_get-map height_of M n ∙ ap (option_map height_of) at)

-- one more number is done
pub one_more : (M N : List VisitState) (n : ℕ) → Keeps M N → ((k : ℕ) → k < n → IsDone M k) → IsDone N n → (k : ℕ) → k < n + 1 → IsDone N k
one_more M N n kept before here = below_more (IsDone N) n (λ k l. let d = before k l in record { height = d.height; done = kept.done k d.height d.done }) here

module _ (G : Graph) (M : List VisitState) (s : State G M []) (all : (n : ℕ) → n < length G → IsDone M n) where
  -- the heights fall along references
  pub falls_of : FallAlong G (map height_of M)
  falls_of n m r =
      let d = all n (slice_get_within G n r.row r.found) in
      let own = s.marked.settled n d.height d.done in
      let b = own.low m r in
      let less = b.less in
      omega (arith, less, read_height M n d.height d.done, read_height M m b.height b.done)

  pub acyclic_of : NoCycle (Refers G)
  acyclic_of = no_cycle (Refers G) (λ n. get_or (map height_of M) n 0) falls_of

  pub heights_are : AreHeights G (map height_of M)
  heights_are = record {
    long = length-map M height_of ∙ s.marked.long;
    each = λ n l.
        let d = all n l in
        let own = s.marked.settled n d.height d.done in
        let c = own.chain in
        record { steps = c.steps; chain = c.chain; long = c.long ∙ sym (read_height M n d.height d.done); longest = chain_short (Refers G) (λ k. get_or (map height_of M) k 0) falls_of n };
  }

  pub solved : Solved G (map height_of M)
  solved = record { each = heights_are; fall = falls_of; acyclic = acyclic_of }

-- a slice of the whole, as written
pub written_back : {X : Type 0} (old new : List X) (n : ℕ) → n ≡ length old → length new ≡ length old → take n (new ++ drop (length new) old) ≡ new
written_back old new n long same =
    let none : drop (length new) old ≡ [] = drop_all (length new) old (omega arith) in
    rw none (rw append-nil (take_all n new (omega arith)))
