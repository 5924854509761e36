-- The walk down the heights finds a longest chain.
use Rattle.std.proofs.Common.{◌≡◌, ℕ, suc, ◌+◌, ◌<◌, List, [], ◌∷◌, ◌++◌, inl, inr, length, get_or, refl, sym, subst, arith}
use Rattle.std.specs.Prelude.{◌≢◌}
use Rattle.std.proofs.lemmas.List.{length-append}
use Rattle.cs_graph.specs.Chains.{On, Chain, NoCycle}
use Rattle.cs_graph.specs.Graph.{Graph, Refers, Within, AreHeights}
use Rattle.cs_graph.specs.Paths.{Links}
use Rattle.cs_graph.proofs.Paths.{height_falls, links_push}
use Rattle.cs_graph.proofs.Places.{on_cases}
use Rattle.cs_guard.specs.Descent.{IsDescent}
use Rattle.cs_guard.specs.Limits.{most_references}
use Rattle.cs_guard.specs.LongChains.{IsTooDeep}

-- the numbers so far, of which the last is as high as the chain still goes on
pub record IsUnderWay (G : Graph) (hs : List ℕ) (first : ℕ) (ns : List ℕ) (last : ℕ) : Type 0 where
  pub front : List ℕ
  pub ends : ns ≡ front ++ last ∷ []
  pub links : Links (Refers G) ns
  pub inside : (n : ℕ) → On n ns → n < length G
  pub last_inside : last < length G
  pub left : length ns + get_or hs last 0 ≡ suc (get_or hs first 0)

-- no number that one refers to is one lower
abbrev NoneBelow : Graph → List ℕ → ℕ → Type 0
NoneBelow G hs n = (m : ℕ) → Refers G n m → suc (get_or hs m 0) ≢ get_or hs n 0

module _ (G : Graph) (hs : List ℕ) (within : Within G) (are : AreHeights G hs) (first : ℕ) where
  pub begun : first < length G → IsUnderWay G hs first (first ∷ []) first
  begun l = record {
    front = [];
    ends = refl;
    links = tt;
    inside = λ n o. elim o [ inl e ↦ subst (λ m. m < length G) (sym e) l | inr none ↦ absurd none ];
    last_inside = l;
    left = omega arith;
  }

  pub gone_on : (ns : List ℕ) (last next : ℕ) → IsUnderWay G hs first ns last → Refers G last next → suc (get_or hs next 0) ≡ get_or hs last 0 → IsUnderWay G hs first (ns ++ next ∷ []) next
  gone_on ns last next w refers lower =
      let l = within last next refers in
      let linked = links_push (Refers G) last next w.front (subst (Links (Refers G)) w.ends w.links) refers in record {
        front = ns;
        ends = refl;
        links = subst (λ xs. Links (Refers G) (xs ++ next ∷ [])) (sym w.ends) linked;
        inside = λ n o. elim (on_cases n next ns o) [ inl before ↦ w.inside n before | inr e ↦ subst (λ m. m < length G) (sym e) l ];
        last_inside = l;
        left = omega (arith, length-append ns (next ∷ []), lower, w.left);
      }

  -- where nothing is one lower, the height is 0
  lowest : (last : ℕ) → last < length G → NoneBelow G hs last → get_or hs last 0 ≡ 0
  lowest last l none = let high = are.each last l in by high.steps high.chain high.long
    where
      by : (steps : List ℕ) → Chain (Refers G) last steps → length steps ≡ get_or hs last 0 → get_or hs last 0 ≡ 0
      by [] c e = sym e
      by (m ∷ ms) c e =
          let r = c.0 in
          let low = are.each m (within last m r) in
          let falls = height_falls (Refers G) last m (get_or hs last 0) (get_or hs m 0) (are.each last l) r low in
          let longest = low.longest ms c.1 in
          absurd (none m r (omega (arith, e, falls, longest)))

  pub ended : (ns : List ℕ) (last : ℕ) → IsUnderWay G hs first ns last → NoneBelow G hs last → IsDescent G hs first ns
  ended ns last w none =
      let zero_left = lowest last w.last_inside none in
      record { links = w.links; inside = w.inside; long = omega (arith, w.left, zero_left) }

-- a chain from a number that is too high is too long
pub descent_too_deep : (G : Graph) (hs : List ℕ) (first : ℕ) (ns : List ℕ) → NoCycle (Refers G) → IsDescent G hs first ns → most_references < get_or hs first 0 → IsTooDeep (Refers G) ns
descent_too_deep G hs first [] none d over = (let l = d.long in absurd (omega (arith, l)))
descent_too_deep G hs first (n ∷ ns) none d over = (none, (d.links, omega (arith, d.long, over)))
