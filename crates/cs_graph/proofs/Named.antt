-- What a graph says by numbers, said of what its numbers stand for.
use Rattle.std.proofs.Common.{◌≡◌, ℕ, suc, ◌<◌, Bool, true, false, List, [], ◌∷◌, ◌++◌, inl, inr, map, length, refl, sym, ap, ◌∙◌, subst, arith}
use Rattle.std.specs.List.{IsDistinct, AllByRecursion}
use Rattle.std.proofs.lemmas.Map.Keys.{IsDistinct-cons}
use Rattle.std.proofs.lemmas.List.{map-append}
use Rattle.std.proofs.Math.ListN.{length-map}
use Rattle.cs_graph.specs.Chains.{On, Distinct, Chain, IsClosed, NoCycle, IsHeight}
use Rattle.cs_graph.specs.Graph.{Graph, Refers, Within}
use Rattle.cs_graph.proofs.Places.{on_left, on_end}

pub on_map : {X Y : Type 0} (f : X → Y) (x : X) (xs : List X) → On x xs → On (f x) (map f xs)
on_map f x [] o = absurd o
on_map f x (y ∷ xs) (inl e) = inl (ap f e)
on_map f x (y ∷ xs) (inr o) = inr (on_map f x xs o)

pub map_on : {X Y : Type 0} (f : X → Y) (y : Y) (xs : List X) → On y (map f xs) → (x : X) × On x xs × (f x ≡ y)
map_on f y [] o = absurd o
map_on f y (x ∷ xs) (inl e) = (x, inl refl, sym e)
map_on f y (x ∷ xs) (inr o) = let r = map_on f y xs o in (r.0, inr r.1, r.2)

none_distinct : {X : Type 0} (e : X → X → Bool) → IsDistinct e []
unfolding IsDistinct
none_distinct e = tt

-- where none stands twice, none is equal to one after it
pub distinct_by : {X : Type 0} (e : X → X → Bool) → ((x y : X) → e x y ≡ true → x ≡ y) → (xs : List X) → Distinct xs → IsDistinct e xs
distinct_by e same [] d = none_distinct e
distinct_by e same (x ∷ xs) d = IsDistinct-cons e x xs (apart xs d.0) (distinct_by e same xs d.1)
  where
    apart : (ys : List _) → (On x ys → ⊥) → AllByRecursion (λ y. e x y ≡ false) ys
    apart [] h = tt
    apart (y ∷ ys) h = (by (e x y) refl, apart ys (λ o. h (inr o)))
      where
        by : (b : Bool) → e x y ≡ b → b ≡ false
        by false q = refl
        by true q = absurd (h (inl (same x y q)))

-- each number stands for one thing, and refers to the numbers of what that refers to; what refers to anything has a number
pub record StandsFor {X : Type 0} (S : X → X → Type 0) (G : Graph) (name : ℕ → X) : Type 0 where
  pub within : Within G
  pub along : (i j : ℕ) → Refers G i j → S (name i) (name j)
  pub back : (i : ℕ) (y : X) → i < length G → S (name i) y → (j : ℕ) × Refers G i j × (name j ≡ y)
  pub begins : (x y : X) → S x y → (i : ℕ) × (i < length G) × (name i ≡ x)
  pub once : (i j : ℕ) → i < length G → j < length G → name i ≡ name j → i ≡ j

module _ {X : Type 0} (S : X → X → Type 0) (G : Graph) (name : ℕ → X) (is : StandsFor S G name) where
  pub chain_along : (i : ℕ) (js : List ℕ) → Chain (Refers G) i js → Chain S (name i) (map name js)
  chain_along i [] c = tt
  chain_along i (j ∷ js) c = (is.along i j c.0, chain_along j js c.1)

  pub chain_back : (i : ℕ) (ys : List X) → i < length G → Chain S (name i) ys → (js : List ℕ) × Chain (Refers G) i js × (length js ≡ length ys)
  chain_back i [] l c = ([], tt, refl)
  chain_back i (y ∷ ys) l c =
      let r = is.back i y l c.0 in
      let next = chain_back r.0 ys (is.within i r.0 r.1) (subst (λ z. Chain S z ys) (sym r.2) c.1) in
      (r.0 ∷ next.0, (r.1, next.1), ap suc next.2)

  -- a chain up to a thing, as one up to a number of it
  upto_back : (i : ℕ) (y : X) (ys : List X) → i < length G → Chain S (name i) (ys ++ y ∷ []) → (js : List ℕ) × (j : ℕ) × Chain (Refers G) i (js ++ j ∷ []) × (j < length G) × (name j ≡ y)
  upto_back i y [] l c = let r = is.back i y l c.0 in ([], r.0, (r.1, tt), is.within i r.0 r.1, r.2)
  upto_back i y (z ∷ ys) l c =
      let r = is.back i z l c.0 in
      let next = upto_back r.0 y ys (is.within i r.0 r.1) (subst (λ w. Chain S w (ys ++ y ∷ [])) (sym r.2) c.1) in
      (r.0 ∷ next.0, next.1, (r.1, next.2), next.3, next.4)

  pub height_named : (i h : ℕ) → i < length G → IsHeight (Refers G) i h → IsHeight S (name i) h
  height_named i h l high = record {
    steps = map name high.steps;
    chain = chain_along i high.steps high.chain;
    long = length-map high.steps name ∙ high.long;
    longest = λ ys c. let b = chain_back i ys l c in let top = high.longest b.0 b.1 in omega (arith, b.2, top);
  }

  begin : (x y : X) (ys : List X) → Chain S x (ys ++ y ∷ []) → (i : ℕ) × (i < length G) × (name i ≡ x)
  begin x y [] c = is.begins x y c.0
  begin x y (z ∷ ys) c = is.begins x z c.0

  pub no_cycle_named : NoCycle (Refers G) → NoCycle S
  no_cycle_named none x xs c =
      let at = begin x x xs c in
      let b = upto_back at.0 x xs at.1 (subst (λ y. Chain S y (xs ++ x ∷ [])) (sym at.2) c) in
      none at.0 b.0 (subst (λ k. Chain (Refers G) at.0 (b.0 ++ k ∷ [])) (is.once b.1 at.0 b.3 at.1 (b.4 ∙ sym at.2)) b.2)

  pub closed_named : (js : List ℕ) → IsClosed (Refers G) js → IsClosed S (map name js)
  closed_named [] c = c
  closed_named (j ∷ js) c = subst (Chain S (name j)) (map-append name js (j ∷ [])) (chain_along j (js ++ j ∷ []) c)

  chain_inside : (i : ℕ) (js : List ℕ) → Chain (Refers G) i js → (j : ℕ) → On j js → j < length G
  chain_inside i [] c j o = absurd o
  chain_inside i (k ∷ js) c j (inl e) = subst (λ m. m < length G) (sym e) (is.within i k c.0)
  chain_inside i (k ∷ js) c j (inr o) = chain_inside k js c.1 j o

  -- the numbers of a closed chain are those of the graph
  pub closed_inside : (js : List ℕ) → IsClosed (Refers G) js → (j : ℕ) → On j js → j < length G
  closed_inside [] c j o = absurd c
  closed_inside (i ∷ js) c j (inl e) = subst (λ m. m < length G) (sym e) (chain_inside i (js ++ i ∷ []) c i (on_end i js))
  closed_inside (i ∷ js) c j (inr o) = chain_inside i (js ++ i ∷ []) c j (on_left j js (i ∷ []) o)

  pub distinct_named : (js : List ℕ) → ((j : ℕ) → On j js → j < length G) → Distinct js → Distinct (map name js)
  distinct_named [] inside d = tt
  distinct_named (j ∷ js) inside d = ((λ o. elsewhere (map_on name (name j) js o)), distinct_named js (λ k o. inside k (inr o)) d.1)
    where
      elsewhere : (x : ℕ) × On x js × (name x ≡ name j) → ⊥
      elsewhere r = d.0 (subst (λ k. On k js) (is.once r.0 j (inside r.0 (inr r.1)) (inside j (inl refl)) r.2) r.1)
