-- What the graph of an environment says by numbers, said by names.
use Rattle.std.proofs.Common.{◌≡◌, ℕ, zero, suc, ◌<◌, ◌≤◌, Bool, true, false, cond, List, [], ◌∷◌, inl, inr, map, length, Contains, Option, Some, None, slice_get, get_or, refl, sym, ap, ◌∙◌, subst, arith}
use Rattle.std.specs.List.{flat_map, IsDistinct, AllByRecursion}
use Rattle.std.specs.Option.{unwrap_or}
use Rattle.std.specs.Str.{bytes_eq}
use Rattle.std.proofs.lemmas.Map.Keys.{IsDistinct-head, IsDistinct-tail}
use Rattle.std.proofs.lemmas.Option.{slice_get-get_or, same_Some}
use Rattle.std.proofs.lemmas.Slice.Eq.{bytes_eq-Decides}
use Rattle.std.proofs.Math.ListN.{length-map}
use Rattle.cs_package.specs.Expression.{Expression}
use Rattle.cs_package.specs.Environment.{Environment, declared_names, bodies, name_at}
use Rattle.cs_guard.specs.References.{strong, strong_of, RefersStrongly}
use Rattle.cs_guard.specs.Ranks.{AreRanks}
use Rattle.cs_guard.specs.Cycles as refused
use Rattle.cs_graph.specs.Chains.{On, Distinct, Chain, NoCycle, IsHeight}
use Rattle.cs_graph.specs.Graph.{Graph, Refers, IsLowestFirst, IsLowestCycle, AreHeights}
use Rattle.cs_guard.specs.Limits.{IsGuarded, most_references}
use Rattle.cs_guard.specs.LongChains.{IsTooDeep}
use Rattle.cs_guard.specs.Numbered.{name_of, IsGraphOf}
use Rattle.cs_graph.proofs.Paths.{none_closed}
use Rattle.cs_graph.proofs.Named.{StandsFor, on_map, map_on, chain_along, chain_back, height_named, no_cycle_named, closed_named, closed_inside, distinct_named, distinct_by}

-- ---- what is in a list

pub on_contains : {X : Type 0} (x : X) (xs : List X) → On x xs → Contains xs x
on_contains x [] o = absurd o
on_contains x (y ∷ xs) (inl e) = (0, omega arith, sym e)
on_contains x (y ∷ xs) (inr o) = let c = on_contains x xs o in (suc c.0, (let l = c.1 in omega arith), c.2)

pub contains_on : {X : Type 0} (x : X) (xs : List X) → Contains xs x → On x xs
contains_on x xs c = by xs c.0 c.1 c.2
  where
    by : {X : Type 0} {x : X} (xs : List X) (k : ℕ) → k < length xs → get_or xs k x ≡ x → On x xs
    by [] k l e = absurd (omega arith)
    by (y ∷ xs) zero l e = inl (sym e)
    by (y ∷ xs) (suc k) l e = inr (by xs k (omega arith) e)

-- ---- names and numbers

pub name_within : (E : Environment) (i : ℕ) → i < length E → name_at E i ≡ Some (name_of E i)
name_within [] i l = absurd (omega arith)
name_within (d ∷ E) zero l = refl
name_within (d ∷ E) (suc i) l = name_within E i (omega arith)

named_within : (E : Environment) (i : ℕ) (n : List ℕ) → name_at E i ≡ Some n → i < length E
named_within [] i n e = cc
named_within (d ∷ E) zero n e = omega arith
named_within (d ∷ E) (suc i) n e = let l = named_within E i n e in omega arith

-- a name with bodies has a number
number_of : (E : Environment) (n : List ℕ) (bs : List Expression) → bodies E n ≡ Some bs → (i : ℕ) × (name_at E i ≡ Some n)
number_of [] n bs e = cc
number_of (d ∷ E) n bs e = by (bytes_eq n d.0) refl (number_of E n bs) e
  where
    by : (b : Bool) → bytes_eq n d.0 ≡ b → (bodies E n ≡ Some bs → (i : ℕ) × (name_at E i ≡ Some n)) → cond b (Some d.1) (bodies E n) ≡ Some bs → (i : ℕ) × (name_at (d ∷ E) i ≡ Some n)
    by true q later e = (0, ap Some (sym ((bytes_eq-Decides n d.0).0 q)))
    by false q later e = let r = later e in (suc r.0, r.1)

-- what refers to anything has a number
referring : (E : Environment) (n m : List ℕ) → RefersStrongly E n m → (i : ℕ) × (name_at E i ≡ Some n)
referring E n m c = by (bodies E n) refl c
  where
    by : (o : Option (List Expression)) → bodies E n ≡ o → Contains (flat_map strong (unwrap_or o [])) m → (i : ℕ) × (name_at E i ≡ Some n)
    by None e c = absurd (contains_on m [] c)
    by (Some bs) e c = number_of E n bs e

differs : (n : List ℕ) (E : Environment) (i : ℕ) → AllByRecursion (λ y. bytes_eq n y ≡ false) (declared_names E) → name_at E i ≡ Some n → ⊥
differs n [] i h e = cc
differs n (d ∷ E) zero h e = let yes : bytes_eq n d.0 ≡ true = (bytes_eq-Decides n d.0).1 (sym (same_Some d.0 n e)) in let no : bytes_eq n d.0 ≡ false = h.0 in cc
differs n (d ∷ E) (suc i) h e = differs n E i h.1 e

-- where names are distinct, each has one number
one_number : (E : Environment) (n : List ℕ) (i j : ℕ) → IsDistinct bytes_eq (declared_names E) → name_at E i ≡ Some n → name_at E j ≡ Some n → i ≡ j
one_number [] n i j d a b = cc
one_number (x ∷ E) n zero zero d a b = refl
one_number (x ∷ E) n zero (suc j) d a b = absurd (differs n E j (subst (λ y. AllByRecursion (λ z. bytes_eq y z ≡ false) (declared_names E)) (same_Some x.0 n a) (IsDistinct-head bytes_eq x.0 (declared_names E) d)) b)
one_number (x ∷ E) n (suc i) zero d a b = absurd (differs n E i (subst (λ y. AllByRecursion (λ z. bytes_eq y z ≡ false) (declared_names E)) (same_Some x.0 n b) (IsDistinct-head bytes_eq x.0 (declared_names E) d)) a)
one_number (x ∷ E) n (suc i) (suc j) d a b = ap suc (one_number E n i j (IsDistinct-tail bytes_eq x.0 (declared_names E) d) a b)

-- numbers of which none stands twice have names of which none does
pub distinct_by_name : (E : Environment) → IsDistinct bytes_eq (declared_names E) → (js : List ℕ) → ((j : ℕ) → On j js → j < length E) → Distinct js → IsDistinct bytes_eq (map (name_of E) js)
distinct_by_name E once js in_E d = distinct_by bytes_eq (λ n m e. (bytes_eq-Decides n m).0 e) (map (name_of E) js) (names js in_E d)
  where
    names : (is : List ℕ) → ((i : ℕ) → On i is → i < length E) → Distinct is → Distinct (map (name_of E) is)
    names [] l d = tt
    names (i ∷ is) l d = ((λ o. elsewhere (map_on (name_of E) (name_of E i) is o)), names is (λ k o. l k (inr o)) d.1)
      where
        elsewhere : (x : ℕ) × On x is × (name_of E x ≡ name_of E i) → ⊥
        elsewhere r = d.0 (subst (λ k. On k is) (one_number E (name_of E i) r.0 i once (name_within E r.0 (l r.0 (inr r.1)) ∙ ap Some r.2) (name_within E i (l i (inl refl)))) r.1)

-- ---- chains

module _ (E : Environment) (G : Graph) (is : IsGraphOf E G) where
  along : (i j : ℕ) → Refers G i j → RefersStrongly E (name_of E i) (name_of E j)
  along i j r = on_contains (name_of E j) (strong_of E (name_of E i)) (subst (On (name_of E j)) (is.rows i r.row r.found) (on_map (name_of E) j r.row r.on))

  pub inside : (i j : ℕ) → Refers G i j → j < length E
  inside i j r = let l = is.within i j r in omega (arith, is.long)

  -- what a number's name refers to has a number that it refers to
  back : (i : ℕ) (n m : List ℕ) → name_at E i ≡ Some n → RefersStrongly E n m → (j : ℕ) × Refers G i j × (name_at E j ≡ Some m)
  back i n m at c =
      let row = get_or G i [] in
      let found : slice_get G i ≡ Some row = slice_get-get_or G i [] (let l = named_within E i n at in omega (arith, is.long)) in
      let names : map (name_of E) row ≡ strong_of E n = is.rows i row found ∙ ap (λ o. strong_of E (unwrap_or o [])) at in
      let o = map_on (name_of E) m row (subst (On m) (sym names) (contains_on m (strong_of E n) c)) in
      let r : Refers G i o.0 = record { row = row; found = found; on = o.1 } in
      (o.0, r, name_within E o.0 (inside i o.0 r) ∙ ap Some o.2)

module _ (E : Environment) (G : Graph) (is : IsGraphOf E G) (once : IsDistinct bytes_eq (declared_names E)) where
  pub stands_for : StandsFor (RefersStrongly E) G (name_of E)
  stands_for = record {
    within = is.within;
    along = along E G is;
    back = λ i m l c. let r = back E G is i (name_of E i) m (name_within E i (omega (arith, l, is.long))) c in (r.0, r.1, ap (λ o. unwrap_or o []) r.2);
    begins = λ n m c. let at = referring E n m c in (at.0, (let l = named_within E at.0 n at.1 in omega (arith, l, is.long)), ap (λ o. unwrap_or o []) at.1);
    once = λ i j a b e. one_number E (name_of E i) i j once (name_within E i (omega (arith, a, is.long))) (name_within E j (omega (arith, b, is.long)) ∙ ap Some (sym e));
  }

  height_by_name : (i : ℕ) (n : List ℕ) (h : ℕ) → name_at E i ≡ Some n → IsHeight (Refers G) i h → IsHeight (RefersStrongly E) n h
  height_by_name i n h at high =
      subst (λ o. IsHeight (RefersStrongly E) (unwrap_or o []) h) at (height_named (RefersStrongly E) G (name_of E) stands_for i h (let l = named_within E i n at in omega (arith, l, is.long)) high)

  short_by_name : ((i : ℕ) (js : List ℕ) → Chain (Refers G) i js → length js ≤ most_references) → (n : List ℕ) (ns : List (List ℕ)) → Chain (RefersStrongly E) n ns → length ns ≤ most_references
  short_by_name short n [] c = omega arith
  short_by_name short n (m ∷ ms) c =
      let at = stands_for.begins n m c.0 in
      let b = chain_back (RefersStrongly E) G (name_of E) stands_for at.0 (m ∷ ms) at.1 (subst (λ x. Chain (RefersStrongly E) x (m ∷ ms)) (sym at.2) c) in
      let s = short at.0 b.0 b.1 in
      let long = b.2 in omega (arith, s, long)

  no_cycle_by_name : NoCycle (Refers G) → NoCycle (RefersStrongly E)
  no_cycle_by_name none = no_cycle_named (RefersStrongly E) G (name_of E) stands_for none

  guarded_by_name : IsGuarded (Refers G) → IsGuarded (RefersStrongly E)
  guarded_by_name g = record { no_cycle = no_cycle_by_name g.no_cycle; short = short_by_name g.short }

  -- heights by numbers are the ranks of the definitions
  pub ranks_by_name : (hs : List ℕ) → AreHeights G hs → IsGuarded (Refers G) → AreRanks E hs
  ranks_by_name hs h g = record {
    guarded = guarded_by_name g;
    long = h.long ∙ is.long;
    heights = λ i n at. height_by_name i n (get_or hs i 0) at (h.each i (let l = named_within E i n at in omega (arith, is.long)));
  }

  pub too_deep_by_name : (js : List ℕ) → IsTooDeep (Refers G) js → IsTooDeep (RefersStrongly E) (map (name_of E) js)
  too_deep_by_name [] d = absurd d.1
  too_deep_by_name (i ∷ js) d = (
    no_cycle_by_name d.0,
    (chain_along (RefersStrongly E) G (name_of E) stands_for i js d.1.0, (let l = d.1.1 in omega (arith, l, length-map js (name_of E)))),
  )

  -- ---- a cycle

  earliest_by_name : (i : ℕ) (js : List ℕ) → i < length E → ((j : ℕ) → On j js → j < length E) → IsLowestFirst (i ∷ js) → refused.IsEarliestFirst E (map (name_of E) (i ∷ js))
  earliest_by_name i js l in_E low = λ a b m c at bt.
      let o = map_on (name_of E) m js (contains_on m (map (name_of E) js) c) in
      let first : a ≡ i = one_number E (name_of E i) a i once at (name_within E i l) in
      let other : b ≡ o.0 = one_number E m b o.0 once bt (name_within E o.0 (in_E o.0 o.1) ∙ ap Some o.2) in
      let least = low o.0 o.1 in
      omega (arith, first, other, least)

  -- the numbers of a cycle are those of definitions
  pub cycle_inside : (js : List ℕ) → IsLowestCycle G js → (j : ℕ) → On j js → j < length E
  cycle_inside js c j o = let l = closed_inside (RefersStrongly E) G (name_of E) stands_for js c.cycle.0 j o in omega (arith, l, is.long)

  pub cycle_by_name : (js : List ℕ) → IsLowestCycle G js → refused.IsCycle E (map (name_of E) js)
  cycle_by_name [] c = absurd c.cycle.0
  cycle_by_name (i ∷ js) c =
      let in_E = cycle_inside (i ∷ js) c in
      let in_G = closed_inside (RefersStrongly E) G (name_of E) stands_for (i ∷ js) c.cycle.0 in record {
        closed = closed_named (RefersStrongly E) G (name_of E) stands_for (i ∷ js) c.cycle.0;
        distinct = distinct_by bytes_eq (λ n m e. (bytes_eq-Decides n m).0 e) (map (name_of E) (i ∷ js)) (distinct_named (RefersStrongly E) G (name_of E) stands_for (i ∷ js) in_G c.cycle.1);
        earliest = earliest_by_name i js (in_E i (inl refl)) (λ j o. in_E j (inr o)) c.lowest;
      }

-- ---- what is guarded isn't refused

pub guarded_no_cycle : (E : Environment) (ns : List (List ℕ)) → IsGuarded (RefersStrongly E) → refused.IsCycle E ns → ⊥
guarded_no_cycle E ns g c = none_closed (RefersStrongly E) g.no_cycle ns c.closed

pub guarded_not_deep : (E : Environment) (ns : List (List ℕ)) → IsGuarded (RefersStrongly E) → IsTooDeep (RefersStrongly E) ns → ⊥
guarded_not_deep E [] g d = d.1
guarded_not_deep E (n ∷ ns) g d = let most = g.short n ns d.1.0 in let long = d.1.1 in omega (arith, most, long)
