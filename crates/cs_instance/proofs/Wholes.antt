-- The rules of all that a root reaches, with their numbers.
use Rattle.std.proofs.Common.{◌≡◌, ℕ, zero, suc, ◌<◌, inl, inr, List, [], ◌∷◌, ◌++◌, map, length, slice_index, refl, sym, ap, ap₂, ◌∙◌, subst, append-nil, arith}
use Rattle.std.specs.Prelude.{Contains, All, get_or, slice_get, Some}
use Rattle.std.specs.List.{flat_map, AllByRecursion as Each}
use Rattle.std.specs.List.Sorted.{IsPermutation}
use Rattle.std.specs.Option.{unwrap_or}
use Rattle.std.proofs.lemmas.Simd.{map-map}
use Rattle.std.proofs.lemmas.List.{length-map, get_or-map, take_all, drop_all}
use Rattle.std.proofs.lemmas.List.Elements.{All-from_recursion, All-get_or}
use Rattle.std.proofs.lemmas.List.Sorted.{IsPermutation-map, IsPermutation-sym, Contains-permutation, length_permutation}
use Rattle.cs_document.proofs.Each.{each_member, each_map, each_over, each_append}
use Rattle.cs_package.specs.Expression as cue
use Rattle.cs_package.specs.Expression.{Expression, Declaration}
use Rattle.cs_package.specs.Environment.{Environment, bodies, declared_names}
use Rattle.cs_package.specs.View.{expressions_of}
use Rattle.cs_package.specs.declared.shape.Shape.{Shape}
use Rattle.cs_graph.specs.Chains.{On, Chain}
use Rattle.cs_guard.specs.Reachable.{referred, referred_all, referred_of, RefersTo, Reaches, AreReachable, last_of}
use Rattle.cs_guard.specs.Numbered.{name_of}
use Rattle.cs_guard.proofs.Numbers.{on_contains, contains_on}
use Rattle.cs_instance.specs.Constraint.{Rest, nothing, anything, each, Constraint, simple, all_of, any_of, object_of, list_of}
use Rattle.cs_instance.specs.Instance.{Rule, definition, node}
use Rattle.cs_instance.specs.Numbering.{map_declaration, map_rest, map_constraint, PartsBelow, RestBelow, rule_at, IsNumbering}
use Rattle.cs_instance.specs.Rules.{rules_of, rules_of_one}
use Rattle.cs_instance.specs.declared.rules.Rule.{Rule as Coded}
use Rattle.cs_rules.specs.declared.numberer.Numberer.{Numberer}
use Rattle.cs_rules.specs.Steps.{ArePlaced}
use Rattle.cs_rules.proofs.Judged.{coded_found}
use Rattle.cs_instance.specs.Steps.{asked_of, numbered}
use Rattle.cs_instance.specs.declared.numbering.definitions.Placement.{Placement}
use Rattle.cs_instance.specs.Placing.{waiting, expression_at, AreNumbered, AreAt, IsKnown, AreKnownIn, PlacesWaiting, placed_with, left_with, bodies_of, rules_in}
use Rattle.cs_instance.specs.Ranked.{ArePlacedBy, names_in}
use Rattle.cs_instance.specs.Rooted.{IsRooted, IsNumberedWhole}
use Rattle.cs_rules.proofs.Lists.{got_front}
use Rattle.cs_instance.proofs.Placed.{names_same}
use Rattle.cs_rules.proofs.Permutations.{equal, joined, flat_map-IsPermutation}
use Rattle.cs_instance.proofs.Counted.{whole_of, gathered}
use Rattle.cs_instance.proofs.Ordered.{distinct_of, each_found, names_at}
use Rattle.cs_instance.proofs.Waited.{Referred, left_known_all}

-- ---- what is reached

chain_more : (E : Environment) (n : List ℕ) (ns : List (List ℕ)) (m : List ℕ) → Chain (RefersTo E) n ns → RefersTo E (last_of n ns) m → Chain (RefersTo E) n (ns ++ m ∷ [])
chain_more E n [] m c r = (r, tt)
chain_more E n (k ∷ ns) m c r = (c.0, chain_more E k ns m c.1 r)

last_more : (n : List ℕ) (ns : List (List ℕ)) (m : List ℕ) → last_of n (ns ++ m ∷ []) ≡ m
last_more n [] m = refl
last_more n (k ∷ ns) m = last_more k ns m

reaches_more : (E : Environment) (n m k : List ℕ) → Reaches E n m → RefersTo E m k → Reaches E n k
reaches_more E n m k r s = record {
  steps = r.steps ++ k ∷ [];
  chain = chain_more E n r.steps k r.chain (subst (λ x. RefersTo E x k) (sym r.last) s);
  last = last_more n r.steps k;
}

pub closed_in : (E : Environment) (root : List ℕ) (names ns : List (List ℕ)) → AreReachable E root names → IsPermutation names ns → (n m : List ℕ) → On n ns → Contains (referred_of E n) m → On m ns
closed_in E root names ns r p n m o c =
    let back = Contains-permutation ns names n (IsPermutation-sym names ns p) (on_contains n ns o) in
    contains_on m ns (Contains-permutation names ns m p ((r.each m).1 (reaches_more E root n m ((r.each n).0 back) c)))

-- there are as many, however the names are listed
pub rules_count : (E : Environment) (n : List ℕ) (names ns : List (List ℕ)) → AreReachable E n names → AreReachable E n ns → length (rules_of E ns) ≡ length (rules_of E names)
rules_count E n names ns a b =
    length_permutation (rules_of E names) (rules_of E ns) (gathered (rules_of_one E) names ns (distinct_of names a.distinct) (distinct_of ns b.distinct)
    (λ x o. contains_on x ns ((b.each x).1 ((a.each x).0 (on_contains x names o)))) (λ x o. contains_on x names ((a.each x).1 ((b.each x).0 (on_contains x ns o)))))

-- ---- what waits refers to definitions that have numbers

all_referred : (bs : List Expression) → referred_all (expressions_of bs) ≡ flat_map referred bs
all_referred [] = refl
all_referred (b ∷ bs) = ap (λ xs. referred b ++ xs) (all_referred bs)

waiting_known : (E : Environment) (Q : List ℕ → Type 0) (all : List (List ℕ)) → Each Q all → ((n m : List ℕ) → On n all → Contains (referred_of E n) m → On m all) → (ns : List (List ℕ)) → ((n : List ℕ) → On n ns → On n all) → Each (Referred Q) (flat_map (left_with E) ns)
waiting_known E Q all known closed [] inside = tt
waiting_known E Q all known closed (n ∷ ns) inside =
    let bs = unwrap_or (bodies E n) [] in
    let here : Each Q (referred_all (bodies_of E n)) = subst (Each Q) (sym (all_referred bs)) (each_member Q (flat_map referred bs) (λ m c. each_found Q all m known (closed n m (inside n (inl refl)) c))) in
    each_append (Referred Q) (left_with E n) (flat_map (left_with E) ns) (left_known_all Q (bodies_of E n) here) (waiting_known E Q all known closed ns (λ k o. inside k (inr o)))

pub first_known : (E : Environment) (ns : List (List ℕ)) (p : Placement) → ((n m : List ℕ) → On n ns → Contains (referred_of E n) m → On m ns) → ArePlacedBy E ns p
    → AreKnownIn (declared_names E) p.numbers.items (flat_map (placed_with E) ns) (waiting (declared_names E) p.numberer)
first_known E ns p closed a =
    let Q = IsKnown (declared_names E) p.numbers.items (flat_map (placed_with E) ns) in
    subst (Each (Referred Q)) (sym a.waits) (waiting_known E Q ns a.known closed ns (λ n o. o))

-- ---- places of what waited are numbers now

module _ {D D' D'' N N' N'' : Type 0} (f' : D' → D'') (g' : N' → N'') (f : D → D') (g : N → N') where
  declarations_twice : (ds : List (Declaration N)) → map (map_declaration g') (map (map_declaration g) ds) ≡ map (map_declaration (λ x. g' (g x))) ds
  declarations_twice [] = refl
  declarations_twice (d ∷ ds) = ap (λ xs. record { label = d.label; mark = d.mark; value = g' (g d.value) } ∷ xs) (declarations_twice ds)

  rest_twice : (r : Rest N) → map_rest g' (map_rest g r) ≡ map_rest (λ x. g' (g x)) r
  rest_twice nothing = refl
  rest_twice anything = refl
  rest_twice (each e) = refl

  pub twice : (a : Constraint D N) → map_constraint f' g' (map_constraint f g a) ≡ map_constraint (λ x. f' (f x)) (λ x. g' (g x)) a
  twice (simple p) = refl
  twice (all_of rs) = ap all_of (map-map f' f rs)
  twice (any_of rs) = ap any_of (map-map f' f rs)
  twice (object_of ds o) = ap (λ xs. object_of xs o) (declarations_twice ds)
  twice (list_of es r) = ap₂ list_of (map-map g' g es) (rest_twice r)

module _ (g : ℕ → ℕ) (m k : ℕ) (lower : (p : ℕ) → p < m → g p < k) where
  below_fields : (ds : List (Declaration ℕ)) → Each (λ (d : Declaration ℕ). d.value < m) ds → Each (λ (d : Declaration ℕ). d.value < k) (map (map_declaration g) ds)
  below_fields ds h =
      each_over (map_declaration g) (λ (d : Declaration ℕ). d.value < k) ds (each_map (λ (d : Declaration ℕ). d.value < m) (λ (d : Declaration ℕ). g d.value < k) (λ d. lower d.value) ds h)

  below_rest : (r : Rest ℕ) → RestBelow m r → RestBelow k (map_rest g r)
  below_rest nothing h = tt
  below_rest anything h = tt
  below_rest (each p) h = lower p h

  pub numbers_below : (n : ℕ) (a : Constraint ℕ ℕ) → PartsBelow n m a → PartsBelow n k (map_constraint (λ r. r) g a)
  numbers_below n (simple p) h = tt
  numbers_below n (all_of rs) h = each_over (λ r. r) (λ r. r < n) rs h
  numbers_below n (any_of rs) h = each_over (λ r. r) (λ r. r < n) rs h
  numbers_below n (object_of ds o) h = below_fields ds h
  numbers_below n (list_of es r) h = (each_over g (λ p. p < k) es (each_map (λ p. p < m) (λ p. g p < k) lower es h.0), below_rest r h.1)

module _ (E : Environment) (all : List Rule) (W : List Expression) (rules : List Coded) (inner : List ℕ) (n : AreNumbered E all W rules) (at : AreAt all inner W) where
  long : length inner ≡ length W
  long = sym (length-map inner (rule_at all)) ∙ ap length at.0 ∙ length-map W node

  pub are_placed : ArePlaced (λ x r m. PartsBelow r m (asked_of x)) rules inner
  are_placed = record {
    parts = λ r x e. subst (λ k. PartsBelow r k (asked_of x)) (sym long) (n.parts r x e);
    inside = subst (λ k. Each (λ q. q < k) inner) (sym n.sizes) at.1;
  }

  rule_of_place : (p : ℕ) → p < length W → rule_at all (slice_index inner p) ≡ node (expression_at W p)
  rule_of_place p l = sym (get_or-map (rule_at all) inner p 0 (node (cue.atom cue.top)) (subst (λ k. p < k) (sym long) l)) ∙ ap (λ rs. rule_at rs p) at.0 ∙ get_or-map node W p (cue.atom cue.top) (node (cue.atom cue.top)) l

  pub is_numbering : IsNumbering E all (map (numbered inner) rules)
  is_numbering = record {
    count = length-map rules (numbered inner) ∙ n.sizes;
    asks = λ r c h.
        let x = coded_found (numbered inner) rules r c h in
        let a = asked_of x.0 in
        ap (map_constraint (λ p. p) node) (n.asks r x.0 x.1) ∙ twice (λ p. p) node (rule_at all) (expression_at W) a
        ∙ names_same r (length W) (rule_at all) (rule_at all) (λ p. node (expression_at W p)) (λ p. rule_at all (slice_index inner p)) (λ d l. refl) (λ p l. sym (rule_of_place p l)) a (n.parts r x.0 x.1)
        ∙ sym (twice (rule_at all) (rule_at all) (λ k. k) (slice_index inner) a) ∙ ap (map_constraint (rule_at all) (rule_at all)) x.2;
    below = λ r c h.
        let x = coded_found (numbered inner) rules r c h in
        subst (PartsBelow r (length all)) x.2
        (numbers_below (slice_index inner) (length W) (length all) (λ p l. All-get_or (λ q. q < length all) inner p 0 (subst (λ k. p < k) (sym long) l) (All-from_recursion (λ q. q < length all) inner at.1)) r (asked_of x.0) (n.parts r x.0 x.1));
  }

-- ---- the whole

-- the name of a number is declared
pub declared_at : (E : Environment) (i : ℕ) → i < length E → Contains (declared_names E) (name_of E i)
declared_at E i l = (i, subst (λ n. i < n) (sym (length-map E _)) l, place E i l (name_of E i))
  where
    place : (E : Environment) (i : ℕ) → i < length E → (d : List ℕ) → get_or (declared_names E) i d ≡ name_of E i
    place [] i l d = absurd (omega (arith, l))
    place (x ∷ E) zero l d = refl
    place (x ∷ E) (suc i) l d = place E i (omega (arith, l)) d

-- a declared name has a number
pub number_of : (E : Environment) (n : List ℕ) → On n (declared_names E) → (i : ℕ) × (i < length E) × (name_of E i ≡ n)
number_of [] n o = absurd o
number_of (x ∷ E) n (inl e) = (0, omega arith, sym e)
number_of (x ∷ E) n (inr o) = let k = number_of E n o in let l = k.1 in (suc k.0, omega (arith, l), k.2)

-- the names of numbers are declared
pub all_declared : (E : Environment) (ks : List ℕ) (m : List ℕ) → All (λ k. k < length E) ks → On m (map (name_of E) ks) → On m (declared_names E)
all_declared E [] m a o = absurd o
all_declared E (k ∷ ks) m a (inl e) = subst (λ n. On n (declared_names E)) (sym e) (contains_on (name_of E k) (declared_names E) (declared_at E k (a 0 0 (omega arith))))
all_declared E (k ∷ ks) m a (inr o) = all_declared E ks m (λ i d l. a (suc i) d (omega (arith, l))) o

-- what definitions in any order refer to is among them, where they are all
pub closed_whole : (E : Environment) (ns : List (List ℕ)) → IsPermutation (declared_names E) ns → ((i : ℕ) (m : List ℕ) → i < length E → Contains (referred_of E (name_of E i)) m → On m (declared_names E))
    → (n m : List ℕ) → On n ns → Contains (referred_of E n) m → On m ns
closed_whole E ns p known n m o c =
    let names = declared_names E in
    let k = number_of E n (contains_on n names (Contains-permutation ns names n (IsPermutation-sym names ns p) (on_contains n ns o))) in
    contains_on m ns (Contains-permutation names ns m p (on_contains m names (known k.0 m k.1 (subst (λ x. Contains (referred_of E x) m) (sym k.2) c))))

pub names_perm : (E : Environment) (order : List ℕ) (ds : List (ℕ × ℕ)) → IsPermutation order (map (λ (d : ℕ × ℕ). d.1) ds) → IsPermutation (map (name_of E) order) (names_in E ds)
names_perm E order ds p = subst (IsPermutation (map (name_of E) order)) (map-map (name_of E) (λ (d : ℕ × ℕ). d.1) ds) (IsPermutation-map (name_of E) order (map (λ (d : ℕ × ℕ). d.1) ds) p)

module _ (E : Environment) (names ns : List (List ℕ)) (first : Placement) (last : Numberer Shape Coded) (inner : List ℕ)
    (perm : IsPermutation names ns) (p : ArePlacedBy E ns first) (long : length inner ≡ length last.pending.items)
    (w : PlacesWaiting E (declared_names E) first.numbers.items (flat_map (placed_with E) ns) first.numberer last inner) where
  abbrev placed : List Rule
  placed = flat_map (placed_with E) ns

  abbrev W : List Expression
  W = waiting (declared_names E) last

  wide : length inner ≡ length W
  wide = long ∙ sym (length-map last.pending.items _)

  at_all : AreAt (placed ++ w.more) inner W
  at_all = subst (AreAt (placed ++ w.more) inner) (take_all (length inner) W (omega (arith, wide))) w.inside

  pub placed_all : ∥ ArePlaced (λ x r m. PartsBelow r m (asked_of x)) last.rules.items inner ∥₁
  placed_all = ∣ are_placed E (placed ++ w.more) W last.rules.items inner w.numbered at_all ∣₁

  counted : IsPermutation (rules_of E names) (placed ++ w.more)
  counted =
      let R = rules_in (flat_map (left_with E) ns) in
      joined (flat_map-IsPermutation (rules_of_one E) names ns perm) (joined (IsPermutation-sym (placed ++ R) (rules_of E ns) (whole_of E ns))
      (joined (equal _ _ (ap (λ es. placed ++ rules_in es) (sym p.waits))) (joined w.same
      (equal _ _ (ap (λ es. (placed ++ w.more) ++ rules_in es) (drop_all (length inner) W (omega (arith, wide))) ∙ append-nil (placed ++ w.more))))))

  -- a definition has its number
  number_is : (i : ℕ) → Contains names (name_of E i) → slice_get (placed ++ w.more) (slice_index first.numbers.items i) ≡ Some (definition (name_of E i))
  number_is i on =
      let here : On (name_of E i) ns = contains_on (name_of E i) ns (Contains-permutation names ns (name_of E i) perm on) in
      let known = each_found (IsKnown (declared_names E) first.numbers.items placed) ns (name_of E i) p.known here in
      got_front placed w.more (slice_index first.numbers.items i) (definition (name_of E i)) (known i (names_at E i)).1

  pub rooted : (i : ℕ) → AreReachable E (name_of E i) names → IsRooted E (name_of E i) last.rules.items inner (slice_index first.numbers.items i)
  rooted i reach =
      let itself : Reaches E (name_of E i) (name_of E i) = record { steps = []; chain = tt; last = refl } in
      record {
        all = placed ++ w.more;
        are = record { names = names; reachable = reach; same = counted };
        numbering = is_numbering E (placed ++ w.more) W last.rules.items inner w.numbered at_all;
        root = number_is i ((reach.each (name_of E i)).1 itself);
      }

  pub numbered_whole : names ≡ declared_names E → IsNumberedWhole E last.rules.items inner first.numbers.items
  numbered_whole is = record {
    all = placed ++ w.more;
    are = subst (λ ms. IsPermutation (rules_of E ms) (placed ++ w.more)) is counted;
    numbering = is_numbering E (placed ++ w.more) W last.rules.items inner w.numbered at_all;
    long = p.long;
    each = λ i l. number_is i (subst (λ ms. Contains ms (name_of E i)) (sym is) (declared_at E i l));
  }
