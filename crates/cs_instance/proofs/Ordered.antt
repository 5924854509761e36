-- Definitions numbered by rank.
use Rattle.std.proofs.Common.{◌≡◌, false, true≢false, ℕ, zero, suc, ◌+◌, ◌<◌, ◌≤◌, ◌⊎◌, inl, inr, List, [], ◌∷◌, ◌++◌, Some, map, length, take, get_or, slice_index, Bor, Vec, Global, refl, sym, ap, ap₂, ◌∙◌, subst, append_assoc, arith}
use Rattle.std.specs.Prelude.{slice_get, slice_set, Contains}
use Rattle.std.specs.List.{flat_map, IsDistinct, AllByRecursion as Each}
use Rattle.std.specs.Option.{unwrap_or}
use Rattle.std.specs.Str.{bytes_eq}
use Rattle.std.proofs.lemmas.Bool.{cases_eq, cases_lt}
use Rattle.std.proofs.lemmas.Slice.Eq.{bytes_eq-Decides}
use Rattle.std.proofs.lemmas.Map.Keys.{IsDistinct-head, IsDistinct-tail}
use Rattle.std.proofs.lemmas.List.{get_or-set_same, get_or-set_other, length-set, map-append, take_more, flat_map_more}
use Rattle.std.proofs.lemmas.List.Elements.{All-get_or}
use Rattle.std.proofs.lemmas.List.Elements.{Contains-append_left, Contains-append_right, Contains-append_cases}
use Rattle.cs_document.proofs.Each.{each_map, each_member}
use Rattle.cs_package.specs.Expression as cue
use Rattle.cs_package.specs.Expression.{Expression, Expressions}
use Rattle.cs_package.specs.Environment.{Environment, bodies, declared_names}
use Rattle.cs_package.specs.View.{expression_of, expressions_of}
use Rattle.cs_package.specs.declared.shape.Shape.{Shape}
use Rattle.cs_graph.specs.Chains.{On, Distinct}
use Rattle.cs_guard.specs.References.{direct, direct_all, strong, strong_of}
use Rattle.cs_guard.specs.Reachable.{referred, referred_all, referred_of}
use Rattle.cs_guard.specs.Numbered.{name_of}
use Rattle.cs_rules.specs.declared.numberer.Numberer.{Numberer}
use Rattle.cs_instance.specs.Constraint.{all_of}
use Rattle.cs_instance.specs.Instance.{Rule, definition, node, constraint_of, all_bodies}
use Rattle.cs_instance.specs.Numbering.{rule_at}
use Rattle.cs_instance.specs.declared.rules.Rule.{Rule as Coded}
use Rattle.cs_instance.specs.declared.rules.Rule.TheVariants as coded
use Rattle.cs_instance.specs.declared.numbering.definitions.Placement.{Placement}
use Rattle.cs_instance.specs.Placing.{named_all, waiting, AreNumbered, AreNumberedBy, IsKnown, PlacesAll, placed_by_all, left_by_all, placed_with, left_with, bodies_of}
use Rattle.cs_instance.specs.Ranked.{IsRank, AreRanked, RefersBack, ArePlacedBy, names_in}
use Rattle.cs_guard.proofs.Ways.{direct-strong}
use Rattle.cs_rules.proofs.Lists.{each_push, got_front, got_last}
use Rattle.cs_instance.proofs.Placed.{push, operands_of}

-- ---- names

not_on : (x : List ℕ) (xs : List (List ℕ)) → Each (λ y. bytes_eq x y ≡ false) xs → On x xs → ⊥
not_on x [] h o = absurd o
not_on x (y ∷ ys) h (inl e) = true≢false (sym ((bytes_eq-Decides x y).1 e) ∙ h.0)
not_on x (y ∷ ys) h (inr o) = not_on x ys h.1 o

pub distinct_of : (xs : List (List ℕ)) → IsDistinct bytes_eq xs → Distinct xs
distinct_of [] d = tt
distinct_of (x ∷ xs) d = (not_on x xs (IsDistinct-head bytes_eq x xs d), distinct_of xs (IsDistinct-tail bytes_eq x xs d))

found_on : (xs : List (List ℕ)) (j : ℕ) (n : List ℕ) → ¬ (n ≡ []) → get_or xs j [] ≡ n → On n xs
found_on [] j n some e = absurd (some (sym e))
found_on (x ∷ xs) zero n some e = inl (sym e)
found_on (x ∷ xs) (suc j) n some e = inr (found_on xs j n some e)

pub one_place : (xs : List (List ℕ)) (i j : ℕ) (n : List ℕ) → Distinct xs → ¬ (n ≡ []) → get_or xs i [] ≡ n → get_or xs j [] ≡ n → j ≡ i
one_place [] i j n d some e f = absurd (some (sym e))
one_place (x ∷ xs) zero zero n d some e f = refl
one_place (x ∷ xs) zero (suc j) n d some e f = absurd (d.0 (subst (λ y. On y xs) (sym e) (found_on xs j n some f)))
one_place (x ∷ xs) (suc i) zero n d some e f = absurd (d.0 (subst (λ y. On y xs) (sym f) (found_on xs i n some e)))
one_place (x ∷ xs) (suc i) (suc j) n d some e f = ap suc (one_place xs i j n d.1 some e f)

pub names_at : (E : Environment) (i : ℕ) → get_or (declared_names E) i [] ≡ name_of E i
names_at [] i = refl
names_at (d ∷ E) zero = refl
names_at (d ∷ E) (suc i) = names_at E i

-- ---- one definition more

pub each_found : {X : Type 0} (P : X → Type 0) (xs : List X) (x : X) → Each P xs → On x xs → P x
each_found P [] x h o = absurd o
each_found P (y ∷ ys) x h (inl e) = subst P (sym e) h.0
each_found P (y ∷ ys) x h (inr o) = each_found P ys x h.1 o

flat_push : {X Y : Type 0} (f : X → List Y) (xs : List X) (x : X) → flat_map f (xs ++ x ∷ []) ≡ flat_map f xs ++ f x
flat_push f xs x = sym (flat_map_more f [] xs x)

-- what was known stays so with another number at i
known_set : (names : List (List ℕ)) (numbers new : List ℕ) (placed more : List Rule) (i : ℕ) → length new ≡ length numbers → slice_get (placed ++ more) (slice_index new i) ≡ Some (definition (get_or names i [])) → ((j : ℕ) → ¬ (j ≡ i) → slice_index new j ≡ slice_index numbers j)
    → (m : List ℕ) → IsKnown names numbers placed m → IsKnown names new (placed ++ more) m
known_set names numbers new placed more i long number others m h j e = (subst (λ k. j < k) (sym long) (h j e).0, by (cases_eq j i))
  where
    by : (j ≡ i) ⊎ ¬ (j ≡ i) → slice_get (placed ++ more) (slice_index new j) ≡ Some (definition m)
    by (inl s) = ap (λ k. slice_get (placed ++ more) (slice_index new k)) s ∙ number ∙ ap (λ k. Some (definition k)) (ap (λ k. get_or names k []) (sym s) ∙ e)
    by (inr s) = ap (slice_get (placed ++ more)) (others j s) ∙ got_front placed more (slice_index numbers j) (definition m) (h j e).1

pub placed_more : (E : Environment) (ns : List (List ℕ)) (i k : ℕ) (old new : Placement) (mid : Numberer Shape Coded) (shapes : List Shape) (parts : Vec ℕ Global)
    → i < length E → bodies E (name_of E i) ≡ Some (map (expression_of (declared_names E)) shapes) → ((j : ℕ) → get_or (declared_names E) j [] ≡ name_of E i → j ≡ i)
    → PlacesAll old.numbers.items old.numberer mid (named_all shapes) parts.items → (k ≡ length mid.rules.items) × (new.numberer.rules.items ≡ mid.rules.items ++ coded.All parts ∷ []) → new.numberer.pending ≡ mid.pending
    → new.numbers.items ≡ slice_set old.numbers.items i k → ArePlacedBy E ns old → RefersBack E ns (name_of E i) → ArePlacedBy E (ns ++ name_of E i ∷ []) new
placed_more E ns i k old new mid shapes parts within found only all put kept set p back =
    let n = name_of E i in
    let names = declared_names E in
    let placed = flat_map (placed_with E) ns in
    let numbers = old.numbers.items in
    let later = new.numbers.items in
    let bs = map (expression_of names) shapes in
    let P = placed_by_all (expressions_of bs) in
    let is : bodies_of E n ≡ expressions_of bs = ap (λ o. expressions_of (unwrap_or o [])) found in
    let Q = IsKnown names numbers placed in
    let refs : Each Q (direct_all (bodies_of E n)) = each_member Q (direct_all (bodies_of E n)) (λ m c. each_found Q ns m p.known (back m c)) in
    let w = (all names).1 E placed p.numbered (subst (λ xs. Each Q (direct_all xs)) is refs) in
    let asks : constraint_of E (definition n) ≡ all_of (map (rule_at (placed ++ P)) parts.items) = ap all_bodies found ∙ ap (λ xs. all_of (map node xs)) (sym (operands_of bs)) ∙ ap all_of (sym w.1.0) in
    let one = push E (placed ++ P) (waiting names mid) mid.rules.items w.0 (definition n) (coded.All parts) asks w.1.1 in
    let more = placed ++ placed_with E n in
    let ends : (placed ++ P) ++ definition n ∷ [] ≡ more = append_assoc placed P (definition n ∷ []) ∙ ap (λ xs. placed ++ (placed_by_all xs ++ definition n ∷ [])) (sym is) in
    let whole : more ≡ flat_map (placed_with E) (ns ++ n ∷ []) = sym (flat_push (placed_with E) ns n) in
    let same : waiting names mid ≡ waiting names new.numberer = ap (λ (v : Vec (Bor Shape) Global). map (λ b. expression_of names b.now) v.items) (sym kept) in
    let long : length later ≡ length numbers = ap length set ∙ length-set numbers i k in
    let place : slice_index later i ≡ length (placed ++ P) = ap (λ xs. slice_index xs i) set ∙ get_or-set_same numbers i k 0 (subst (λ m. i < m) (sym p.long) within) ∙ put.0 ∙ w.0.sizes in
    let number : slice_get more (slice_index later i) ≡ Some (definition n) = ap₂ slice_get (sym ends) place ∙ got_last (placed ++ P) (definition n) in
    let others = λ (j : ℕ) (other : ¬ (j ≡ i)). ap (λ xs. slice_index xs j) set ∙ get_or-set_other numbers i j k 0 other in
    let known = known_set names numbers later placed (placed_with E n) i long (number ∙ ap (λ m. Some (definition m)) (sym (names_at E i))) others in
    record {
      long = long ∙ p.long;
      numbered = subst (λ ss. AreNumberedBy E names ss new.numberer) whole (subst (λ es. AreNumbered E more es new.numberer.rules.items) same (subst (λ ss. AreNumbered E ss (waiting names mid) new.numberer.rules.items) ends
          (subst (AreNumbered E ((placed ++ P) ++ definition n ∷ []) (waiting names mid)) (sym put.1) one)));
      waits = sym same ∙ (all names).0 ∙ ap₂ ◌++◌ p.waits (ap left_by_all (sym is)) ∙ sym (flat_push (left_with E) ns n);
      known = subst (λ ss. Each (IsKnown names later ss) (ns ++ n ∷ [])) whole
          (each_push (IsKnown names later more) ns n (each_map Q (IsKnown names later more) known ns p.known)
          (λ j e. let at = only j e in (subst (λ m. m < length later) (sym at) (subst (λ m. i < m) (sym (long ∙ p.long)) within), ap (λ m. slice_get more (slice_index later m)) at ∙ number)));
    }

-- ---- what is referred to has lower rank

mutual
  pub direct-referred : (e : Expression) (m : List ℕ) → Contains (direct e) m → Contains (referred e) m
  direct-referred (cue.reference n) m c = c
  direct-referred (cue.conjunction es) m c = direct-referred_all es m c
  direct-referred (cue.disjunction es) m c = direct-referred_all es m c
  direct-referred (cue.atom a) m c = absurd (let l : c.0 < 0 = c.1 in omega (arith, l))
  direct-referred (cue.kind k) m c = absurd (let l : c.0 < 0 = c.1 in omega (arith, l))
  direct-referred (cue.range a b) m c = absurd (let l : c.0 < 0 = c.1 in omega (arith, l))
  direct-referred (cue.struct ds o) m c = absurd (let l : c.0 < 0 = c.1 in omega (arith, l))
  direct-referred (cue.list es r) m c = absurd (let l : c.0 < 0 = c.1 in omega (arith, l))

  direct-referred_all : (es : Expressions) (m : List ℕ) → Contains (direct_all es) m → Contains (referred_all es) m
  direct-referred_all cue.no_expressions m c = c
  direct-referred_all (cue.expression e es) m c =
      elim (Contains-append_cases (direct e) (direct_all es) m c) [
        | inl h ↦ Contains-append_left (referred e) (referred_all es) m (direct-referred e m h)
        | inr h ↦ Contains-append_right (referred e) (referred_all es) m (direct-referred_all es m h)
      ]

in_bodies : (f : Expression → List (List ℕ)) → ((e : Expression) (m : List ℕ) → Contains (direct e) m → Contains (f e) m) → (bs : List Expression) (m : List ℕ) → Contains (direct_all (expressions_of bs)) m → Contains (flat_map f bs) m
in_bodies f h [] m c = c
in_bodies f h (b ∷ bs) m c =
    elim (Contains-append_cases (direct b) (direct_all (expressions_of bs)) m c) [
      | inl k ↦ Contains-append_left (f b) (flat_map f bs) m (h b m k)
      | inr k ↦ Contains-append_right (f b) (flat_map f bs) m (in_bodies f h bs m k)
    ]

-- an element of a map is at some place
on_place : (f : ℕ × ℕ → List ℕ) (ds : List (ℕ × ℕ)) (m : List ℕ) → On m (map f ds) → (j : ℕ) × (j < length ds) × (f (get_or ds j (0, 0)) ≡ m)
on_place f [] m o = absurd o
on_place f (d ∷ ds) m (inl e) = (0, omega arith, sym e)
on_place f (d ∷ ds) m (inr o) = let p = on_place f ds m o in let l = p.1 in (suc p.0, omega (arith, l), p.2)

on_front : (f : ℕ × ℕ → List ℕ) (ds : List (ℕ × ℕ)) (i j : ℕ) → j < i → j < length ds → On (f (get_or ds j (0, 0))) (map f (take i ds))
on_front f [] i j l b = absurd (omega (arith, b))
on_front f (d ∷ ds) zero j l b = absurd (omega (arith, l))
on_front f (d ∷ ds) (suc i) zero l b = inl refl
on_front f (d ∷ ds) (suc i) (suc j) l b = inr (on_front f ds i j (omega (arith, l)) (omega (arith, b)))

on_at : (f : ℕ × ℕ → List ℕ) (ds : List (ℕ × ℕ)) (j : ℕ) → j < length ds → On (f (get_or ds j (0, 0))) (map f ds)
on_at f [] j b = absurd (omega (arith, b))
on_at f (d ∷ ds) zero b = inl refl
on_at f (d ∷ ds) (suc j) b = inr (on_at f ds j (omega (arith, b)))

module _ (E : Environment) (ds : List (ℕ × ℕ)) (ranked : AreRanked E ds) (i : ℕ) (within : i < length ds) where
  abbrev here : ℕ × ℕ
  here = get_or ds i (0, 0)

  pub rank_here : IsRank E here.1 here.0
  rank_here = All-get_or (λ (d : ℕ × ℕ). IsRank E d.1 d.0) ds i (0, 0) within ranked.ranks

  before : (m : List ℕ) → Contains (strong_of E (name_of E here.1)) m → Contains (referred_of E (name_of E here.1)) m → On m (names_in E (take i ds))
  before m s r =
      let p = on_place (λ d. name_of E d.1) ds m (ranked.closed (name_of E here.1) m (on_at (λ d. name_of E d.1) ds i within) r) in
      let rank = All-get_or (λ (d : ℕ × ℕ). IsRank E d.1 d.0) ds p.0 (0, 0) p.1 ranked.ranks in
      let q = get_or ds p.0 (0, 0) in
      let lower : q.0 < here.0 = rank_here.falls (name_of E q.1) q.0 (subst (Contains (strong_of E (name_of E here.1))) (sym p.2) s) rank.height in
      subst (λ n. On n (names_in E (take i ds))) p.2 (on_front (λ d. name_of E d.1) ds i p.0 (earlier p.0 q.0 (cases_lt p.0 i) lower (λ l. ranked.sorted i p.0 (0, 0) l p.1)) p.1)
    where
      earlier : (j r : ℕ) → (j < i) ⊎ (i ≤ j) → r < here.0 → (i ≤ j → here.0 ≤ r) → j < i
      earlier j r (inl l) lower sorted = l
      earlier j r (inr l) lower sorted = absurd (let k = sorted l in omega (arith, lower, k))

  -- what the bodies refer to directly is before
  pub back_here : RefersBack E (names_in E (take i ds)) (name_of E here.1)
  back_here m c = let bs = unwrap_or (bodies E (name_of E here.1)) [] in before m (in_bodies strong direct-strong bs m c) (in_bodies referred direct-referred bs m c)

  pub names_more : names_in E (take (i + 1) ds) ≡ names_in E (take i ds) ++ name_of E here.1 ∷ []
  names_more = ap (names_in E) (take_more ds i (0, 0) within) ∙ map-append (λ (d : ℕ × ℕ). name_of E d.1) (take i ds) (here ∷ [])
