-- Definitions numbered by rank.
use Rattle.std.proofs.Common.{◌≡◌, ℕ, zero, suc, ◌+◌, ◌<◌, ◌≤◌, ◌⊎◌, inl, inr, Bool, true, false, List, [], ◌∷◌, ◌++◌, Option, Some, None, option_map, map, length, take, get_or, String, Global, string_bytes, string_cmp, nat_cmp, bytes_eq, is_eq, Less, refl, sym, ap, ◌∙◌, subst, arith, if◌then◌else◌, IsTrue}
use Rattle.std.specs.Prelude.{option_to_list, Contains}
use Rattle.std.specs.Cmp.Lexicographic.{slice_cmp}
use Rattle.std.specs.List.{All, flat_map, list_any, AllByRecursion as Each}
use Rattle.std.specs.List.Sorted.{IsPermutation, IsNonDecreasingBy, IsStrictlySortedBy}
use Rattle.std.specs.Map.{keys_of}
use Rattle.std.specs.Option.{option_map_or}
use Rattle.std.proofs.lemmas.Bool.{cases_lt}
use Rattle.std.proofs.lemmas.List.{map-append, take_more, length-map, get_or-map, flat_map_more}
use Rattle.std.proofs.lemmas.List.Elements.{All-contains, All-from_recursion, All-get_or, Contains-append_left, Contains-push}
use Rattle.std.proofs.lemmas.List.Folds.{list_any_at}
use Rattle.std.proofs.lemmas.List.Sorted.{IsPermutation-map, Contains-permutation}
use Rattle.std.proofs.lemmas.Map.Keys.{sorted_head, sorted_tail}
use Rattle.std.proofs.lemmas.Map.Text.{is_eq-slice_cmp}
use Rattle.std.proofs.lemmas.Simd.{map-map}
use Rattle.std.proofs.lemmas.Slice.Eq.{bytes_eq-Decides}
use Rattle.cs_document.specs.Document.{Document, Entry, under}
use Rattle.cs_document.proofs.Each.{each_map, each_member}
use Rattle.cs_profile.specs.Keywords.{defined}
use Rattle.cs_profile.specs.Loops.{direct_names, RefersDirectly, IsRank}
use Rattle.cs_profile.specs.SchemaDocument.{SchemaValue, schema_view, document_of, definition_of, IsWhole}
use Rattle.cs_profile.specs.declared.schema.Schema.{Schema}
use Rattle.cs_profile.proofs.Definitions.{defined_definition}
use Rattle.cs_validate.specs.Numbering.{schema_at}
use Rattle.cs_validate.specs.Placing.{AreNumberedBy, Numbers, number_in, IsKnown, placed_by, left_by}
use Rattle.cs_validate.specs.Ranked.{definitions_of, name_of, schema_of, definition, IsRanked, AreRanked, PlacesOne, ArePlacedBy}
use Rattle.cs_validate.specs.declared.numbering.definitions.Placement.{Placement}
use Rattle.cs_validate.specs.declared.numbering.definitions.Ranked.{Ranked}
use Rattle.cs_rules.proofs.Lists.{each_push}
use Rattle.cs_validate.proofs.Placed.{known_more}

-- ---- a definition is under its name

apart : (s t : String Global) → string_cmp t s ≡ Less → bytes_eq (string_bytes s) (string_bytes t) ≡ false
apart s t l = by (bytes_eq (string_bytes s) (string_bytes t)) refl
  where
    by : (b : Bool) → bytes_eq (string_bytes s) (string_bytes t) ≡ b → b ≡ false
    by false e = refl
    by true e =
        let same : string_bytes t ≡ string_bytes s = sym ((bytes_eq-Decides (string_bytes s) (string_bytes t)).0 e) in
        let no : is_eq (slice_cmp nat_cmp (string_bytes t) (string_bytes s)) ≡ false = ap is_eq l in
        let yes : is_eq (slice_cmp nat_cmp (string_bytes t) (string_bytes s)) ≡ true = is_eq-slice_cmp (string_bytes t) (string_bytes s) ∙ (bytes_eq-Decides (string_bytes t) (string_bytes s)).1 same in cc

in_middle : {K X : Type 0} (P : K → Type 0) (front back : List (K × X)) (k : K) (x : X) → Each P (keys_of (front ++ (k, x) ∷ back)) → P k
in_middle P [] back k x h = h.0
in_middle P (f ∷ front) back k x h = in_middle P front back k x h.1

pub under_name : (front back : List (String Global × Schema)) (s : String Global) (x : Schema) → IsStrictlySortedBy string_cmp (keys_of (front ++ (s, x) ∷ back))
    → under (string_bytes s) (map (λ (m : String Global × Schema). (string_bytes m.0, schema_view m.1)) (front ++ (s, x) ∷ back)) ≡ Some (schema_view x)
under_name [] back s x h = rw ((bytes_eq-Decides (string_bytes s) (string_bytes s)).1 refl) refl
under_name (f ∷ front) back s x h =
    let first = in_middle (λ y. string_cmp f.0 y ≡ Less) front back s x (sorted_head string_cmp f.0 (keys_of (front ++ (s, x) ∷ back)) h) in
    rw (apart s f.0 first) (under_name front back s x (sorted_tail string_cmp f.0 (keys_of (front ++ (s, x) ∷ back)) h))

pub found_there : (v : SchemaValue) → IsWhole v → (front back : List (String Global × Schema)) (s : String Global) (x : Schema) → v.definitions ≡ front ++ (s, x) ∷ back → IsStrictlySortedBy string_cmp (keys_of v.definitions)
    → definition_of v (string_bytes s) ≡ Some (schema_view x)
found_there v whole front back s x is sorted =
    ap (λ es. under (string_bytes s) (map (λ (m : String Global × Schema). (string_bytes m.0, schema_view m.1)) es)) is
    ∙ under_name front back s x (subst (λ es. IsStrictlySortedBy string_cmp (keys_of es)) is sorted)

-- ---- all definitions, by rank

under_contains : {A : Type 0} (n : List ℕ) (es : List (Entry A)) (a : A) → under n es ≡ Some a → Contains (map (λ e. e.0) es) n
under_contains n [] a h = cc
under_contains {A} n (e ∷ es) a h = by (bytes_eq n e.0) refl (under_contains n es a) h
  where
    by : (b : Bool) → bytes_eq n e.0 ≡ b → (under n es ≡ Some a → Contains (map (λ (f : Entry A). f.0) es) n) → (if b then Some e.1 else under n es) ≡ Some a → Contains (e.0 ∷ map (λ (f : Entry A). f.0) es) n
    by true q next h = (0, omega arith, sym ((bytes_eq-Decides n e.0).0 q))
    by false q next h = let c = next h in let l = c.1 in (suc c.0, omega (arith, l), c.2)

pub are_ranked : (v : SchemaValue) → IsWhole v → (ds : List Ranked) → IsPermutation (definitions_of v) (map definition ds) → All (IsRanked (document_of v)) ds → IsNonDecreasingBy (λ (d : Ranked). d.rank) ds → AreRanked (document_of v) ds
are_ranked v whole ds perm ranks sorted = record {
  ranks = ranks;
  sorted = sorted;
  all = λ n. by n (defined (document_of v) n) refl;
}
  where
    by : (n : List ℕ) (o : Option Document) → defined (document_of v) n ≡ o → Contains (map name_of ds) n ⊎ (defined (document_of v) n ≡ None)
    by n None e = inr e
    by n (Some s) e =
        let key : Entry Document → List ℕ = λ f. f.0 in
        let here = under_contains n (definitions_of v) s (sym (defined_definition v whole n) ∙ e) in
        inl (subst (λ ns. Contains ns n) (map-map key definition ds) (Contains-permutation (map key (definitions_of v)) (map key (map definition ds)) n (IsPermutation-map key (definitions_of v) (map definition ds) perm) here))

-- ---- numbers by name

each_contains : {X : Type 0} (P : X → Type 0) (xs : List X) (x : X) → Each P xs → Contains xs x → P x
each_contains P xs x h c = All-contains P xs x (All-from_recursion P xs h) c

-- the number, if there is one, is that of the definition
abbrev KnownBy : Document → List Document → List ℕ → Option ℕ → Type 0
KnownBy R placed n o = (option_map (schema_at placed) o ≡ defined R n) × Each (λ k. k < length placed) (option_to_list o)

known_or : (R : Document) (numbers : Numbers) (placed : List Document) (ns : List (List ℕ)) (m : List ℕ) → Each (IsKnown R numbers placed) ns → Contains ns m ⊎ (number_in numbers m ≡ None) → Contains ns m ⊎ (defined R m ≡ None) → IsKnown R numbers placed m
known_or R numbers placed ns m known (inl c) d = each_contains (IsKnown R numbers placed) ns m known c
known_or R numbers placed ns m known (inr none) (inl c) = each_contains (IsKnown R numbers placed) ns m known c
known_or R numbers placed ns m known (inr none) (inr undefined) = subst (KnownBy R placed m) (sym none) (sym undefined, tt)

-- what is numbered with definitions
abbrev pub placed_with : List Ranked → List Document
placed_with ds = flat_map placed_by (map schema_of ds)

pub all_known : (R : Document) (ds : List Ranked) (p : Placement) → AreRanked R ds → ArePlacedBy R ds p → (n : List ℕ) → IsKnown R p.numbers (placed_with ds) n
all_known R ds p ranked all n = known_or R p.numbers (placed_with ds) (map name_of ds) n all.known (all.others n) (ranked.all n)

-- ---- one definition more

flat_push : (f : Document → List Document) (ds : List Ranked) (d : Ranked) → flat_map f (map schema_of (ds ++ d ∷ [])) ≡ flat_map f (map schema_of ds) ++ f (schema_of d)
flat_push f ds d = ap (flat_map f) (map-append schema_of ds (d ∷ [])) ∙ sym (flat_map_more f [] (map schema_of ds) (schema_of d))

module _ (R : Document) (ds : List Ranked) (d : Ranked) (old new : Placement) (ranked : IsRanked R d)
    (refs : Each (IsKnown R old.numbers (placed_with ds)) (direct_names (schema_of d))) (all : ArePlacedBy R ds old) (one : PlacesOne d old new) where
  abbrev n : List ℕ
  n = name_of d

  abbrev s : Document
  s = schema_of d

  abbrev more : List Document
  more = placed_with ds ++ placed_by s

  w : AreNumberedBy R more new.numberer × ((map (schema_at more) (one.number ∷ []) ≡ s ∷ []) × Each (λ k. k < length more) (one.number ∷ []))
  w = one.placed.1 R (placed_with ds) all.numbered refs

  looked : (m : List ℕ) (b : Bool) → bytes_eq n m ≡ b → number_in new.numbers m ≡ (if b then Some one.number else number_in old.numbers m)
  looked m b e = one.named m ∙ ap (λ t. if t then Some one.number else number_in old.numbers m) e

  mine : KnownBy R more n (Some one.number)
  mine = (ap Some (first (schema_at more one.number) s w.1.0) ∙ sym ranked.found, w.1.1)
    where
      first : (x y : Document) → x ∷ [] ≡ y ∷ [] → x ≡ y
      first x y e = cc

  kept : (m : List ℕ) → IsKnown R old.numbers (placed_with ds) m → (b : Bool) → bytes_eq n m ≡ b → IsKnown R new.numbers more m
  kept m h true e = subst (KnownBy R more m) (sym (looked m true e)) (subst (λ k. KnownBy R more k (Some one.number)) ((bytes_eq-Decides n m).0 e) mine)
  kept m h false e = subst (KnownBy R more m) (sym (looked m false e)) (known_more R old.numbers (placed_with ds) (placed_by s) m h)

  other : (m : List ℕ) → Contains (map name_of ds) m ⊎ (number_in old.numbers m ≡ None) → (b : Bool) → bytes_eq n m ≡ b → Contains (map name_of ds ++ n ∷ []) m ⊎ (number_in new.numbers m ≡ None)
  other m (inl c) b e = inl (Contains-append_left (map name_of ds) (n ∷ []) m c)
  other m (inr none) true e = inl (subst (Contains (map name_of ds ++ n ∷ [])) ((bytes_eq-Decides n m).0 e) (Contains-push (map name_of ds) n))
  other m (inr none) false e = inr (looked m false e ∙ none)

  pub placed_more : ArePlacedBy R (ds ++ d ∷ []) new
  placed_more =
      let whole : more ≡ placed_with (ds ++ d ∷ []) = sym (flat_push placed_by ds d) in
      let names : map name_of ds ++ n ∷ [] ≡ map name_of (ds ++ d ∷ []) = sym (map-append name_of ds (d ∷ [])) in
      let itself : IsKnown R new.numbers more n = subst (KnownBy R more n) (sym (looked n true ((bytes_eq-Decides n n).1 refl))) mine in
      let known = each_push (IsKnown R new.numbers more) (map name_of ds) n (each_map (IsKnown R old.numbers (placed_with ds)) (IsKnown R new.numbers more) (λ m h. kept m h (bytes_eq n m) refl) (map name_of ds) all.known) itself in record {
        numbered = subst (λ ss. AreNumberedBy R ss new.numberer) whole w.0;
        waits = one.placed.0 ∙ ap (λ xs. xs ++ left_by s) all.waits ∙ sym (flat_push left_by ds d);
        known = subst (λ ss. Each (IsKnown R new.numbers ss) (map name_of (ds ++ d ∷ []))) whole (subst (Each (IsKnown R new.numbers more)) names known);
        others = λ m. subst (λ ns. Contains ns m ⊎ (number_in new.numbers m ≡ None)) names (other m (all.others m) (bytes_eq n m) refl);
      }

-- ---- what is referred to has lower rank

-- an element stands among the first
in_front : {X Y : Type 0} (f : X → Y) (xs : List X) (i j : ℕ) (d : X) → j < i → j < length xs → Contains (map f (take i xs)) (f (get_or xs j d))
in_front f [] i j d l b = absurd (omega (arith, b))
in_front f (x ∷ xs) zero j d l b = absurd (omega (arith, l))
in_front f (x ∷ xs) (suc i) zero d l b = (0, omega arith, refl)
in_front f (x ∷ xs) (suc i) (suc j) d l b = let c = in_front f xs i j d (omega (arith, l)) (omega (arith, b)) in let k = c.1 in (suc c.0, omega (arith, k), c.2)

module _ (R : Document) (ds : List Ranked) (ranked : AreRanked R ds) (i : ℕ) (d : Ranked) (within : i < length ds) (is : d ≡ get_or ds i d) where
  pub ranked_here : IsRanked R d
  ranked_here = subst (IsRanked R) (sym is) (All-get_or (IsRanked R) ds i d within ranked.ranks)

  -- it is before
  before : (m : List ℕ) → Contains (direct_names (schema_of d)) m → Contains (map name_of ds) m → Contains (map name_of (take i ds)) m
  before m c on =
      let j = on.0 in
      let inside : j < length ds = let l = on.1 in omega (arith, l, length-map ds name_of) in
      let e = get_or ds j d in
      let named : name_of e ≡ m = sym (get_or-map name_of ds j d m inside) ∙ on.2 in
      let other = All-get_or (IsRanked R) ds j d inside ranked.ranks in
      let met : list_any (bytes_eq m) (direct_names (schema_of d)) ≡ true = list_any_at (bytes_eq m) (direct_names (schema_of d)) c.0 m c.1 ((bytes_eq-Decides m (get_or (direct_names (schema_of d)) c.0 m)).1 (sym c.2)) in
      let refers : RefersDirectly R (name_of d) m = subst (λ o. IsTrue (list_any (bytes_eq m) (option_map_or direct_names o []))) (sym ranked_here.found) met in
      let lower : e.rank < d.rank = ranked_here.falls m e.rank refers (subst (λ k. IsRank R k e.rank) named other.height) in
      subst (Contains (map name_of (take i ds))) named (in_front name_of ds i j d (earlier j e.rank (cases_lt j i) lower (λ l. subst (λ (f : Ranked). f.rank ≤ e.rank) (sym is) (ranked.sorted i j d l inside))) inside)
    where
      earlier : (j r : ℕ) → (j < i) ⊎ (i ≤ j) → r < d.rank → (i ≤ j → d.rank ≤ r) → j < i
      earlier j r (inl l) lower sorted = l
      earlier j r (inr l) lower sorted = absurd (let k = sorted l in omega (arith, lower, k))

  -- what it refers to directly is known
  pub known_here : (p : Placement) → ArePlacedBy R (take i ds) p → Each (IsKnown R p.numbers (placed_with (take i ds))) (direct_names (schema_of d))
  known_here p all =
      each_member (IsKnown R p.numbers (placed_with (take i ds))) (direct_names (schema_of d))
      (λ m c. known_or R p.numbers (placed_with (take i ds)) (map name_of (take i ds)) m all.known (all.others m) (by m c (ranked.all m)))
    where
      by : (m : List ℕ) → Contains (direct_names (schema_of d)) m → Contains (map name_of ds) m ⊎ (defined R m ≡ None) → Contains (map name_of (take i ds)) m ⊎ (defined R m ≡ None)
      by m c (inl on) = inl (before m c on)
      by m c (inr u) = inr u

  pub one_taken : take (i + 1) ds ≡ take i ds ++ d ∷ []
  one_taken = take_more ds i d within ∙ ap (λ x. take i ds ++ x ∷ []) (sym is)
