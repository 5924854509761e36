-- The ranks of definitions are the heights of their numbers, and a cycle of numbers is a loop of names.
use Rattle.std.proofs.Common.{◌≡◌, ℕ, zero, suc, ◌+◌, ◌<◌, ◌≤◌, Bool, true, false, ◌||◌, List, [], ◌∷◌, ◌++◌, inl, inr, map, length, get_or, slice_get, Option, Some, None, is_some, String, Global, string_bytes, string_cmp, nat_cmp, bytes_eq, is_eq, Ordering, Less, refl, sym, ap, ◌∙◌, subst, arith, if◌then◌else◌}
use Rattle.std.specs.Prelude.{option_to_list}
use Rattle.std.specs.Option.{option_map_or}
use Rattle.std.specs.Cmp.Lexicographic.{slice_cmp}
use Rattle.std.specs.BTreeMap.{is_at}
use Rattle.std.specs.Map.{keys_of, lookup}
use Rattle.std.specs.Str.{bytes_eq as same_bytes}
use Rattle.std.specs.List.{list_any, AllByRecursion as Each}
use Rattle.std.specs.List.Sorted.{IsStrictlySortedBy}
use Rattle.std.proofs.Math.ListN.{length-map}
use Rattle.std.proofs.lemmas.Map.Keys.{Less-from_sorted}
use Rattle.std.proofs.lemmas.Map.Text.{is_eq-slice_cmp}
use Rattle.std.proofs.lemmas.Option.{slice_get_within, same_Some}
use Rattle.std.proofs.lemmas.Slice.Eq.{bytes_eq-Decides}
use Rattle.cs_document.specs.Document.{Document, Entry, under}
use Rattle.cs_graph.specs.Chains.{On, Distinct, NoCycle}
use Rattle.cs_graph.specs.Graph.{Graph, Refers, IsLowestFirst, IsLowestCycle, AreHeights}
use Rattle.cs_graph.proofs.Named.{StandsFor, height_named, no_cycle_named, closed_named, closed_inside, distinct_named, distinct_by}
use Rattle.cs_profile.specs.Keywords.{defined}
use Rattle.cs_profile.specs.Loops.{direct_names, RefersDirectly, NoLoop, IsRank}
use Rattle.cs_profile.specs.Numbered.{by_text, names_in, numbered, numbers_of, rows_of, name_of_number, number_of_name, AreRanks}
use Rattle.cs_profile.specs.Refusal.{LeastFirst, IsLeastLoop}
use Rattle.cs_profile.specs.SchemaDocument.{SchemaValue, schema_view, document_of, definition_of, IsWellFormed}
use Rattle.cs_profile.specs.declared.keyword.Vocabulary.TheVariants as vocabulary
use Rattle.cs_profile.specs.declared.schema.Schema.{Schema}
use Rattle.cs_profile.proofs.Defined.{names_defined}
use Rattle.cs_profile.proofs.Definitions.{defined_bare}
use Rattle.cs_profile.proofs.Pushes.{looked_up}

-- ---- places in lists

mapped_at : {X Y : Type 0} (f : X → Y) (xs : List X) (i : ℕ) (x : X) → slice_get xs i ≡ Some x → slice_get (map f xs) i ≡ Some (f x)
mapped_at f [] i x e = cc
mapped_at f (y ∷ xs) zero x e = ap (λ z. Some (f z)) (same_Some y x e)
mapped_at f (y ∷ xs) (suc i) x e = mapped_at f xs i x e

mapped_from : {X Y : Type 0} (f : X → Y) (xs : List X) (i : ℕ) (y : Y) → slice_get (map f xs) i ≡ Some y → (x : X) × (slice_get xs i ≡ Some x) × (f x ≡ y)
mapped_from f [] i y e = cc
mapped_from f (x ∷ xs) zero y e = (x, refl, same_Some (f x) y e)
mapped_from f (x ∷ xs) (suc i) y e = mapped_from f xs i y e

item_at : {X : Type 0} (xs : List X) (i : ℕ) → i < length xs → (x : X) × (slice_get xs i ≡ Some x)
item_at [] i l = absurd (omega (arith, l))
item_at (x ∷ xs) zero l = (x, refl)
item_at (x ∷ xs) (suc i) l = item_at xs i (omega (arith, l))

read_at : {X : Type 0} (xs : List X) (i : ℕ) (x d : X) → slice_get xs i ≡ Some x → get_or xs i d ≡ x
read_at [] i x d e = cc
read_at (y ∷ xs) zero x d e = same_Some y x e
read_at (y ∷ xs) (suc i) x d e = read_at xs i x d e

pub same_read : {X : Type 0} (xs : List X) (i : ℕ) (d e : X) → i < length xs → get_or xs i d ≡ get_or xs i e
same_read [] i d e l = absurd (omega (arith, l))
same_read (x ∷ xs) zero d e l = refl
same_read (x ∷ xs) (suc i) d e l = same_read xs i d e (omega (arith, l))

-- what is under a key has a place, and what has a place is under its key, or something else is
place_under : {A : Type 0} (es : List (Entry A)) (n : List ℕ) (a : A) → under n es ≡ Some a → (i : ℕ) × (slice_get es i ≡ Some (n, a))
place_under [] n a e = cc
place_under {A} (f ∷ es) n a e = by (bytes_eq n f.0) refl (place_under es n a) e
  where
    by : (b : Bool) → bytes_eq n f.0 ≡ b → (under n es ≡ Some a → (i : ℕ) × (slice_get es i ≡ Some (n, a))) → (if b then Some f.1 else under n es) ≡ Some a → (i : ℕ) × (slice_get (f ∷ es) i ≡ Some (n, a))
    by true q next e =
        let key : f.0 ≡ n = sym ((bytes_eq-Decides n f.0).0 q) in
        let value : f.1 ≡ a = same_Some f.1 a e in
        (0, ap (λ k. Some (k, f.1)) key ∙ ap (λ v. Some (n, v)) value)
    by false q next e = let r = next e in (suc r.0, r.1)

under_place : {A : Type 0} (es : List (Entry A)) (i : ℕ) (n : List ℕ) (a : A) → slice_get es i ≡ Some (n, a) → (b : A) × (under n es ≡ Some b)
under_place [] i n a e = cc
under_place {A} (f ∷ es) zero n a e =
    let key : f.0 ≡ n = ap (λ (p : Entry A). p.0) (same_Some f (n, a) e) in
    let yes : bytes_eq n f.0 ≡ true = (bytes_eq-Decides n f.0).1 (sym key) in
    (f.1, ap (λ t. if t then Some f.1 else under n es) yes)
under_place {A} (f ∷ es) (suc i) n a e = by (bytes_eq n f.0) (under_place es i n a e)
  where
    by : (t : Bool) → (b : A) × (under n es ≡ Some b) → (b : A) × ((if t then Some f.1 else under n es) ≡ Some b)
    by true next = (f.1, refl)
    by false next = next

-- ---- what is in a list

any_on : (m : List ℕ) (ns : List (List ℕ)) → On m ns → list_any (same_bytes m) ns ≡ true
any_on m [] o = absurd o
any_on m (n ∷ ns) (inl e) = ap (λ b. b || list_any (same_bytes m) ns) ((bytes_eq-Decides m n).1 e)
any_on m (n ∷ ns) (inr o) = by (same_bytes m n) (any_on m ns o)
  where
    by : (b : Bool) → list_any (same_bytes m) ns ≡ true → (b || list_any (same_bytes m) ns) ≡ true
    by true h = refl
    by false h = h

pub on_any : (m : List ℕ) (ns : List (List ℕ)) → list_any (same_bytes m) ns ≡ true → On m ns
on_any m [] h = cc
on_any m (n ∷ ns) h = by (same_bytes m n) refl (on_any m ns) h
  where
    by : (b : Bool) → same_bytes m n ≡ b → (list_any (same_bytes m) ns ≡ true → On m ns) → (b || list_any (same_bytes m) ns) ≡ true → On m (n ∷ ns)
    by true q next h = inl ((bytes_eq-Decides m n).0 q)
    by false q next h = inr (next h)

each_on : (P : List ℕ → Type 0) (ns : List (List ℕ)) (m : List ℕ) → Each P ns → On m ns → P m
each_on P [] m h o = absurd o
each_on P (n ∷ ns) m h (inl e) = subst P (sym e) h.0
each_on P (n ∷ ns) m h (inr o) = each_on P ns m h.1 o

-- ---- numbers

numbered_from : (k : ℕ) (ns : List (List ℕ)) (i : ℕ) (n : List ℕ) (j : ℕ) → slice_get (numbered k ns) i ≡ Some (n, j) → (slice_get ns i ≡ Some n) × (j ≡ k + i)
numbered_from k [] i n j e = cc
numbered_from k (m ∷ ns) zero n j e =
    let same = same_Some (m, k) (n, j) e in
    (ap (λ (p : Entry ℕ). Some p.0) same, let at : k ≡ j = ap (λ (p : Entry ℕ). p.1) same in omega (arith, at))
numbered_from k (m ∷ ns) (suc i) n j e = let r = numbered_from (suc k) ns i n j e in (r.0, let at = r.1 in omega (arith, at))

numbered_at : (k : ℕ) (ns : List (List ℕ)) (i : ℕ) (n : List ℕ) → slice_get ns i ≡ Some n → slice_get (numbered k ns) i ≡ Some (n, k + i)
numbered_at k [] i n e = cc
numbered_at k (m ∷ ns) zero n e = let at : k ≡ k + 0 = omega arith in ap (λ z. Some (z, k)) (same_Some m n e) ∙ ap (λ z. Some (n, z)) at
numbered_at k (m ∷ ns) (suc i) n e = let at : suc k + i ≡ k + suc i = omega arith in numbered_at (suc k) ns i n e ∙ ap (λ z. Some (n, z)) at

-- the name of a number
pub named_number : (ns : List (List ℕ)) (n : List ℕ) (j : ℕ) → under n (numbered 0 ns) ≡ Some j → slice_get ns j ≡ Some n
named_number ns n j e =
    let p = place_under (numbered 0 ns) n j e in
    let f = numbered_from 0 ns p.0 n j p.1 in
    let at : p.0 ≡ j = let l = f.1 in omega (arith, l) in
    ap (slice_get ns) (sym at) ∙ f.0

numbers_on : (es : List (Entry ℕ)) (ns : List (List ℕ)) (j : ℕ) → On j (numbers_of es ns) → (m : List ℕ) × On m ns × (under m es ≡ Some j)
numbers_on es [] j o = absurd o
numbers_on es (n ∷ ns) j o = by (under n es) refl (λ p. let next = numbers_on es ns j p in (next.0, inr next.1, next.2)) o
  where
    by : (r : Option ℕ) → under n es ≡ r → (On j (numbers_of es ns) → (m : List ℕ) × On m (n ∷ ns) × (under m es ≡ Some j)) → On j (option_to_list r ++ numbers_of es ns) → (m : List ℕ) × On m (n ∷ ns) × (under m es ≡ Some j)
    by None e next o = next o
    by (Some k) e next (inl s) = (n, inl refl, e ∙ ap Some (sym s))
    by (Some k) e next (inr o) = next o

on_numbers : (es : List (Entry ℕ)) (ns : List (List ℕ)) (m : List ℕ) (j : ℕ) → On m ns → under m es ≡ Some j → On j (numbers_of es ns)
on_numbers es [] m j o e = absurd o
on_numbers es (n ∷ ns) m j o e = by (under n es) refl (λ p. on_numbers es ns m j p e) o
  where
    by : (r : Option ℕ) → under n es ≡ r → (On m ns → On j (numbers_of es ns)) → On m (n ∷ ns) → On j (option_to_list r ++ numbers_of es ns)
    by None q next (inl s) = let same : under m es ≡ None = ap (λ z. under z es) s ∙ q in cc
    by None q next (inr o) = next o
    by (Some k) q next (inl s) = let same : Some k ≡ Some j = sym q ∙ ap (λ z. under z es) (sym s) ∙ e in inl (sym (same_Some k j same))
    by (Some k) q next (inr o) = inr (next o)

-- ---- names in byte order

less_apart : (n : List ℕ) → slice_cmp nat_cmp n n ≡ Less → ⊥
less_apart n e =
    let no : is_eq (slice_cmp nat_cmp n n) ≡ false = ap is_eq e in
    let yes : is_eq (slice_cmp nat_cmp n n) ≡ true = is_eq-slice_cmp n n ∙ (bytes_eq-Decides n n).1 refl in cc

sorted_names : {X : Type 0} (es : List (String Global × X)) → IsStrictlySortedBy string_cmp (keys_of es) → IsStrictlySortedBy (slice_cmp nat_cmp) (names_in es)
unfolding IsStrictlySortedBy
sorted_names [] h = tt
sorted_names {X} (e ∷ es) h = (above es h.0, sorted_names es h.1)
  where
    above : (fs : List (String Global × X)) → Each (λ y. string_cmp e.0 y ≡ Less) (keys_of fs) → Each (λ y. slice_cmp nat_cmp (string_bytes e.0) y ≡ Less) (names_in fs)
    above [] a = tt
    above (f ∷ fs) a = (a.0, above fs a.1)

module _ (ns : List (List ℕ)) (sorted : IsStrictlySortedBy (slice_cmp nat_cmp) ns) where
  abbrev at : ℕ → List ℕ
  at i = get_or ns i []

  less_at : (i j : ℕ) → i < j → j < length ns → slice_cmp nat_cmp (at i) (at j) ≡ Less
  less_at i j l within = Less-from_sorted (slice_cmp nat_cmp) ns i j [] sorted l within

  once_at : (i j : ℕ) → i < length ns → j < length ns → at i ≡ at j → i ≡ j
  once_at i j a b e = by (nat_cmp i j) refl
    where
      lower : i < j → ⊥
      lower l = less_apart (at j) (ap (λ n. slice_cmp nat_cmp n (at j)) (sym e) ∙ less_at i j l b)

      higher : j < i → ⊥
      higher l = less_apart (at i) (ap (λ n. slice_cmp nat_cmp n (at i)) e ∙ less_at j i l a)

      by : (o : Ordering) → nat_cmp i j ≡ o → i ≡ j
      by o q = omega (arith, lower, higher)

  once_get : (i j : ℕ) (n : List ℕ) → slice_get ns i ≡ Some n → slice_get ns j ≡ Some n → i ≡ j
  once_get i j n e f = once_at i j (slice_get_within ns i n e) (slice_get_within ns j n f) (read_at ns i n [] e ∙ sym (read_at ns j n [] f))

  -- the number of a name
  number_at : (n : List ℕ) (j : ℕ) → slice_get ns j ≡ Some n → under n (numbered 0 ns) ≡ Some j
  number_at n j e =
      let r = under_place (numbered 0 ns) j n (0 + j) (numbered_at 0 ns j n e) in
      let same : r.0 ≡ j = once_get r.0 j n (named_number ns n r.0 r.1) e in
      r.1 ∙ ap Some same

  -- the lowest number has the least name
  least_named : (i : ℕ) (js : List ℕ) → ((j : ℕ) → On j (i ∷ js) → j < length ns) → Distinct (i ∷ js) → IsLowestFirst (i ∷ js) → LeastFirst (map at (i ∷ js))
  least_named i js inside d low = all js (λ j o. inside j (inr o)) (λ o. d.0 o) low
    where
      all : (js : List ℕ) → ((j : ℕ) → On j js → j < length ns) → (On i js → ⊥) → ((m : ℕ) → On m js → i ≤ m) → Each (λ m. slice_cmp nat_cmp (at i) m ≡ Less) (map at js)
      all [] inside apart low = tt
      all (j ∷ js) inside apart low = (less_at i j (strictly j (low j (inl refl)) (λ e. apart (inl e))) (inside j (inl refl)), all js (λ k o. inside k (inr o)) (λ o. apart (inr o)) (λ k o. low k (inr o)))
        where
          strictly : (j : ℕ) → i ≤ j → (i ≡ j → ⊥) → i < j
          strictly j l n = omega (arith, l, n)

-- ---- the definitions of a schema document

module _ (v : SchemaValue) (well : IsWellFormed v) (sorted : IsStrictlySortedBy string_cmp (keys_of v.definitions)) where
  abbrev root : Document
  root = document_of v

  abbrev names : List (List ℕ)
  names = names_in v.definitions

  abbrev graph : Graph
  graph = rows_of (numbered 0 names) v.definitions

  abbrev name : ℕ → List ℕ
  name = name_of_number v.definitions

  in_order : IsStrictlySortedBy (slice_cmp nat_cmp) names
  in_order = sorted_names v.definitions sorted

  abbrev shown : String Global × Schema → Entry Document
  shown d = (string_bytes d.0, schema_view d.1)

  abbrev row : String Global × Schema → List ℕ
  row d = numbers_of (numbered 0 names) (direct_names (schema_view d.1))

  long_graph : length graph ≡ length v.definitions
  long_graph = length-map v.definitions row

  long_names : length names ≡ length v.definitions
  long_names = length-map v.definitions (λ d. string_bytes d.0)

  -- the definition at a place is that of its name
  named_there : (i : ℕ) (d : String Global × Schema) → slice_get v.definitions i ≡ Some d → slice_get names i ≡ Some (string_bytes d.0)
  named_there i d e = mapped_at (λ d. string_bytes d.0) v.definitions i d e

  defined_there : (i : ℕ) (d : String Global × Schema) → slice_get v.definitions i ≡ Some d → defined root (string_bytes d.0) ≡ Some (schema_view d.1)
  defined_there i d e =
      let n = string_bytes d.0 in
      let here = under_place (map shown v.definitions) i n (schema_view d.1) (mapped_at shown v.definitions i d e) in
      let p = place_under (map shown v.definitions) n here.0 here.1 in
      let f = mapped_from shown v.definitions p.0 (n, here.0) p.1 in
      let key : string_bytes f.0.0 ≡ n = ap (λ (q : Entry Document). q.0) f.2 in
      let at : p.0 ≡ i = once_get names in_order p.0 i n (named_there p.0 f.0 f.1 ∙ ap Some key) (named_there i d e) in
      let same : f.0 ≡ d = same_Some f.0 d (sym f.1 ∙ ap (slice_get v.definitions) at ∙ e) in
      let value : here.0 ≡ schema_view d.1 = sym (ap (λ (q : Entry Document). q.1) f.2) ∙ ap (λ (q : String Global × Schema). schema_view q.1) same in
      defined_bare v well.bare n ∙ here.1 ∙ ap Some value

  -- what is defined has a number
  number_defined : (n : List ℕ) (s : Document) → defined root n ≡ Some s → (i : ℕ) × (slice_get names i ≡ Some n)
  number_defined n s e =
      let p = place_under (map shown v.definitions) n s (sym (defined_bare v well.bare n) ∙ e) in
      let f = mapped_from shown v.definitions p.0 (n, s) p.1 in
      (p.0, named_there p.0 f.0 f.1 ∙ ap Some (ap (λ (q : Entry Document). q.0) f.2))

  inside_graph : (i : ℕ) (n : List ℕ) → slice_get names i ≡ Some n → i < length graph
  inside_graph i n e = let l = slice_get_within names i n e in omega (arith, l, long_names, long_graph)

  -- the names that a definition refers to, by its number
  abbrev refers_to : List ℕ → List (List ℕ)
  refers_to n = option_map_or direct_names (defined root n) []

  refers_there : (i : ℕ) (d : String Global × Schema) → slice_get v.definitions i ≡ Some d → refers_to (name i) ≡ direct_names (schema_view d.1)
  refers_there i d e =
      ap refers_to (read_at names i (string_bytes d.0) [] (named_there i d e)) ∙ ap (λ o. option_map_or direct_names o []) (defined_there i d e)

  -- a reference by number is one by name, and the other way round
  within : (i j : ℕ) → Refers graph i j → j < length graph
  within i j r =
      let f = mapped_from row v.definitions i r.row r.found in
      let o = numbers_on (numbered 0 names) (direct_names (schema_view f.0.1)) j (subst (On j) (sym f.2) r.on) in
      inside_graph j o.0 (named_number names o.0 j o.2)

  along : (i j : ℕ) → Refers graph i j → RefersDirectly root (name i) (name j)
  along i j r =
      let f = mapped_from row v.definitions i r.row r.found in
      let o = numbers_on (numbered 0 names) (direct_names (schema_view f.0.1)) j (subst (On j) (sym f.2) r.on) in
      let is : name j ≡ o.0 = read_at names j o.0 [] (named_number names o.0 j o.2) in
      any_on (name j) (refers_to (name i)) (subst (λ ns. On (name j) ns) (sym (refers_there i f.0 f.1)) (subst (λ n. On n (direct_names (schema_view f.0.1))) (sym is) o.1))

  back : (i : ℕ) (m : List ℕ) → i < length graph → RefersDirectly root (name i) m → (j : ℕ) × Refers graph i j × (name j ≡ m)
  back i m l r =
      let d = item_at v.definitions i (omega (arith, l, long_graph)) in
      let on : On m (direct_names (schema_view d.0.1)) = subst (λ ns. On m ns) (refers_there i d.0 d.1) (on_any m (refers_to (name i)) r) in
      let known = each_on (λ n. is_some (defined root n) ≡ true) (direct_names (schema_view d.0.1)) m (names_defined vocabulary.Wide root well.shaped well.named (string_bytes d.0.0) (schema_view d.0.1) (defined_there i d.0 d.1)) on in
      let j = found (defined root m) refl known in (
        j.0,
        record {
          row = row d.0;
          found = mapped_at row v.definitions i d.0 d.1;
          on = on_numbers (numbered 0 names) (direct_names (schema_view d.0.1)) m j.0 on (number_at names in_order m j.0 j.1);
        },
        read_at names j.0 m [] j.1,
      )
    where
      found : (o : Option Document) → defined root m ≡ o → is_some o ≡ true → (j : ℕ) × (slice_get names j ≡ Some m)
      found None e h = cc
      found (Some s) e h = number_defined m s e

  begins : (n m : List ℕ) → RefersDirectly root n m → (i : ℕ) × (i < length graph) × (name i ≡ n)
  begins n m r = by (defined root n) refl r
    where
      by : (o : Option Document) → defined root n ≡ o → list_any (same_bytes m) (option_map_or direct_names o []) ≡ true → (i : ℕ) × (i < length graph) × (name i ≡ n)
      by None e h = cc
      by (Some s) e h = let at = number_defined n s e in (at.0, inside_graph at.0 n at.1, read_at names at.0 n [] at.1)

  pub stands_for : StandsFor (RefersDirectly root) graph name
  stands_for = record {
    within = within;
    along = along;
    back = back;
    begins = begins;
    once = λ i j a b e. once_at names in_order i j (omega (arith, a, long_names, long_graph)) (omega (arith, b, long_names, long_graph)) e;
  }

  pub no_loop_named : NoCycle (Refers graph) → NoLoop root
  no_loop_named none = no_cycle_named (RefersDirectly root) graph name stands_for none

  -- the numbers of a cycle are those of definitions
  pub cycle_inside : (js : List ℕ) → IsLowestCycle graph js → (j : ℕ) → On j js → j < length v.definitions
  cycle_inside js c j o = let l = closed_inside (RefersDirectly root) graph name stands_for js c.cycle.0 j o in omega (arith, l, long_graph)

  pub loop_named : (js : List ℕ) → IsLowestCycle graph js → IsLeastLoop root (map name js)
  loop_named [] c = absurd c.cycle.0
  loop_named (j ∷ js) c =
      let all = closed_inside (RefersDirectly root) graph name stands_for (j ∷ js) c.cycle.0 in record {
        loop = closed_named (RefersDirectly root) graph name stands_for (j ∷ js) c.cycle.0;
        distinct = distinct_by same_bytes (λ n m e. (bytes_eq-Decides n m).0 e) (map name (j ∷ js)) (distinct_named (RefersDirectly root) graph name stands_for (j ∷ js) all c.cycle.1);
        least = least_named names in_order j js (λ k o. let l = all k o in omega (arith, l, long_names, long_graph)) c.cycle.1 c.lowest;
      }

  pub ranks_named : (numbers : List (String Global × ℕ)) (ranks : List ℕ) → by_text numbers ≡ numbered 0 names → AreHeights graph ranks → NoCycle (Refers graph) → AreRanks v numbers ranks
  ranks_named numbers ranks all are none = record {
    whole = record { profile = record { shaped = well.shaped; named = well.named; no_loop = no_loop_named none }; bare = well.bare };
    all = all;
    long = are.long ∙ long_graph;
    heights = λ i n e. let l = inside_graph i n e in subst (λ m. IsRank root m (get_or ranks i 0)) (read_at names i n [] e) (height_named (RefersDirectly root) graph name stands_for i (get_or ranks i 0) l (are.each i l));
  }

-- ---- what a schema document keeps

module _ (v : SchemaValue) (n : List ℕ) where
  alike : (i : ℕ) (ds : List (String Global × Schema)) → is_some (under n (numbered i (names_in ds))) ≡ is_some (under n (map (λ d. (string_bytes d.0, schema_view d.1)) ds))
  alike i [] = refl
  alike i (d ∷ ds) = by (bytes_eq n (string_bytes d.0)) (alike (suc i) ds)
    where
      by : (b : Bool) → is_some (under n (numbered (suc i) (names_in ds))) ≡ is_some (under n (map (λ d. (string_bytes d.0, schema_view d.1)) ds))
          → is_some (if b then Some i else under n (numbered (suc i) (names_in ds))) ≡ is_some (if b then Some (schema_view d.1) else under n (map (λ d. (string_bytes d.0, schema_view d.1)) ds))
      by true h = refl
      by false h = h

  -- a name has a number where it has a definition
  pub number_declared : is_some (number_of_name v.definitions n) ≡ is_some (definition_of v n)
  number_declared = alike 0 v.definitions

  module _ (numbers : List (String Global × ℕ)) (ranks : List ℕ) (are : AreRanks v numbers ranks) where
    pub number_kept : lookup (is_at (λ k. slice_cmp nat_cmp n (string_bytes k))) numbers ≡ number_of_name v.definitions n
    number_kept = looked_up n numbers ∙ ap (under n) are.all

    module _ (i : ℕ) (e : Some i ≡ number_of_name v.definitions n) where
      number_there : slice_get (names_in v.definitions) i ≡ Some n
      number_there = named_number (names_in v.definitions) n i (sym e)

      pub number_inside : i < length ranks
      number_inside = let l = slice_get_within (names_in v.definitions) i n number_there in omega (arith, l, are.long, length-map v.definitions (λ (d : String Global × Schema). string_bytes d.0))

      pub rank_there : (d : ℕ) → IsRank (document_of v) n (get_or ranks i d)
      rank_there d = subst (IsRank (document_of v) n) (same_read ranks i 0 d number_inside) (are.heights i n number_there)
