-- A definition is a closed base exactly where the computation finds it, and so with a plain refinement: the names on the way to a literal are distinct, so
-- as many steps as there are definitions are enough.
use Rattle.std.proofs.Common.{◌≡◌, ℕ, zero, suc, ◌+◌, ◌-◌, ◌<◌, ◌≤◌, ◌↔◌, Bool, true, false, ◌||◌, cond, if◌then◌else◌, List, [], ◌∷◌, ◌⊎◌, inl, inr, Option, Some, None, map, filter, length, refl, sym, ap, ◌∙◌, subst, arith}
use Rattle.std.specs.List.{IsDistinct, AllByRecursion, flat_map}
use Rattle.std.proofs.Math.Path.{fun_ext}
use Rattle.std.specs.Set.{is_member}
use Rattle.std.specs.Str.{bytes_eq}
use Rattle.std.proofs.lemmas.Cmp.{nat_list_eq_equiv}
use Rattle.std.proofs.lemmas.List.{length-map}
use Rattle.std.proofs.lemmas.Map.Made.{length-le_from_is_member}
use Rattle.std.proofs.lemmas.Slice.Eq.{bytes_eq-Decides}
use Rattle.cs_grammar.specs.Tree.{Tree, atom, named, reference, conjunction, disjunction, paren, struct, list, wide, Trees, Fields, DefinitionTree, defined_name, body, FileTree, definitions}
use Rattle.cs_package.specs.Environment.{Environment}
use Rattle.cs_package.proofs.Environments.{bytes_eq-sym}
use Rattle.cs_resolve.specs.Declarations.{bodies_of}
use Rattle.cs_resolve.specs.Refinement.{closed_literal, Narrowing, narrowing, narrowing_in, narrows, texts, IsBase, by_literal, by_refinement, IsRefinement, Refinements, AreRefinements}
use Rattle.cs_resolve.specs.Resolved.{environment_of_files, IsPackage}
use Rattle.cs_resolve.specs.ClosedBases.{Bases, narrowed_labels, narrowed, labels_or, base_of, bases_within, bases, is_some_labels, is_refinement}

abbrev Labels : Type 0
Labels = Option (List (List ℕ))

-- what has labels keeps them
abbrev Keeps : Labels → Labels → Type 0
Keeps o p = (ls : List (List ℕ)) → o ≡ Some ls → p ≡ Some ls

abbrev KeepsAll : Bases → Bases → Type 0
KeepsAll bs cs = (n : List ℕ) → Keeps (bs n) (cs n)

-- what narrows is no literal
pub no_literal : (e : Tree) (x : Narrowing) → narrowing_in e ≡ Some x → closed_literal e ≡ None
no_literal (atom a) x h = cc
no_literal (named n o) x h = cc
no_literal (reference n o) x h = cc
no_literal (conjunction es) x h = refl
no_literal (disjunction es) x h = cc
no_literal (paren e) x h = no_literal e x h
no_literal (struct o fs opened) x h = cc
no_literal (list es end) x h = cc
no_literal (wide w) x h = cc

-- ---- more bases give more bases

labels_kept : (o p : Labels) (fs : Fields) → Keeps o p → Keeps (narrowed_labels o fs) (narrowed_labels p fs)
labels_kept None p fs keeps ls h = cc
labels_kept (Some x) p fs keeps ls h = ap (λ q. narrowed_labels q fs) (keeps x refl) ∙ h

narrowed_kept : (bs cs : Bases) (x : Option Narrowing) → KeepsAll bs cs → Keeps (narrowed bs x) (narrowed cs x)
narrowed_kept bs cs None keeps ls h = cc
narrowed_kept bs cs (Some (m, fs)) keeps ls h = labels_kept (bs m) (cs m) fs (keeps m) ls h

either_kept : (l : Option Fields) (o p : Labels) → Keeps o p → Keeps (labels_or l o) (labels_or l p)
either_kept None o p keeps ls h = keeps ls h
either_kept (Some fs) o p keeps ls h = h

base_kept : (bs cs : Bases) (es : List Tree) → KeepsAll bs cs → Keeps (base_of bs es) (base_of cs es)
base_kept bs cs [] keeps ls h = cc
base_kept bs cs (e ∷ []) keeps ls h = either_kept (closed_literal e) (narrowed bs (narrowing_in e)) (narrowed cs (narrowing_in e)) (narrowed_kept bs cs (narrowing_in e) keeps) ls h
base_kept bs cs (e ∷ f ∷ es) keeps ls h = cc

-- ---- a new base refines a new base

-- a base of the second that none of the first is
record New (bs cs : Bases) (n : List ℕ) : Type 0 where
  labels : List (List ℕ)
  found : cs n ≡ Some labels
  missing : bs n ≡ None

labels_new : (o p : Labels) (fs : Fields) (ls : List (List ℕ)) → Keeps o p → narrowed_labels p fs ≡ Some ls → narrowed_labels o fs ≡ None → (ms : List (List ℕ)) × (p ≡ Some ms) × (o ≡ None)
labels_new None None fs ls keeps h g = cc
labels_new None (Some y) fs ls keeps h g = (y, refl, refl)
labels_new (Some x) p fs ls keeps h g = let e : None ≡ Some ls = sym g ∙ ap (λ q. narrowed_labels q fs) (sym (keeps x refl)) ∙ h in cc

narrowed_new : (bs cs : Bases) (x : Option Narrowing) (ls : List (List ℕ)) → KeepsAll bs cs → narrowed cs x ≡ Some ls → narrowed bs x ≡ None → (m : List ℕ) × New bs cs m
narrowed_new bs cs None ls keeps h g = cc
narrowed_new bs cs (Some (m, fs)) ls keeps h g =
    let new = labels_new (bs m) (cs m) fs ls (keeps m) h g in
    (m, record { labels = new.0; found = new.1; missing = new.2 })

either_new : (bs cs : Bases) (l : Option Fields) (x : Option Narrowing) (ls : List (List ℕ)) → KeepsAll bs cs → labels_or l (narrowed cs x) ≡ Some ls → labels_or l (narrowed bs x) ≡ None → (m : List ℕ) × New bs cs m
either_new bs cs None x ls keeps h g = narrowed_new bs cs x ls keeps h g
either_new bs cs (Some fs) x ls keeps h g = cc

base_new : (bs cs : Bases) (es : List Tree) (ls : List (List ℕ)) → KeepsAll bs cs → base_of cs es ≡ Some ls → base_of bs es ≡ None → (m : List ℕ) × New bs cs m
base_new bs cs [] ls keeps h g = cc
base_new bs cs (e ∷ []) ls keeps h g = either_new bs cs (closed_literal e) (narrowing_in e) ls keeps h g
base_new bs cs (e ∷ f ∷ es) ls keeps h g = cc

-- ---- names

or_cases : (a b : Bool) → (a || b) ≡ true → (a ≡ true) ⊎ (b ≡ true)
or_cases true b h = inl refl
or_cases false b h = inr h

or_true : (a : Bool) → (a || true) ≡ true
or_true true = refl
or_true false = refl

one_of : (q n : List ℕ) (ns : List (List ℕ)) → is_member bytes_eq (n ∷ ns) q ≡ true → (q ≡ n) ⊎ (is_member bytes_eq ns q ≡ true)
one_of q n ns h = elim (or_cases (bytes_eq q n) (is_member bytes_eq ns q) h) [ inl e ↦ inl ((bytes_eq-Decides q n).0 e) | inr e ↦ inr e ]

apart : (n : List ℕ) (ns : List (List ℕ)) → (is_member bytes_eq ns n ≡ true → ⊥) → AllByRecursion (λ m. bytes_eq n m ≡ false) ns
apart n [] h = tt
apart n (m ∷ ns) h = (here (bytes_eq n m) refl, apart n ns (λ e. h (ap (λ b. bytes_eq n m || b) e ∙ or_true (bytes_eq n m))))
  where
    here : (b : Bool) → bytes_eq n m ≡ b → bytes_eq n m ≡ false
    here true e = absurd (h (ap (λ b. b || is_member bytes_eq ns n) e))
    here false e = e

-- what has a body is declared
declared_name : (ds : List DefinitionTree) (q : List ℕ) → (bodies_of q ds ≡ [] → ⊥) → is_member bytes_eq (map defined_name ds) q ≡ true
declared_name [] q h = absurd (h refl)
declared_name (d ∷ ds) q h = by (bytes_eq (defined_name d) q) refl (declared_name ds q)
  where
    by : (b : Bool) → bytes_eq (defined_name d) q ≡ b → ((bodies_of q ds ≡ [] → ⊥) → is_member bytes_eq (map defined_name ds) q ≡ true) → is_member bytes_eq (map defined_name (d ∷ ds)) q ≡ true
    by true e others = ap (λ b. b || is_member bytes_eq (map defined_name ds) q) (bytes_eq-sym q (defined_name d) ∙ e)
    by false e others =
        let same : bodies_of q (d ∷ ds) ≡ bodies_of q ds = ap (λ b. map body (cond b (d ∷ filter (λ x. bytes_eq (defined_name x) q) ds) (filter (λ x. bytes_eq (defined_name x) q) ds))) e in
        ap (λ b. bytes_eq q (defined_name d) || b) (others (λ none. h (same ∙ none))) ∙ or_true (bytes_eq q (defined_name d))

module _ (ds : List DefinitionTree) where
  -- ---- one step more

  kept : (k : ℕ) → KeepsAll (bases_within k ds) (bases_within (suc k) ds)
  kept zero n ls h = cc
  kept (suc k) n ls h = base_kept (bases_within k ds) (bases_within (suc k) ds) (bodies_of n ds) (kept k) ls h

  kept_by : (j k i : ℕ) → i ≡ j + k → KeepsAll (bases_within k ds) (bases_within i ds)
  kept_by zero k i e n ls h = subst (λ x. bases_within x ds n ≡ Some ls) (omega (arith, e)) h
  kept_by (suc j) k zero e n ls h = absurd (omega (arith, e))
  kept_by (suc j) k (suc i) e n ls h = kept i n ls (kept_by j k i (omega (arith, e)) n ls h)

  kept_up : (j k : ℕ) → j ≤ k → KeepsAll (bases_within j ds) (bases_within k ds)
  kept_up j k l = kept_by (k - j) j k (omega (arith, l))

  -- ---- the names on the way to a literal

  -- found by that step, and not before
  abbrev At : ℕ → List ℕ → Type 0
  At k n = New (bases_within k ds) (bases_within (suc k) ds) n

  one_step : (j k : ℕ) (n : List ℕ) → j < k → At j n → At k n → ⊥
  one_step j k n l a b = let e : None ≡ Some a.labels = sym b.missing ∙ kept_up (suc j) k (omega (arith, l)) n a.labels a.found in cc

  -- the names on the way from one that is found by step k
  record Way (k : ℕ) : Type 0 where
    names : List (List ℕ)
    long : length names ≡ suc k
    distinct : IsDistinct bytes_eq names
    each : (q : List ℕ) → is_member bytes_eq names q ≡ true → (j : ℕ) × (j ≤ k) × At j q

  way : (k : ℕ) (n : List ℕ) → At k n → Way k
  unfolding IsDistinct
  way zero n a = record {
    names = n ∷ [];
    long = refl;
    distinct = (tt, tt);
    each = λ q h. elim (one_of q n [] h) [ inl e ↦ (zero, omega arith, subst (At zero) (sym e) a) | inr e ↦ cc ];
  }
  way (suc k) n a =
      let m = base_new (bases_within k ds) (bases_within (suc k) ds) (bodies_of n ds) a.labels (kept k) a.found a.missing in
      let w = way k m.0 m.1 in
      record {
        names = n ∷ w.names;
        long = ap suc w.long;
        distinct = (apart n w.names (λ h. let s = w.each n h in one_step s.0 (suc k) n (omega (arith, s.1)) s.2 a), w.distinct);
        each = λ q h. elim (one_of q n w.names h) [
          | inl e ↦ (suc k, omega arith, subst (At (suc k)) (sym e) a)
          | inr e ↦ let s = w.each q e in (s.0, omega (arith, s.1), s.2)
        ];
      }

  named_there : (k : ℕ) (n : List ℕ) → At k n → is_member bytes_eq (map defined_name ds) n ≡ true
  named_there k n a = declared_name ds n (λ none. let e : None ≡ Some a.labels = sym (ap (base_of (bases_within k ds)) none) ∙ a.found in cc)

  -- each step finds a name, so there are no more steps than definitions
  enough : (k : ℕ) (n : List ℕ) → At k n → suc k ≤ length ds
  enough k n a =
      let w = way k n a in
      let most = length-le_from_is_member nat_list_eq_equiv w.names (map defined_name ds) w.distinct (λ q h. let s = w.each q h in named_there s.0 q s.2) in
      omega (arith, most, w.long, length-map ds defined_name)

  settled : (k : ℕ) (n : List ℕ) (ls : List (List ℕ)) → bases_within k ds n ≡ Some ls → bases ds n ≡ Some ls
  settled zero n ls h = cc
  settled (suc k) n ls h = by (bases_within k ds n) refl (settled k n)
    where
      by : (o : Labels) → bases_within k ds n ≡ o → Keeps (bases_within k ds n) (bases ds n) → bases ds n ≡ Some ls
      by None e before = kept_up (suc k) (length ds) (enough k n (record { labels = ls; found = h; missing = e })) n ls h
      by (Some ms) e before = before ms e ∙ sym (kept k n ms e) ∙ h

  -- ---- what is found is a base

  module _ (n : List ℕ) (ls : List (List ℕ)) (bs : Bases) (all : (m : List ℕ) (ms : List (List ℕ)) → bs m ≡ Some ms → IsBase ds m ms) where
    found_narrowed : (e : Tree) → bodies_of n ds ≡ e ∷ [] → (x : Option Narrowing) → narrowing_in e ≡ x → narrowed bs x ≡ Some ls → IsBase ds n ls
    found_narrowed e is None nar h = cc
    found_narrowed e is (Some (m, fs)) nar h = with_labels (bs m) refl h
      where
        with_labels : (o : Labels) → bs m ≡ o → narrowed_labels o fs ≡ Some ls → IsBase ds n ls
        with_labels None there g = cc
        with_labels (Some ms) there g = by (narrows fs ms) refl g
          where
            by : (b : Bool) → narrows fs ms ≡ b → cond b (Some ms) None ≡ Some ls → IsBase ds n ls
            by true fits same = let e : ms ≡ ls = cc in subst (IsBase ds n) e (by_refinement is nar (all m ms there) fits)
            by false fits same = cc

    found_either : (e : Tree) → bodies_of n ds ≡ e ∷ [] → (l : Option Fields) → closed_literal e ≡ l → labels_or l (narrowed bs (narrowing_in e)) ≡ Some ls → IsBase ds n ls
    found_either e is None lit h = found_narrowed e is (narrowing_in e) refl h
    found_either e is (Some fs) lit h = let same : texts fs ≡ ls = cc in subst (IsBase ds n) same (by_literal is lit)

    found_base : (es : List Tree) → bodies_of n ds ≡ es → base_of bs es ≡ Some ls → IsBase ds n ls
    found_base [] is h = cc
    found_base (e ∷ []) is h = found_either e is (closed_literal e) refl h
    found_base (e ∷ f ∷ es) is h = cc

  found_within : (k : ℕ) (n : List ℕ) (ls : List (List ℕ)) → bases_within k ds n ≡ Some ls → IsBase ds n ls
  found_within zero n ls h = cc
  found_within (suc k) n ls h = found_base n ls (bases_within k ds) (found_within k) (bodies_of n ds) refl h

  -- ---- and each base is found

  within : (n : List ℕ) (ls : List (List ℕ)) → IsBase ds n ls → (k : ℕ) × (bases_within k ds n ≡ Some ls)
  within n ls (by_literal {e = e} {fs = fs} is lit) = (1, ap (base_of (bases_within 0 ds)) is ∙ ap (λ l. labels_or l (narrowed (bases_within 0 ds) (narrowing_in e))) lit)
  within n ls (by_refinement {m = m} {e = e} {fs = fs} is nar base fits) =
      let before = within m ls base in
      let bs = bases_within before.0 ds in (
        suc before.0,
        ap (base_of bs) is
            ∙ ap (λ l. labels_or l (narrowed bs (narrowing_in e))) (no_literal e (m, fs) nar)
            ∙ ap (narrowed bs) nar
            ∙ ap (λ o. narrowed_labels o fs) before.1
            ∙ ap (λ b. if b then Some ls else None) fits,
      )

pub least : (ds : List DefinitionTree) (n : List ℕ) (ls : List (List ℕ)) → (bases ds n ≡ Some ls) ↔ IsBase ds n ls
least ds n ls = (found_within ds (length ds) n ls, λ h. let w = within ds n ls h in settled ds w.0 n ls w.1)

-- a base has one list of labels
pub one_labels : (ds : List DefinitionTree) (n : List ℕ) (ls ms : List (List ℕ)) → IsBase ds n ls → IsBase ds n ms → ls ≡ ms
one_labels ds n ls ms a b = let e : Some ls ≡ Some ms = sym ((least ds n ls).1 a) ∙ (least ds n ms).1 b in cc

-- ---- plain refinements

module _ (ds : List DefinitionTree) (es : Trees) where
  is_found : IsRefinement ds es → is_refinement (bases ds) es ≡ true
  is_found r =
      ap (λ n. is_some_labels (narrowed (bases ds) n)) r.joins
      ∙ ap (λ o. is_some_labels (narrowed_labels o r.fields)) ((least ds r.base r.labels).1 r.closed)
      ∙ ap (λ b. is_some_labels (if b then Some r.labels else None)) r.fits

  found_is : is_refinement (bases ds) es ≡ true → IsRefinement ds es
  found_is h = joining (narrowing es) refl h
    where
      joining : (n : Option Narrowing) → narrowing es ≡ n → is_some_labels (narrowed (bases ds) n) ≡ true → IsRefinement ds es
      joining None e g = cc
      joining (Some (m, fs)) e g = closing (bases ds m) refl g
        where
          closing : (o : Labels) → bases ds m ≡ o → is_some_labels (narrowed_labels o fs) ≡ true → IsRefinement ds es
          closing None there k = cc
          closing (Some ls) there k = by (narrows fs ls) refl k
            where
              by : (b : Bool) → narrows fs ls ≡ b → is_some_labels (cond b (Some ls) None) ≡ true → IsRefinement ds es
              by true fits same = record { base = m; fields = fs; labels = ls; joins = e; closed = (least ds m ls).0 there; fits = fits }
              by false fits same = cc

pub found_refinements : (ds : List DefinitionTree) → AreRefinements ds (is_refinement (bases ds))
found_refinements ds es = (found_is ds es, is_found ds es)

same_truth : (a b : Bool) → (a ≡ true → b ≡ true) → (b ≡ true → a ≡ true) → a ≡ b
same_truth true b to from = sym (to refl)
same_truth false true to from = from refl
same_truth false false to from = refl

pub one_refinements : (ds : List DefinitionTree) (rs qs : Refinements) → AreRefinements ds rs → AreRefinements ds qs → rs ≡ qs
one_refinements ds rs qs h k = fun_ext (λ es. same_truth (rs es) (qs es) (λ e. (k es).1 ((h es).0 e)) (λ e. (h es).1 ((k es).0 e)))

pub one_environment : (fs : List FileTree) (E F : Environment) → IsPackage fs E → IsPackage fs F → E ≡ F
one_environment fs E F h k =
    h.declares ∙ ap (λ rs. environment_of_files rs fs) (one_refinements (flat_map definitions fs) h.refinements k.refinements h.are_refinements k.are_refinements) ∙ sym k.declares
