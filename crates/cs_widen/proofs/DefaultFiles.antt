-- What the default profile accepts stands for itself in the wide one: nothing is embedded in it, no operands of `&`, no declarations of one label and
-- no bodies of a definition are put together, and it is as high as a body may be.
use Rattle.std.proofs.Common.{◌≡◌, ℕ, zero, suc, ◌≤◌, Bool, true, false, ◌||◌, ◌&&◌, not, cond, nat_le, length, List, [], ◌∷◌, ◌++◌, Option, None, append_assoc, append-nil, map, refl, sym, ap, ap₂, ◌∙◌, arith}
use Rattle.std.proofs.lemmas.Bool.{cond-false}
use Rattle.std.specs.List.{AllByRecursion, flat_map}
use Rattle.cs_grammar.specs.DefaultForms.{IsDefault, AreDefault, AreDefaultFields, IsDefaultEnd, IsDefaultFile}
use Rattle.cs_grammar.specs.Height.{height, height_all, height_fields, height_end, height_definitions}
use Rattle.cs_grammar.specs.Limits.{most_height}
use Rattle.cs_grammar.specs.Written.{Place, by_itself, of_bar, of_amp, IsWritten, AreWritten, AreWrittenFields, IsWrittenEnd, IsWrittenFile}
use Rattle.cs_grammar.specs.declared.ast.FieldMark.{FieldMark}
use Rattle.cs_grammar.specs.declared.ast.FieldMark.TheVariants.{Regular, Optional, Required, Every}
use Rattle.cs_grammar.specs.Tree.{Tree, atom, named, reference, conjunction, disjunction, paren, struct, list, wide, Trees, none, more, Fields, no_field, field, End, closed, any, each, body, definitions, DefinitionTree, definition, FileTree, file, names}
use Rattle.cs_package.specs.Environment.{Environment}
use Rattle.cs_resolve.specs.Opening.{joined, conjunctions, conjunctions_all, conjunctions_fields, conjunctions_end, named_fields, named_bodies, values_of_each, KeepsRule}
use Rattle.cs_resolve.specs.Refinement.{Refinements, IsRefinement}
use Rattle.cs_resolve.specs.Resolved.{IsPackage}
use Rattle.cs_embeddings.specs.Alternatives.{Brought, Alternative, nothing, itself, with_fields, with_declaration}
use Rattle.cs_embeddings.specs.Bodies.{Body, as_declared, bodies_behind, left_behind, joined_body, joined_left, body_clashes}
use Rattle.cs_embeddings.specs.Clashes.{clashes_with, clashes_each, clashes_end, clashes_value}
use Rattle.cs_embeddings.specs.Flaws.{flaws, flaws_each, flaws_fields, flaws_end}
use Rattle.cs_embeddings.specs.Gathered.{those_of, is_gathered, gathered_behind, gathered}
use Rattle.cs_embeddings.specs.Held.{holding}
use Rattle.cs_embeddings.specs.Joined.{placed, fields_of_brought, joined_with, joined_each, joined_end, joined_value}
use Rattle.cs_embeddings.specs.United.{unites}
use Rattle.cs_embeddings.specs.Without.{found_from, clashes_from, all_definitions, IsJoined}
use Rattle.cs_tool.proofs.Written.{low_parts}
use Rattle.cs_widen.proofs.DefaultRule.{both, not_united, declarations_of, not_gathered, no_bodies_gathered}

none_of_both : {X : Type 0} (xs ys : List X) → xs ≡ [] → ys ≡ [] → xs ++ ys ≡ []
none_of_both xs ys p q = ap₂ (λ zs ws. zs ++ ws) p q

-- ---- the declarations of a literal without embeddings

own_declarations : (fs : Fields) (a : Alternative) → (with_fields (itself None) fs a).declarations ≡ a.declarations ++ declarations_of fs
own_declarations no_field a = sym (append-nil a.declarations)
own_declarations (field l m e fs) a =
    own_declarations fs (with_declaration (itself None) l m e a)
    ∙ append_assoc a.declarations (record { label = l; mark = m; value = e; place = None; embedding = None } ∷ []) (declarations_of fs)

own_opened : (fs : Fields) (a : Alternative) → (with_fields (itself None) fs a).opened ≡ a.opened
own_opened no_field a = refl
own_opened (field l m e fs) a = own_opened fs (with_declaration (itself None) l m e a)

module _ (ds : List DefinitionTree) where
  abbrev AreApart : List Brought → List Brought → Type 0
  AreApart all bs = AllByRecursion (λ d. is_gathered ds all d ≡ false) bs

  -- where none are put together each declaration is left
  each_left : (all before bs : List Brought) → AreApart all bs → gathered_behind ds all before bs ≡ bs
  each_left all before [] h = refl
  each_left all before (d ∷ bs) h =
      by (is_gathered ds all d) _ h.0 ∙ ap (λ cs. d ∷ cs) (each_left all (before ++ d ∷ []) bs h.1)
    where
      by : (b : Bool) (xs : List Brought) → b ≡ false → cond b xs (d ∷ []) ++ gathered_behind ds all (before ++ d ∷ []) bs ≡ d ∷ gathered_behind ds all (before ++ d ∷ []) bs
      by true xs h = cc
      by false xs h = refl

  own_left : (fs : Fields) → AreApart (declarations_of fs) (declarations_of fs) → gathered ds (with_fields (itself None) fs nothing).declarations ≡ declarations_of fs
  own_left fs h = ap (gathered ds) (own_declarations fs nothing) ∙ each_left (declarations_of fs) [] (declarations_of fs) h

  -- so is each body, at its own place
  abbrev alone : DefinitionTree → Body
  alone d = record { declared = as_declared d; place = None }

  -- whether a file has all bodies of a name
  abbrev has_all : List Brought → DefinitionTree → Bool
  has_all here e = let s = (as_declared e).label.text in nat_le (length (those_of s (map as_declared ds))) (length (those_of s here))

  bodies_left : (here before : List Brought) (es : List DefinitionTree) → AreApart (map as_declared ds) (map as_declared es)
      → bodies_behind ds here before (map as_declared es) ≡ map alone es
  bodies_left here before [] h = refl
  bodies_left here before (e ∷ es) h =
      by (is_gathered ds (map as_declared ds) (as_declared e)) _ h.0 ∙ ap (λ bs. alone e ∷ bs) (bodies_left here (before ++ as_declared e ∷ []) es h.1)
    where
      by : (b : Bool) (xs : List Brought) → b ≡ false
          → map (λ (left : Brought). let body : Body = record { declared = left; place = cond (b && not (has_all here e)) left.place None } in body) (cond b xs (as_declared e ∷ []))
          ++ bodies_behind ds here (before ++ as_declared e ∷ []) (map as_declared es)
          ≡ alone e ∷ bodies_behind ds here (before ++ as_declared e ∷ []) (map as_declared es)
      by true xs h = cc
      by false xs h = refl

-- ---- nothing is embedded, and no operands or declarations are put together

module _ (ds : List DefinitionTree) where
  abbrev mutual
    IsKept : Tree → Type 0
    IsKept (atom a) = Unit {0}
    IsKept (named s o) = Unit {0}
    IsKept (reference s o) = Unit {0}
    IsKept (conjunction es) = ((unites ds es ≡ false) × (unites ds (holding es) ≡ false)) × AreKept es
    IsKept (disjunction es) = AreKept es
    IsKept (paren e) = IsKept e
    IsKept (struct o fs b) = AreApart ds (declarations_of fs) (declarations_of fs) × AreKeptFields fs
    IsKept (list es end) = AreKept es × IsKeptEnd end
    IsKept (wide w) = ⊥

    AreKept : Trees → Type 0
    AreKept none = Unit {0}
    AreKept (more e es) = IsKept e × AreKept es

    AreKeptFields : Fields → Type 0
    AreKeptFields no_field = Unit {0}
    AreKeptFields (field l m e fs) = IsKept e × AreKeptFields fs

    IsKeptEnd : End → Type 0
    IsKeptEnd closed = Unit {0}
    IsKeptEnd any = Unit {0}
    IsKeptEnd (each e) = IsKept e

  abbrev IsKeptBody : DefinitionTree → Type 0
  IsKeptBody d = IsKept (body d)

  abbrev IsKeptFile : FileTree → Type 0
  IsKeptFile f = AllByRecursion IsKeptBody (definitions f)

  module _ (rs : Refinements) (refine : (es : Trees) → rs es ≡ true → IsRefinement ds es) where
    mutual
      kept : (q : Place) (e : Tree) → IsDefault e → IsWritten q e → AllByRecursion KeepsRule (conjunctions rs e) → IsKept e
      kept q (atom a) d w h = tt
      kept q (named s o) d w h = tt
      kept q (reference s o) d w h = tt
      kept q (conjunction es) d w h =
          let parts = both KeepsRule (joined rs es) (conjunctions_all rs es) h in
          (not_united ds rs refine es d w.2 parts.0, kept_each of_amp es d w.2 parts.1)
      kept q (disjunction es) d w h = kept_each of_bar es d w.2 h
      kept q (paren e) d w h = kept by_itself e d w h
      kept q (struct o fs b) d w h =
          let parts = both KeepsRule (values_of_each (named_fields fs)) (conjunctions_fields rs fs) h in
          (not_gathered ds fs d w fs parts.0, kept_fields fs d w parts.1)
      kept q (list es end) d w h =
          let parts = both KeepsRule (conjunctions_all rs es) (conjunctions_end rs end) h in
          (kept_each by_itself es d.0 w.0 parts.0, kept_end end d.1 w.1 parts.1)
      kept q (wide v) d w h = absurd d

      kept_each : (q : Place) (es : Trees) → AreDefault es → AreWritten q es → AllByRecursion KeepsRule (conjunctions_all rs es) → AreKept es
      kept_each q none d w h = tt
      kept_each q (more e es) d w h =
          let parts = both KeepsRule (conjunctions rs e) (conjunctions_all rs es) h in
          (kept q e d.0 w.0 parts.0, kept_each q es d.1 w.1 parts.1)

      kept_fields : (fs : Fields) → AreDefaultFields fs → AreWrittenFields fs → AllByRecursion KeepsRule (conjunctions_fields rs fs) → AreKeptFields fs
      kept_fields no_field d w h = tt
      kept_fields (field l m e fs) d w h =
          let parts = both KeepsRule (conjunctions rs e) (conjunctions_fields rs fs) h in
          (kept by_itself e d.1 w.1 parts.0, kept_fields fs d.2 w.2 parts.1)

      kept_end : (end : End) → IsDefaultEnd end → IsWrittenEnd end → AllByRecursion KeepsRule (conjunctions_end rs end) → IsKeptEnd end
      kept_end closed d w h = tt
      kept_end any d w h = tt
      kept_end (each e) d w h = kept by_itself e d w h

    abbrev inside : List DefinitionTree → List (List Tree)
    inside es = flat_map (λ d. conjunctions rs (body d)) es

    -- the conjunctions of files, one definition after the other
    kept_definitions : (es rest : List DefinitionTree) → IsDefaultFile (file None es []) → IsWrittenFile (file None es []) → AllByRecursion KeepsRule (inside (es ++ rest))
        → AllByRecursion IsKeptBody es × AllByRecursion KeepsRule (inside rest)
    kept_definitions [] rest d w h = (tt, h)
    kept_definitions (definition s o e ∷ es) rest d w h =
        let parts = both KeepsRule (conjunctions rs e) (inside (es ++ rest)) h in
        let later = kept_definitions es rest d.1 (tt, w.1.1, refl) parts.1 in
        ((kept by_itself e d.0 w.1.0.1 parts.0, later.0), later.1)

    kept_files : (fs : List FileTree) → AllByRecursion IsDefaultFile fs → AllByRecursion IsWrittenFile fs → AllByRecursion KeepsRule (inside (all_definitions fs))
        → AllByRecursion IsKeptFile fs
    kept_files [] d w h = tt
    kept_files (file p es ns ∷ fs) d w h =
        let parts = kept_definitions es (all_definitions fs) d.0 (tt, w.0.1, refl) h in
        (parts.0, kept_files fs d.1 w.1 parts.1)

-- ---- such files stand for themselves

-- a file declares definitions alone
abbrev HasNoNames : FileTree → Type 0
HasNoNames f = names f ≡ []

module _ (ds : List DefinitionTree) where
  apart_parts : (xs ys : List DefinitionTree) → AreApart ds (map as_declared ds) (map as_declared (xs ++ ys))
      → AreApart ds (map as_declared ds) (map as_declared xs) × AreApart ds (map as_declared ds) (map as_declared ys)
  apart_parts [] ys h = (tt, h)
  apart_parts (x ∷ xs) ys h = let rest = apart_parts xs ys h.1 in ((h.0, rest.0), rest.1)

  mutual
    no_flaw : (e : Tree) → IsKept ds e → flaws ds e ≡ []
    no_flaw (atom a) h = refl
    no_flaw (named s o) h = refl
    no_flaw (reference s o) h = refl
    no_flaw (conjunction es) h = no_flaw_each es h.1
    no_flaw (disjunction es) h = no_flaw_each es h
    no_flaw (paren e) h = no_flaw e h
    no_flaw (struct o fs b) h = no_flaw_fields fs h.1
    no_flaw (list es end) h = none_of_both (flaws_each ds es) (flaws_end ds end) (no_flaw_each es h.0) (no_flaw_end end h.1)
    no_flaw (wide w) h = absurd h

    no_flaw_each : (es : Trees) → AreKept ds es → flaws_each ds es ≡ []
    no_flaw_each none h = refl
    no_flaw_each (more e es) h = none_of_both (flaws ds e) (flaws_each ds es) (no_flaw e h.0) (no_flaw_each es h.1)

    no_flaw_fields : (fs : Fields) → AreKeptFields ds fs → flaws_fields ds fs ≡ []
    no_flaw_fields no_field h = refl
    no_flaw_fields (field l m e fs) h = none_of_both (flaws ds e) (flaws_fields ds fs) (no_flaw e h.0) (no_flaw_fields fs h.1)

    no_flaw_end : (end : End) → IsKeptEnd ds end → flaws_end ds end ≡ []
    no_flaw_end closed h = refl
    no_flaw_end any h = refl
    no_flaw_end (each e) h = no_flaw e h

  -- no value that is declared has a clash
  module _ (inner : Option ℕ → Tree → List ℕ) (quiet : (e : Tree) → IsKept ds e → inner None e ≡ []) where
    mutual
      no_clash : (e : Tree) → IsKept ds e → clashes_with ds inner None e ≡ []
      no_clash (atom a) h = refl
      no_clash (named s o) h = refl
      no_clash (reference s o) h = refl
      no_clash (conjunction es) h =
          cond-false (unites ds es) _ _ h.0.0 ∙ cond-false (unites ds (holding es)) _ _ h.0.1 ∙ no_clash_each es h.1
      no_clash (disjunction es) h = no_clash_each es h
      no_clash (paren e) h = no_clash e h
      no_clash (struct o fs b) h = ap (flat_map (λ d. inner d.place d.value)) (own_left ds fs h.0) ∙ no_clash_fields fs h.1
      no_clash (list es end) h = none_of_both (clashes_each ds inner None es) (clashes_end ds inner None end) (no_clash_each es h.0) (no_clash_end end h.1)
      no_clash (wide w) h = absurd h

      no_clash_each : (es : Trees) → AreKept ds es → clashes_each ds inner None es ≡ []
      no_clash_each none h = refl
      no_clash_each (more e es) h = none_of_both (clashes_with ds inner None e) (clashes_each ds inner None es) (no_clash e h.0) (no_clash_each es h.1)

      no_clash_end : (end : End) → IsKeptEnd ds end → clashes_end ds inner None end ≡ []
      no_clash_end closed h = refl
      no_clash_end any h = refl
      no_clash_end (each e) h = no_clash e h

      no_clash_fields : (fs : Fields) → AreKeptFields ds fs → flat_map (λ (d : Brought). inner d.place d.value) (declarations_of fs) ≡ []
      no_clash_fields no_field h = refl
      no_clash_fields (field l m e fs) h =
          none_of_both (inner None e) (flat_map (λ (d : Brought). inner d.place d.value) (declarations_of fs)) (quiet e h.0) (no_clash_fields fs h.1)

  -- each value that is declared stays, where it is so high at most
  module _ (value : Option ℕ → Tree → Tree) (n : ℕ) (same : (e : Tree) → IsKept ds e → height e ≤ n → value None e ≡ e) where
    unplaced : (m : FieldMark) → placed None m ≡ m
    unplaced Regular = refl
    unplaced Optional = refl
    unplaced Required = refl
    unplaced (Every o) = refl

    fields_stay : (fs : Fields) → AreKeptFields ds fs → height_fields fs ≤ n → fields_of_brought ds value (declarations_of fs) ≡ fs
    fields_stay no_field h low = refl
    fields_stay (field l m e fs) h low =
        let here : height e ≤ n = omega arith in
        let behind : height_fields fs ≤ n = omega arith in
        ap (λ k. field l k (value None e) (fields_of_brought ds value (declarations_of fs))) (unplaced m)
        ∙ ap₂ (λ d gs. field l m d gs) (same e h.0 here) (fields_stay fs h.1 behind)

    mutual
      stays : (whole : Bool) (e : Tree) → IsKept ds e → height e ≤ suc n → joined_with ds value whole None e ≡ e
      stays whole (atom a) h low = refl
      stays whole (named s o) h low = refl
      stays whole (reference s o) h low = refl
      stays whole (conjunction es) h low =
          cond-false (unites ds es) _ _ h.0.0 ∙ ap conjunction (cond-false (unites ds (holding es)) _ _ h.0.1)
          ∙ ap conjunction (each_stays false es h.1 (omega arith))
      stays whole (disjunction es) h low = ap disjunction (each_stays false es h (omega arith))
      stays whole (paren e) h low = ap paren (stays true e h (omega arith))
      stays whole (struct o fs b) h low =
          ap₂ (λ gs c. struct o gs c)
          (ap (fields_of_brought ds value) (own_left ds fs h.0) ∙ fields_stay fs h.1 (omega arith))
          (ap (λ c. c || b) (own_opened fs nothing))
      stays whole (list es end) h low = ap₂ list (each_stays true es h.0 (omega arith)) (end_stays end h.1 (omega arith))
      stays whole (wide w) h low = absurd h

      each_stays : (whole : Bool) (es : Trees) → AreKept ds es → height_all es ≤ suc n → joined_each ds value whole None es ≡ es
      each_stays whole none h low = refl
      each_stays whole (more e es) h low = ap₂ more (stays whole e h.0 (omega arith)) (each_stays whole es h.1 (omega arith))

      end_stays : (end : End) → IsKeptEnd ds end → height_end end ≤ suc n → joined_end ds value None end ≡ end
      end_stays closed h low = refl
      end_stays any h low = refl
      end_stays (each e) h low = ap each (stays true e h low)

  some_height : (e : Tree) → IsKept ds e → 1 ≤ height e
  some_height (atom a) h = omega arith
  some_height (named s o) h = omega arith
  some_height (reference s o) h = omega arith
  some_height (conjunction es) h = omega arith
  some_height (disjunction es) h = omega arith
  some_height (paren e) h = omega arith
  some_height (struct o fs b) h = omega arith
  some_height (list es end) h = omega arith
  some_height (wide w) h = absurd h

  -- each literal takes one step, and is one higher than what it declares
  value_stays : (n : ℕ) (e : Tree) → IsKept ds e → height e ≤ n → joined_value ds n None e ≡ e
  unfolding joined_value
  value_stays zero e h low = absurd (let some = some_height e h in omega (arith, some, low))
  value_stays (suc n) e h low = stays (joined_value ds n) n (value_stays n) true e h low

  no_clash_inside : (n : ℕ) (e : Tree) → IsKept ds e → clashes_value ds n None e ≡ []
  unfolding clashes_value
  no_clash_inside zero e h = refl
  no_clash_inside (suc n) e h = no_clash (clashes_value ds n) (no_clash_inside n) e h

  definitions_stay : (es : List DefinitionTree) → AllByRecursion (IsKeptBody ds) es → height_definitions es ≤ most_height
      → map (joined_body ds) (map (alone ds) es) ≡ es
  definitions_stay [] h low = refl
  definitions_stay (definition s o e ∷ es) h low =
      let here : height e ≤ suc most_height = omega arith in
      let behind : height_definitions es ≤ most_height = omega arith in
      ap₂ (λ d gs. definition s o d ∷ gs) (value_stays (suc most_height) e h.0 here) (definitions_stay es h.1 behind)

  files_stay : (before : List Brought) (fs : List FileTree) → AllByRecursion HasNoNames fs → AllByRecursion (IsKeptFile ds) fs → AreApart ds (map as_declared ds) (map as_declared (all_definitions fs))
      → height_definitions (all_definitions fs) ≤ most_height → map (joined_left ds) (left_behind ds before fs) ≡ fs
  files_stay before [] u h a low = refl
  files_stay before (file p es ns ∷ fs) u h a low =
      let parts = low_parts es (all_definitions fs) most_height low in
      let apart = apart_parts es (all_definitions fs) a in
      let here = map as_declared es in
      ap₂ (λ gs hs. file p gs [] ∷ hs)
      (ap (map (joined_body ds)) (bodies_left ds here before es apart.0) ∙ definitions_stay es h.0 parts.0)
      (files_stay (before ++ here) fs u.1 h.1 apart.1 parts.1)
      ∙ ap (λ ms. file p es ms ∷ fs) (sym u.0)

  no_body_clashes : (es : List DefinitionTree) → AllByRecursion (IsKeptBody ds) es → flat_map (body_clashes ds) (map (alone ds) es) ≡ []
  no_body_clashes [] h = refl
  no_body_clashes (definition s o e ∷ es) h =
      none_of_both (clashes_value ds (suc most_height) None e) (flat_map (body_clashes ds) (map (alone ds) es)) (no_clash_inside (suc most_height) e h.0) (no_body_clashes es h.1)

  no_clashes_from : (i : ℕ) (before : List Brought) (fs : List FileTree) → AllByRecursion (IsKeptFile ds) fs
      → AreApart ds (map as_declared ds) (map as_declared (all_definitions fs)) → clashes_from ds i (left_behind ds before fs) ≡ []
  no_clashes_from i before [] h a = refl
  no_clashes_from i before (file p es ns ∷ fs) h a =
      let apart = apart_parts es (all_definitions fs) a in
      let here = map as_declared es in
      none_of_both (map (λ o. (i, o)) (flat_map (body_clashes ds) (bodies_behind ds here before here))) (clashes_from ds (suc i) (left_behind ds (before ++ here) fs))
      (ap (map {B = ℕ × ℕ} (λ o. (i, o))) (ap (flat_map (body_clashes ds)) (bodies_left ds here before es apart.0) ∙ no_body_clashes es h.0))
      (no_clashes_from (suc i) (before ++ here) fs h.1 apart.1)

module _ (all : List DefinitionTree) {A : Type 0} (found : Tree → List A) (nowhere_found : (e : Tree) → IsKept all e → found e ≡ []) where
  none_in : (ds : List DefinitionTree) → AllByRecursion (IsKeptBody all) ds → flat_map (λ d. found (body d)) ds ≡ []
  none_in [] h = refl
  none_in (d ∷ ds) h = none_of_both (found (body d)) (flat_map (λ e. found (body e)) ds) (nowhere_found (body d) h.0) (none_in ds h.1)

  none_from : (i : ℕ) (fs : List FileTree) → AllByRecursion (IsKeptFile all) fs → found_from found i fs ≡ []
  none_from i [] h = refl
  none_from i (f ∷ fs) h =
      none_of_both (map (λ x. (i, x)) (flat_map (λ d. found (body d)) (definitions f))) (found_from found (suc i) fs)
      (ap (map {B = ℕ × A} (λ x. (i, x))) (none_in (definitions f) h.0)) (none_from (suc i) fs h.1)

files_stand : (fs : List FileTree) → let ds = all_definitions fs in AllByRecursion HasNoNames fs → AllByRecursion (IsKeptFile ds) fs → AreApart ds (map as_declared ds) (map as_declared ds)
    → height_definitions ds ≤ most_height → IsJoined fs fs
files_stand fs u h a low =
    let ds = all_definitions fs in
    record {
      flawless = none_from ds (flaws ds) (no_flaw ds) 0 fs h;
      apart = no_clashes_from ds 0 [] fs h a;
      joined = sym (files_stay ds [] fs u h a low);
    }

-- what can be written down has no names but definitions
all_nameless : (fs : List FileTree) → AllByRecursion IsWrittenFile fs → AllByRecursion HasNoNames fs
all_nameless [] w = tt
all_nameless (file p es ns ∷ fs) w = (w.0.2, all_nameless fs w.1)

-- a package of files that can be written down, without forms of the wide profile, and whose bodies aren't too high
pub package_stands : (fs : List FileTree) (E : Environment) → AllByRecursion IsDefaultFile fs → AllByRecursion IsWrittenFile fs
    → height_definitions (all_definitions fs) ≤ most_height → IsPackage fs E → IsJoined fs fs
package_stands fs E d w low h =
    let ds = all_definitions fs in
    let rs = h.refinements in
    let ruled = both KeepsRule (values_of_each (named_bodies ds)) (inside ds rs (λ es r. (h.are_refinements es).0 r) ds) h.opened in
    files_stand fs (all_nameless fs w) (kept_files ds rs (λ es r. (h.are_refinements es).0 r) fs d w ruled.1) (no_bodies_gathered fs d w ruled.0) low
