-- The declarations of one label, one after another, and what the table tells of their labels.
use Rattle.std.proofs.Common.{◌≡◌, ℕ, ◌+◌, ◌<◌, ◌≤◌, Bool, true, false, ◌&&◌, ◌||◌, not, cond, List, [], ◌∷◌, ◌++◌, Option, Some, None, map, take, drop, length, get_or, refl, sym, ap, ap₂, ◌∙◌, subst, nat_le}
use Rattle.std.specs.Borrow.{Bor}
use Rattle.std.specs.BTreeMap.{BTreeMap, get_by}
use Rattle.std.specs.Cmp.Lexicographic.{slice_cmp}
use Rattle.std.specs.Ordering.{nat_cmp}
use Rattle.std.specs.List.{list_all, list_any, AllByRecursion}
use Rattle.std.specs.Map.{update}
use Rattle.std.specs.Option.{option_or}
use Rattle.std.specs.Str.{bytes_eq}
use Rattle.std.proofs.lemmas.Bool.{and_parts, or_right}
use Rattle.std.proofs.lemmas.List.{map-append, take_more, append_assoc, append-nil, length_push}
use Rattle.std.proofs.lemmas.List.Elements.{filter-append}
use Rattle.std.proofs.lemmas.List.Folds.{list_all-append, list_any-append}
use Rattle.std.proofs.lemmas.Slice.Eq.{bytes_eq-Decides}
use Rattle.cs_grammar.specs.declared.ast.Expr.{Expr}
use Rattle.cs_grammar.specs.declared.ast.FieldMark.{FieldMark}
use Rattle.cs_grammar.specs.declared.ast.FieldMark.TheVariants.{Regular, Optional, Required, Every}
use Rattle.cs_grammar.specs.Tree.{written_label, Tree, Trees, none, more, conjunction, DefinitionTree}
use Rattle.cs_grammar.specs.View.{expr_view, trees_of}
use Rattle.cs_embeddings.specs.Alternatives.{Brought}
use Rattle.cs_embeddings.specs.Checks.{bodies_view}
use Rattle.cs_embeddings.specs.Gathered.{stays_alone, is_of, those_of, values_of, most_gathered, gathers, is_gathered, mark_or, mark_of, place_of, together, gathered_at, gathered_behind, gathered}
use Rattle.cs_embeddings.specs.GatheredTable.{IsTogether, declared_view, together_view, gathered_view, IsSound, TellsLabel, TellsLabels, Stands}
use Rattle.cs_embeddings.specs.Held.{or_else}
use Rattle.cs_embeddings.specs.United.{unites}
use Rattle.cs_embeddings.specs.declared.gathered.Declared.{Declared}
use Rattle.cs_embeddings.specs.declared.gathered.Together.{Together}
use Rattle.cs_embeddings.specs.declared.gathered.Gathered.{Gathered}
use Rattle.cs_embeddings.specs.declared.gathered.Gathered.TheVariants.{Several}
use Rattle.cs_embeddings.specs.declared.gathered.Label.{Label}
use Rattle.cs_embeddings.specs.declared.gathered.Label.TheVariants.{Unmet, Met}
use Rattle.cs_embeddings.specs.declared.gathered.Labels.{Labels}
use Rattle.cs_embeddings.proofs.WellAlternatives.{all-append}
use Rattle.cs_embeddings.proofs.Walks.{at_place, drop_all}

and_all : (b : Bool) → (b && true) ≡ b
and_all true = refl
and_all false = refl

and_nothing : (b : Bool) → (b && false) ≡ false
and_nothing true = refl
and_nothing false = refl

or_nothing : (b : Bool) → (b || false) ≡ b
or_nothing true = refl
or_nothing false = refl

-- ---- one declaration more of a label

quotes_push : (bs : List Brought) (d : Brought) → list_all (λ c. c.label.quotes) (bs ++ d ∷ []) ≡ (list_all (λ c. c.label.quotes) bs && d.label.quotes)
quotes_push bs d = list_all-append (λ (c : Brought). c.label.quotes) bs (d ∷ []) ∙ ap (λ b. list_all (λ (c : Brought). c.label.quotes) bs && b) (and_all d.label.quotes)

mark_alone : (m : FieldMark) → mark_or m Optional ≡ m
mark_alone Regular = refl
mark_alone Optional = refl
mark_alone Required = refl
mark_alone (Every o) = refl

mark_push : (bs : List Brought) (d : Brought) → mark_of (bs ++ d ∷ []) ≡ mark_or (mark_of bs) d.mark
mark_push [] d = mark_alone d.mark
mark_push (c ∷ bs) d = by c.mark (mark_push bs d)
  where
    by : (m : FieldMark) → mark_of (bs ++ d ∷ []) ≡ mark_or (mark_of bs) d.mark → mark_or m (mark_of (bs ++ d ∷ [])) ≡ mark_or (mark_or m (mark_of bs)) d.mark
    by Regular later = refl
    by Optional later = later
    by Required later = refl
    by (Every o) later = refl

place_alone : (p : Option ℕ) → or_else p None ≡ p
place_alone None = refl
place_alone (Some o) = refl

place_push : (bs : List Brought) (d : Brought) → place_of (bs ++ d ∷ []) ≡ or_else (place_of bs) d.place
place_push [] d = place_alone d.place
place_push (c ∷ bs) d = by c.place (place_push bs d)
  where
    by : (p : Option ℕ) → place_of (bs ++ d ∷ []) ≡ or_else (place_of bs) d.place → or_else p (place_of (bs ++ d ∷ [])) ≡ or_else (or_else p (place_of bs)) d.place
    by None later = later
    by (Some o) later = refl

pub or_same : (p q : Option ℕ) → option_or p q ≡ or_else p q
or_same None q = refl
or_same (Some o) q = refl

abbrev with_last : Trees → Tree → Trees
with_last none t = more t none
with_last (more e es) t = more e (with_last es t)

trees_push : (ts : List Tree) (t : Tree) → trees_of (ts ++ t ∷ []) ≡ with_last (trees_of ts) t
trees_push [] t = refl
trees_push (e ∷ ts) t = ap (more e) (trees_push ts t)

values_push : (bs : List Brought) (d : Brought) → values_of (bs ++ d ∷ []) ≡ with_last (values_of bs) d.value
values_push [] d = refl
values_push (c ∷ bs) d = ap (more c.value) (values_push bs d)

pub one_more : (t u : Together) (s : List ℕ) (bs : List Brought) (d : Declared) (e : Bor Expr) → IsTogether t s bs
    → u.label.now ≡ t.label.now → u.quoted ≡ (t.quoted && d.quoted) → u.mark ≡ mark_or t.mark d.mark → u.place ≡ or_else t.place d.place
    → e.now ≡ d.value.now → u.values.items ≡ t.values.items ++ e ∷ [] → IsTogether u s (bs ++ declared_view d ∷ [])
one_more t u s bs d e told label quoted mark place value values = record {
  label = label ∙ told.label;
  quoted = quoted ∙ ap (λ a. a && d.quoted) told.quoted ∙ sym (quotes_push bs (declared_view d));
  mark = mark ∙ ap (λ m. mark_or m d.mark) told.mark ∙ sym (mark_push bs (declared_view d));
  place = place ∙ ap (λ p. or_else p d.place) told.place ∙ sym (place_push bs (declared_view d));
  values = ap (λ es. trees_of (bodies_view es)) values
      ∙ ap trees_of (map-append (λ (x : Bor Expr). expr_view x.now) t.values.items (e ∷ []))
      ∙ trees_push (bodies_view t.values.items) (expr_view e.now)
      ∙ ap₂ with_last told.values (ap expr_view value)
      ∙ sym (values_push bs (declared_view d));
  many = ap length values ∙ length_push t.values.items e ∙ ap (λ n. n + 1) told.many ∙ sym (length_push bs (declared_view d));
}

-- ---- the label of a declaration

any_push : (p : Brought → Bool) (bs : List Brought) (d : Brought) → list_any p (bs ++ d ∷ []) ≡ (list_any p bs || p d)
any_push p bs d = list_any-append p bs (d ∷ []) ∙ ap (λ b. list_any p bs || b) (or_nothing (p d))

those_push : (s : List ℕ) (bs : List Brought) (d : Brought) → those_of s (bs ++ d ∷ []) ≡ those_of s bs ++ cond (is_of s d) (d ∷ []) []
those_push s bs d = filter-append (is_of s) bs (d ∷ [])

is_of_own : (d : Brought) (s : List ℕ) → stays_alone d ≡ false → d.label.text ≡ s → is_of s d ≡ true
is_of_own d s one same = ap₂ (λ e b. not e && b) one ((bytes_eq-Decides d.label.text s).1 same)

is_of_other : (d : Brought) (name s : List ℕ) → d.label.text ≡ name → bytes_eq name s ≡ false → is_of s d ≡ false
is_of_other d name s same other = ap (λ t. not (stays_alone d) && bytes_eq t s) same ∙ ap (λ b. not (stays_alone d) && b) other ∙ and_nothing (not (stays_alone d))

is_of_none : (d : Brought) (s : List ℕ) → stays_alone d ≡ true → is_of s d ≡ false
is_of_none d s every = ap (λ e. not e && bytes_eq d.label.text s) every

those_own : (s : List ℕ) (bs : List Brought) (d : Brought) → is_of s d ≡ true → those_of s (bs ++ d ∷ []) ≡ those_of s bs ++ d ∷ []
those_own s bs d own = those_push s bs d ∙ ap (λ b. those_of s bs ++ cond b (d ∷ []) []) own

those_other : (s : List ℕ) (bs : List Brought) (d : Brought) → is_of s d ≡ false → those_of s (bs ++ d ∷ []) ≡ those_of s bs
those_other s bs d other = those_push s bs d ∙ ap (λ b. those_of s bs ++ cond b (d ∷ []) []) other ∙ append-nil (those_of s bs)

-- ---- what the table tells of another label

module _ (ds : List DefinitionTree) (s : List ℕ) (d : Brought) (other : is_of s d ≡ false) where
  kept_all : (o : Option Label) (all : List Brought) → TellsLabel o ds s all [] → TellsLabel o ds s (all ++ d ∷ []) []
  kept_all None all told = those_other s all d other ∙ told
  kept_all (Some (Unmet t)) all told = (subst (λ bs. IsTogether t s bs) (sym (those_other s all d other)) told.0, told.1)
  kept_all (Some (Met b)) all told = (told.0 ∙ ap (gathers ds) (sym (those_other s all d other)), told.1)

  any_other : (before : List Brought) → list_any (is_of s) (before ++ d ∷ []) ≡ list_any (is_of s) before
  any_other before = any_push (is_of s) before d ∙ ap (λ b. list_any (is_of s) before || b) other ∙ or_nothing (list_any (is_of s) before)

  kept_before : (o : Option Label) (all before : List Brought) → TellsLabel o ds s all before → TellsLabel o ds s all (before ++ d ∷ [])
  kept_before None all before told = told
  kept_before (Some (Unmet t)) all before told = (told.0, any_other before ∙ told.1)
  kept_before (Some (Met b)) all before told = (told.0, any_other before ∙ told.1)

abbrev pub Table : Type 0
Table = BTreeMap (Bor (List ℕ)) Label

abbrev pub label_at : List ℕ → Table → Option Label
label_at s m = get_by (λ k. slice_cmp nat_cmp s k.now) m

-- what is known of a label is taken from the table, and something else put back
table_put : (P : Option Label → List ℕ → Type 0) (m r n : Table) (name : List ℕ) (v : Label)
    → ((t : List ℕ) → label_at t r ≡ update bytes_eq (λ s. label_at s m) name None t)
    → ((t : List ℕ) → label_at t n ≡ update bytes_eq (λ s. label_at s r) name (Some v) t)
    → P (Some v) name → ((t : List ℕ) → bytes_eq name t ≡ false → P (label_at t m) t) → (t : List ℕ) → P (label_at t n) t
table_put P m r n name v without after here others t =
    subst (λ o. P o t) (sym (after t ∙ ap (λ o. cond (bytes_eq name t) (Some v) o) (without t))) (by (bytes_eq name t) refl)
  where
    by : (b : Bool) → bytes_eq name t ≡ b → P (cond b (Some v) (cond b None (label_at t m))) t
    by true h = subst (λ u. P (Some v) u) ((bytes_eq-Decides name t).0 h) here
    by false h = others t h

-- ---- all declarations, before the first is met

-- one more is put behind those of its label
pub label_added : (l k : Labels) (r : Table) (ds : List DefinitionTree) (bs : List Brought) (d : Brought) (name : List ℕ) (t : Together)
    → d.label.text ≡ name → stays_alone d ≡ false → TellsLabels l ds bs []
    → ((s : List ℕ) → label_at s r ≡ update bytes_eq (λ u. label_at u l.by_text) name None s)
    → ((s : List ℕ) → label_at s k.by_text ≡ update bytes_eq (λ u. label_at u r) name (Some (Unmet t)) s)
    → IsTogether t name (those_of name bs ++ d ∷ []) → TellsLabels k ds (bs ++ d ∷ []) []
label_added l k r ds bs d name t same one told without after put =
    table_put (λ o s. TellsLabel o ds s (bs ++ d ∷ []) []) l.by_text r k.by_text name (Unmet t) without after
    (subst (λ cs. IsTogether t name cs) (sym (those_own name bs d (is_of_own d name one same))) put, refl)
    (λ s other. kept_all ds s d (is_of_other d name s same other) (label_at s l.by_text) bs (told s))

-- ---- what stands for a declaration

parts : List ℕ → Bool → FieldMark → Trees → Option ℕ → Brought
parts s q m es p = record { label = written_label s q; mark = m; value = conjunction es; place = p; embedding = None }

together_as : (t : Together) (s : List ℕ) (bs : List Brought) → IsTogether t s bs → together_view t ≡ together s bs
unfolding parts
together_as t s bs told =
    ap (λ x. parts x t.quoted t.mark (trees_of (bodies_view t.values.items)) t.place) told.label
    ∙ ap (λ x. parts s x t.mark (trees_of (bodies_view t.values.items)) t.place) told.quoted
    ∙ ap (λ x. parts s (list_all (λ (d : Brought). d.label.quotes) bs) x (trees_of (bodies_view t.values.items)) t.place) told.mark
    ∙ ap (λ x. parts s (list_all (λ (d : Brought). d.label.quotes) bs) (mark_of bs) x t.place) told.values
    ∙ ap (λ x. parts s (list_all (λ (d : Brought). d.label.quotes) bs) (mark_of bs) (values_of bs) x) told.place

module _ (ds : List DefinitionTree) (all before : List Brought) (d : Brought) where
  -- one that is of every label stands for itself
  pub every_alone : stays_alone d ≡ true → gathered_at ds all before d ≡ d ∷ []
  every_alone every =
      ap (λ e. cond (not e && gathers ds (those_of d.label.text all)) (cond (list_any (is_of d.label.text) before) [] (together d.label.text (those_of d.label.text all) ∷ [])) (d ∷ [])) every

  module _ (one : stays_alone d ≡ false) where
    gathered_by : (g m : Bool) → gathers ds (those_of d.label.text all) ≡ g → list_any (is_of d.label.text) before ≡ m
        → gathered_at ds all before d ≡ cond g (cond m [] (together d.label.text (those_of d.label.text all) ∷ [])) (d ∷ [])
    gathered_by g m is met =
        ap (λ e. cond (not e && gathers ds (those_of d.label.text all)) (cond (list_any (is_of d.label.text) before) [] (together d.label.text (those_of d.label.text all) ∷ [])) (d ∷ [])) one
        ∙ ap₂ (λ x y. cond x (cond y [] (together d.label.text (those_of d.label.text all) ∷ [])) (d ∷ [])) is met

    pub first_stands : (o : Option Label) (t : Together) → o ≡ Some (Unmet t) → TellsLabel o ds d.label.text all before → true ≡ gathers ds (those_of d.label.text all)
        → Stands true (Some (Several t)) ds all before d
    first_stands o t is told g =
        let w = subst (λ p. TellsLabel p ds d.label.text all before) is told in
        let united = and_parts (nat_le (length (those_of d.label.text all)) most_gathered) (unites ds (values_of (those_of d.label.text all))) (sym g) in (
          g,
          ap (λ b. b ∷ []) (together_as t d.label.text (those_of d.label.text all) w.0) ∙ sym (gathered_by true false (sym g) w.1),
          (refl, ap (unites ds) w.0.values ∙ united.1, w.0.many),
        )

    -- whether it is put together with others
    pub gathered_is : (b : Bool) → b ≡ gathers ds (those_of d.label.text all) → b ≡ is_gathered ds all d
    gathered_is b g = g ∙ ap (λ a. not a && gathers ds (those_of d.label.text all)) (sym one)

  pub alone_for : stays_alone d ≡ true → is_gathered ds all d ≡ false
  alone_for alone = ap (λ a. not a && gathers ds (those_of d.label.text all)) alone

-- ---- one declaration is met

pub every_met : (l : Labels) (ds : List DefinitionTree) (all before : List Brought) (d : Brought) → stays_alone d ≡ true → TellsLabels l ds all before
    → TellsLabels l ds all (before ++ d ∷ [])
every_met l ds all before d every told s = kept_before ds s d (is_of_none d s every) (label_at s l.by_text) all before (told s)

pub label_met : (l k : Labels) (r : Table) (ds : List DefinitionTree) (all before : List Brought) (d : Brought) (name : List ℕ) (b : Bool)
    → d.label.text ≡ name → stays_alone d ≡ false → TellsLabels l ds all before
    → ((s : List ℕ) → label_at s r ≡ update bytes_eq (λ u. label_at u l.by_text) name None s)
    → ((s : List ℕ) → label_at s k.by_text ≡ update bytes_eq (λ u. label_at u r) name (Some (Met b)) s)
    → b ≡ gathers ds (those_of d.label.text all) → TellsLabels k ds all (before ++ d ∷ [])
label_met l k r ds all before d name b same one told without after is =
    table_put (λ o s. TellsLabel o ds s all (before ++ d ∷ [])) l.by_text r k.by_text name (Met b) without after (
      is ∙ ap (λ s. gathers ds (those_of s all)) same,
      any_push (is_of name) before d ∙ or_right (list_any (is_of name) before) (is_of name d) (is_of_own d name one same),
    )
    (λ s other. kept_before ds s d (is_of_other d name s same other) (label_at s l.by_text) all before (told s))

-- ---- one after another

pub declared_more : (xs : List Declared) (i : ℕ) (x : Declared) → i < length xs → x ≡ get_or xs i x
    → map declared_view (take (i + 1) xs) ≡ map declared_view (take i xs) ++ declared_view x ∷ []
declared_more xs i x l is =
    ap (map declared_view) (take_more xs i x l ∙ ap (λ y. take i xs ++ y ∷ []) (sym is)) ∙ map-append declared_view (take i xs) (x ∷ [])

pub declared_rest : (xs : List Declared) (i : ℕ) (x : Declared) → i < length xs → x ≡ get_or xs i x
    → map declared_view (drop i xs) ≡ declared_view x ∷ map declared_view (drop (i + 1) xs)
declared_rest xs i x l is = ap (map declared_view) (at_place xs i x l is)

-- what is gathered so far, where these are before and these behind
pub record GathersSoFar (found : List Gathered) (ds : List DefinitionTree) (all before behind : List Brought) : Type 0 where
  pub whole : map gathered_view found ++ gathered_behind ds all before behind ≡ gathered ds all
  pub sound : AllByRecursion (IsSound ds) found

module _ (ds : List DefinitionTree) (xs : List Declared) (i : ℕ) (x : Declared) (l : i < length xs) (is : x ≡ get_or xs i x) (found : List Gathered) where
  abbrev all : List Brought
  all = map declared_view xs

  abbrev before : List Brought
  before = map declared_view (take i xs)

  abbrev behind : List Brought
  behind = map declared_view (drop (i + 1) xs)

  step : (found' : List Gathered) → map gathered_view found' ≡ map gathered_view found ++ gathered_at ds all before (declared_view x) → AllByRecursion (IsSound ds) found'
      → GathersSoFar found ds all before (map declared_view (drop i xs)) → GathersSoFar found' ds all (map declared_view (take (i + 1) xs)) behind
  step found' grown sound told = record {
    whole =
        ap₂ (λ fs bs. fs ++ gathered_behind ds all bs behind) grown (declared_more xs i x l is)
        ∙ append_assoc (map gathered_view found) (gathered_at ds all before (declared_view x)) (gathered_behind ds all (before ++ declared_view x ∷ []) behind)
        ∙ ap (λ bs. map gathered_view found ++ gathered_behind ds all before bs) (sym (declared_rest xs i x l is))
        ∙ told.whole;
    sound = sound;
  }

  pub one_stands : (g : Gathered) (found' : List Gathered) → found' ≡ found ++ g ∷ [] → gathered_view g ∷ [] ≡ gathered_at ds all before (declared_view x) → IsSound ds g
      → GathersSoFar found ds all before (map declared_view (drop i xs)) → GathersSoFar found' ds all (map declared_view (take (i + 1) xs)) behind
  one_stands g found' grown stands sound told =
      step found' (ap (map gathered_view) grown ∙ map-append gathered_view found (g ∷ []) ∙ ap (λ bs. map gathered_view found ++ bs) stands)
      (subst (AllByRecursion (IsSound ds)) (sym grown) (all-append (IsSound ds) found (g ∷ []) told.sound (sound, tt))) told

  pub nothing_stands : [] ≡ gathered_at ds all before (declared_view x)
      → GathersSoFar found ds all before (map declared_view (drop i xs)) → GathersSoFar found ds all (map declared_view (take (i + 1) xs)) behind
  nothing_stands stands told =
      step found (sym (append-nil (map gathered_view found)) ∙ ap (λ bs. map gathered_view found ++ bs) stands) told.sound told

pub all_gathered : (ds : List DefinitionTree) (xs : List Declared) (i : ℕ) (found : List Gathered) → length xs ≤ i
    → GathersSoFar found ds (map declared_view xs) (map declared_view (take i xs)) (map declared_view (drop i xs)) → map gathered_view found ≡ gathered ds (map declared_view xs)
all_gathered ds xs i found l told =
    sym (append-nil (map gathered_view found))
    ∙ ap (λ ys. map gathered_view found ++ gathered_behind ds (map declared_view xs) (map declared_view (take i xs)) (map declared_view ys)) (sym (drop_all xs i l))
    ∙ told.whole
