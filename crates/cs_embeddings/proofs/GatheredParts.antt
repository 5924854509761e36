-- What holds of declarations holds of them where those of one label are put together.
use Rattle.std.proofs.Common.{◌≡◌, ◌⊎◌, ℕ, Bool, true, false, not, ◌&&◌, ◌||◌, cond, List, [], ◌∷◌, ◌++◌, filter, length, refl, subst, inl, inr}
use Rattle.std.proofs.lemmas.Bool.{and_parts, cond_both}
use Rattle.std.specs.List.{AllByRecursion, list_all, list_any}
use Rattle.std.specs.Prelude.{nat_le}
use Rattle.std.specs.Str.{bytes_eq}
use Rattle.std.proofs.lemmas.Slice.Eq.{bytes_eq-Decides}
use Rattle.cs_grammar.specs.declared.ast.FieldMark.{FieldMark}
use Rattle.cs_grammar.specs.declared.ast.FieldMark.TheVariants.{Regular, Optional, Required, Every}
use Rattle.cs_grammar.specs.Tree.{Label, Tree, atom, named, reference, conjunction, disjunction, paren, struct, list, wide, DefinitionTree}
use Rattle.cs_grammar.specs.Written.{by_itself, IsName, IsDefinitionName, IsWritten, AreWritten, IsTextOrName, IsWrittenLabel}
use Rattle.cs_embeddings.proofs.WellAlternatives.{all-append}
use Rattle.cs_embeddings.specs.Alternatives.{Brought}
use Rattle.cs_embeddings.specs.Embedded.{embeds_well, embed_well}
use Rattle.cs_embeddings.specs.Gathered.{is_every, is_asked_or_plain, stays_alone, is_of, those_of, values_of, gathers, is_gathered, most_gathered, mark_or, mark_of, together, gathered_at, gathered_behind, gathered}
use Rattle.cs_embeddings.specs.United.{unites}

-- ---- any property

all_filter : {X : Type 0} (P : X → Type 0) (f : X → Bool) (xs : List X) → AllByRecursion P xs → AllByRecursion (λ x. P x × (f x ≡ true)) (filter f xs)
all_filter P f [] h = tt
all_filter {X} P f (x ∷ xs) h = by (f x) refl (all_filter P f xs h.1)
  where
    by : (b : Bool) → f x ≡ b → AllByRecursion (λ y. P y × (f y ≡ true)) (filter f xs)
        → AllByRecursion (λ y. P y × (f y ≡ true)) (cond b (x ∷ filter f xs) (filter f xs))
    by true is rest = ((h.0, is), rest)
    by false is rest = rest

-- what holds of declarations of a label that are put together, from what holds of each
abbrev pub Kept : (Brought → Type 0) → (Brought → Type 0) → List DefinitionTree → Type 0
Kept P Q ds = (s : List ℕ) (bs : List Brought) → gathers ds bs ≡ true → AllByRecursion (λ d. P d × (is_of s d ≡ true)) bs → Q (together s bs)

module _ (ds : List DefinitionTree) (P Q : Brought → Type 0) (same : (d : Brought) → P d → Q d) (kept : Kept P Q ds) where
  pub at_one : (all before : List Brought) (d : Brought) → AllByRecursion P all → P d → AllByRecursion Q (gathered_at ds all before d)
  at_one all before d h here =
      let those = those_of d.label.text all in
      cond_both (is_gathered ds all d) (cond (list_any (is_of d.label.text) before) [] (together d.label.text those ∷ [])) (d ∷ []) (AllByRecursion Q)
      (λ is. cond_both (list_any (is_of d.label.text) before) [] (together d.label.text those ∷ []) (AllByRecursion Q)
      (λ met. tt) (λ first. (kept d.label.text those (and_parts (not (stays_alone d)) (gathers ds those) is).1 (all_filter P (is_of d.label.text) all h), tt)))
      (λ stays. (same d here, tt))

  behind : (all before bs : List Brought) → AllByRecursion P all → AllByRecursion P bs → AllByRecursion Q (gathered_behind ds all before bs)
  behind all before [] h k = tt
  behind all before (d ∷ bs) h k =
      all-append Q (gathered_at ds all before d) (gathered_behind ds all (before ++ d ∷ []) bs) (at_one all before d h k.0) (behind all (before ++ d ∷ []) bs h k.1)

  pub gathered_all : (bs : List Brought) → AllByRecursion P bs → AllByRecursion Q (gathered ds bs)
  gathered_all bs h = behind bs [] bs h h

-- ---- values that embed well

module _ (ds : List DefinitionTree) (inner : Tree → Bool) where
  abbrev pub IsWellBrought : Brought → Type 0
  IsWellBrought d = embeds_well inner d.value ≡ true

  pub well_values : (s : List ℕ) (bs : List Brought) → AllByRecursion (λ d. IsWellBrought d × (is_of s d ≡ true)) bs → embed_well inner (values_of bs) ≡ true
  well_values s [] h = refl
  well_values s (d ∷ bs) h = rw (h.0.0, well_values s bs h.1) refl

  pub gathered_well : (bs : List Brought) → AllByRecursion IsWellBrought bs → AllByRecursion IsWellBrought (gathered ds bs)
  gathered_well bs h = gathered_all ds IsWellBrought IsWellBrought (λ d w. w) (λ s bs g k. well_values s bs k) bs h

-- ---- what can be written down

not_first : (a b : Bool) → not (a || b) ≡ true → not a ≡ true
not_first true b h = h
not_first false b h = refl

abbrev pub IsWrittenBrought : Brought → Type 0
IsWrittenBrought d = IsWrittenLabel d.label d.mark × IsWritten by_itself d.value

module _ (ds : List DefinitionTree) where
  -- a value that can be written down, or values that are put together
  abbrev pub IsUnited : Tree → Type 0
  IsUnited (conjunction es) = (unites ds es ≡ true) × AreWritten by_itself es
  IsUnited (atom a) = ⊥
  IsUnited (named s o) = ⊥
  IsUnited (reference s o) = ⊥
  IsUnited (disjunction es) = ⊥
  IsUnited (paren e) = ⊥
  IsUnited (struct o fs b) = ⊥
  IsUnited (list es end) = ⊥
  IsUnited (wide w) = ⊥

  abbrev pub CanStand : Tree → Type 0
  CanStand e = IsWritten by_itself e ⊎ IsUnited e

  abbrev pub IsStanding : Brought → Type 0
  IsStanding d = IsWrittenLabel d.label d.mark × CanStand d.value

  abbrev IsOne : List ℕ → Brought → Type 0
  IsOne s d = IsWrittenBrought d × (is_of s d ≡ true)

  written_values : (s : List ℕ) (bs : List Brought) → AllByRecursion (IsOne s) bs → AreWritten by_itself (values_of bs)
  written_values s [] h = tt
  written_values s (d ∷ bs) h = (h.0.0.1, written_values s bs h.1)

  -- a declaration of a label without quotes
  named_label : (s : List ℕ) (d : Brought) → IsOne s d → d.label.quotes ≡ false → IsName s
  named_label s d h bare =
      let parts = and_parts (not (stays_alone d)) (bytes_eq d.label.text s) h.1 in
      subst IsName ((bytes_eq-Decides d.label.text s).0 parts.1) (by d.mark (not_first (is_every d.mark) (is_asked_or_plain d) parts.0) h.0.0)
    where
      by : (m : FieldMark) → not (is_every m) ≡ true → IsWrittenLabel d.label m → IsName d.label.text
      by Regular k w = w.1 bare
      by Optional k w = w.1 bare
      by Required k w = w.1 bare
      by (Every o) k w = cc

  some_name : (s : List ℕ) (bs : List Brought) → AllByRecursion (IsOne s) bs → list_all (λ d. d.label.quotes) bs ≡ false → IsName s
  some_name s [] h bare = cc
  some_name s (d ∷ bs) h bare = by d.label.quotes refl bare (some_name s bs h.1)
    where
      by : (q : Bool) → d.label.quotes ≡ q → (q && list_all (λ (c : Brought). c.label.quotes) bs) ≡ false
          → (list_all (λ (c : Brought). c.label.quotes) bs ≡ false → IsName s) → IsName s
      by true is k rest = rest k
      by false is k rest = named_label s d h.0 is

  label_kept : (l : Label) (m : FieldMark) → not (is_every m) ≡ true → IsTextOrName l → IsWrittenLabel l m
  label_kept l Regular k h = h
  label_kept l Optional k h = h
  label_kept l Required k h = h
  label_kept l (Every o) k h = cc

  no_every : (s : List ℕ) (bs : List Brought) → AllByRecursion (IsOne s) bs → not (is_every (mark_of bs)) ≡ true
  no_every s [] h = refl
  no_every s (d ∷ bs) h = by d.mark (not_first (is_every d.mark) (is_asked_or_plain d) (and_parts (not (stays_alone d)) (bytes_eq d.label.text s) h.0.1).0) (no_every s bs h.1)
    where
      by : (m : FieldMark) → not (is_every m) ≡ true → not (is_every (mark_of bs)) ≡ true → not (is_every (mark_or m (mark_of bs))) ≡ true
      by Regular k rest = refl
      by Optional k rest = rest
      by Required k rest = refl
      by (Every o) k rest = cc

  one_written : Kept IsWrittenBrought IsStanding ds
  one_written s bs g h = (
    label_kept (together s bs).label (mark_of bs) (no_every s bs h) (refl, λ bare. some_name s bs h bare),
    inr ((and_parts (nat_le (length bs) most_gathered) (unites ds (values_of bs)) g).1, written_values s bs h),
  )

  pub gathered_standing : (bs : List Brought) → AllByRecursion IsWrittenBrought bs → AllByRecursion IsStanding (gathered ds bs)
  gathered_standing bs h = gathered_all ds IsWrittenBrought IsStanding (λ d w. (w.0, inl w.1)) one_written bs h

  -- ---- bodies of definitions

  abbrev pub IsDefined : Brought → Type 0
  IsDefined d = IsDefinitionName d.label.text × IsWritten by_itself d.value

  abbrev pub CanBeDefined : Brought → Type 0
  CanBeDefined d = IsDefinitionName d.label.text × CanStand d.value

  abbrev IsOneBody : List ℕ → Brought → Type 0
  IsOneBody s d = IsDefined d × (is_of s d ≡ true)

  written_bodies : (s : List ℕ) (bs : List Brought) → AllByRecursion (IsOneBody s) bs → AreWritten by_itself (values_of bs)
  written_bodies s [] h = tt
  written_bodies s (d ∷ bs) h = (h.0.0.1, written_bodies s bs h.1)

  -- the name of all of them
  their_name : (s : List ℕ) (bs : List Brought) → gathers ds bs ≡ true → AllByRecursion (IsOneBody s) bs → IsDefinitionName s
  their_name s [] g h = cc
  their_name s (d ∷ bs) g h =
      subst IsDefinitionName ((bytes_eq-Decides d.label.text s).0 (and_parts (not (stays_alone d)) (bytes_eq d.label.text s) h.0.1).1) h.0.0.0

  pub one_defined : Kept IsDefined CanBeDefined ds
  one_defined s bs g h =
      (their_name s bs g h, inr ((and_parts (nat_le (length bs) most_gathered) (unites ds (values_of bs)) g).1, written_bodies s bs h))
