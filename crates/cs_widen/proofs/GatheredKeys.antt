-- Declarations of one label that are put together allow the same keys.
use Rattle.std.proofs.Common.{◌≡◌, ℕ, Bool, true, false, ◌⊎◌, cond, List, [], ◌∷◌, ◌++◌, refl, sym, ◌∙◌, inl, inr}
use Rattle.std.proofs.lemmas.Bool.{and_parts, or_left, or_right}
use Rattle.std.proofs.lemmas.List.Folds.{list_any-append}
use Rattle.std.proofs.lemmas.Slice.Eq.{bytes_eq-Decides}
use Rattle.std.specs.Prelude.{◌&&◌, ◌||◌, not}
use Rattle.std.specs.List.{list_any}
use Rattle.std.specs.Str.{bytes_eq}
use Rattle.cs_grammar.specs.declared.ast.FieldMark.{FieldMark}
use Rattle.cs_grammar.specs.declared.ast.FieldMark.TheVariants.{Regular, Optional, Required, Every}
use Rattle.cs_grammar.specs.Tree.{DefinitionTree}
use Rattle.cs_embeddings.specs.Alternatives.{Brought}
use Rattle.cs_embeddings.specs.Gathered.{is_every, stays_alone, is_of, those_of, is_gathered, gathers, mark_or, mark_of, together, gathered_at, gathered_behind, gathered}
use Rattle.cs_embeddings.specs.Held.{is_plain}
use Rattle.cs_widen.specs.Embedding.{is_declared}

-- ---- what is left of the declarations of a label isn't `[string]`

not_first : (a b : Bool) → not (a || b) ≡ true → a ≡ false
not_first true b h = cc
not_first false b h = refl

regular_or : (m n : FieldMark) → is_every m ≡ false → is_every n ≡ false → is_every (mark_or m n) ≡ false
regular_or Regular n p q = refl
regular_or Optional n p q = q
regular_or Required n p q = refl
regular_or (Every o) n p q = cc

not_every : (s : List ℕ) (bs : List Brought) → is_every (mark_of (those_of s bs)) ≡ false
not_every s [] = refl
not_every s (d ∷ bs) = by (is_every d.mark) (d.label.asked || is_plain d.value) (bytes_eq d.label.text s) refl (not_every s bs)
  where
    by : (b p c : Bool) → is_every d.mark ≡ b → is_every (mark_of (those_of s bs)) ≡ false
        → is_every (mark_of (cond (not (b || p) && c) (d ∷ those_of s bs) (those_of s bs))) ≡ false
    by true p c is behind = behind
    by false true c is behind = behind
    by false false true is behind = regular_or d.mark (mark_of (those_of s bs)) is behind
    by false false false is behind = behind

-- ---- the keys

same_text : (k s t : List ℕ) → bytes_eq k s ≡ true → bytes_eq t s ≡ true → bytes_eq k t ≡ true
same_text k s t p q = (bytes_eq-Decides k t).1 ((bytes_eq-Decides k s).0 p ∙ sym ((bytes_eq-Decides t s).0 q))

module _ (k : List ℕ) where
  abbrev declares : Brought → Bool
  declares d = is_every d.mark || bytes_eq k d.label.text

  -- a declaration of the label is before
  declared_before : (s : List ℕ) → bytes_eq k s ≡ true → (before : List Brought) → list_any (is_of s) before ≡ true → is_declared k before ≡ true
  declared_before s same [] h = cc
  declared_before s same (d ∷ bs) h = by (is_of s d) refl h (declared_before s same bs)
    where
      by : (b : Bool) → is_of s d ≡ b → (b || list_any (is_of s) bs) ≡ true → (list_any (is_of s) bs ≡ true → is_declared k bs ≡ true)
          → is_declared k (d ∷ bs) ≡ true
      by true is g behind =
          let text = (and_parts (not (stays_alone d)) (bytes_eq d.label.text s) is).1 in
          or_left (declares d) (is_declared k bs) (or_right (is_every d.mark) (bytes_eq k d.label.text) (same_text k s d.label.text same text))
      by false is g behind = or_right (declares d) (is_declared k bs) (behind g)

  -- what is left of a declaration declares what that does, or nothing where one before it declares that
  abbrev DeclareAlike : Bool → Bool → Bool → Type 0
  DeclareAlike before left here = (left ≡ (here || false)) ⊎ ((left ≡ false) × (here ≡ true → before ≡ true))

  alike : (a g x more behind : Bool) → DeclareAlike a g x → ((a || (x || false)) || more) ≡ ((a || (x || false)) || behind) → (a || (g || more)) ≡ (a || (x || behind))
  alike true g x more behind c h = refl
  alike false g true more behind (inl same) h = rw same refl
  alike false g false more behind (inl same) h = rw same h
  alike false g true more behind (inr none) h = let never : false ≡ true = none.1 refl in cc
  alike false g false more behind (inr none) h = rw none.0 h

  module _ (ds : List DefinitionTree) (all : List Brought) where
    left_alike : (before : List Brought) (d : Brought) → DeclareAlike (is_declared k before) (is_declared k (gathered_at ds all before d)) (declares d)
    left_alike before d = by (is_gathered ds all d) refl
      where
        first : is_every d.mark ≡ false → (c : Bool) → list_any (is_of d.label.text) before ≡ c
            → DeclareAlike (is_declared k before) (is_declared k (cond c [] (together d.label.text (those_of d.label.text all) ∷ []))) (declares d)
        first regular true seen =
            inr (refl, λ (h : declares d ≡ true). declared_before d.label.text (rw regular at h) before seen)
        first regular false seen = inl (rw (not_every d.label.text all, regular) refl)

        by : (b : Bool) → is_gathered ds all d ≡ b
            → DeclareAlike (is_declared k before)
            (is_declared k (cond b (cond (list_any (is_of d.label.text) before) [] (together d.label.text (those_of d.label.text all) ∷ [])) (d ∷ []))) (declares d)
        by true is =
            let regular = not_first (is_every d.mark) (d.label.asked || is_plain d.value) (and_parts (not (stays_alone d)) (gathers ds (those_of d.label.text all)) is).0 in
            first regular (list_any (is_of d.label.text) before) refl
        by false is = inl refl

    same_behind : (before bs : List Brought) → (is_declared k before || is_declared k (gathered_behind ds all before bs)) ≡ (is_declared k before || is_declared k bs)
    same_behind before [] = refl
    same_behind before (d ∷ bs) =
        let later = same_behind (before ++ d ∷ []) bs in
        let rest = gathered_behind ds all (before ++ d ∷ []) bs in
        rw (list_any-append declares (gathered_at ds all before d) rest)
        (alike (is_declared k before) (is_declared k (gathered_at ds all before d)) (declares d) (is_declared k rest) (is_declared k bs)
        (left_alike before d) (rw (list_any-append declares before (d ∷ [])) at later))

  pub same_declared : (ds : List DefinitionTree) (bs : List Brought) → is_declared k (gathered ds bs) ≡ is_declared k bs
  same_declared ds bs = same_behind ds bs [] bs
