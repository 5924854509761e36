-- A declaration that a condition made, of a label that is declared beside it, asks for nothing more of a map than what it asks by itself: it is put
-- together with no other, and allows no further key.
use Rattle.std.proofs.Common.{◌≡◌, ℕ, Bool, true, false, not, cond, List, [], ◌∷◌, ◌++◌, Option, append_assoc, append-nil, refl, sym, ap, ap₂, ◌∙◌}
use Rattle.std.proofs.lemmas.Bool.{or_left, or_right}
use Rattle.std.proofs.lemmas.List.Folds.{list_any-append, list_all-append}
use Rattle.std.proofs.lemmas.Slice.Eq.{bytes_eq-Decides}
use Rattle.std.specs.Prelude.{◌&&◌, ◌||◌}
use Rattle.std.specs.List.{AllByRecursion, list_all, list_any}
use Rattle.std.specs.Str.{bytes_eq}
use Rattle.cs_document.specs.Document.{Entry}
use Rattle.cs_grammar.specs.declared.ast.FieldMark.{FieldMark}
use Rattle.cs_grammar.specs.Tree.{Label, Tree, DefinitionTree}
use Rattle.cs_embeddings.specs.Alternatives.{Origin, Brought, Alternative, with_declaration, opened_if, meets, meet}
use Rattle.cs_embeddings.specs.Gathered.{is_every, is_asked_or_plain, stays_alone, is_of, those_of, gathers, together, gathered_at, gathered_behind, gathered}
use Rattle.cs_embeddings.specs.Held.{is_plain}
use Rattle.cs_widen.specs.Direct.{declaration_reads}
use Rattle.cs_widen.specs.Embedding.{is_declared, declarations_read, alternative_reads}
use Rattle.cs_widen.proofs.Alongside.{AreAlongside, IsKept}
use Rattle.cs_widen.proofs.Direct.{all_same}

-- ---- truth values

third_first : (g r x : Bool) → (g && (r && x)) ≡ (r && (g && x))
third_first true r x = refl
third_first false true x = refl
third_first false false x = refl

asked_first : (r g o k : Bool) → ((r && g) && (o || k)) ≡ (r && (g && (o || k)))
asked_first true g o k = refl
asked_first false g o k = refl

either_asked : (r x y : Bool) → ((r && x) || (r && y)) ≡ (r && (x || y))
either_asked true x y = refl
either_asked false x y = refl

nothing_asked : (r : Bool) → false ≡ (r && false)
nothing_asked true = refl
nothing_asked false = refl

key_beside : (x b y : Bool) → (b ≡ true → (x || y) ≡ true) → (x || (b || y)) ≡ (x || y)
key_beside true b y h = refl
key_beside false true y h = sym (h refl)
key_beside false false y h = refl

-- ---- one declaration, which a condition made

module _ (ds : List DefinitionTree) (d : Brought) (asked : d.label.asked ≡ true) where
  alone : stays_alone d ≡ true
  alone = or_right (is_every d.mark) (is_asked_or_plain d) (or_left d.label.asked (is_plain d.value) asked)

  no_other : (s : List ℕ) → is_of s d ≡ false
  no_other s = ap (λ b. not b && bytes_eq d.label.text s) alone

  -- it is none of those of a label
  those_without : (s : List ℕ) (front behind : List Brought) → those_of s (front ++ d ∷ behind) ≡ those_of s (front ++ behind)
  those_without s [] behind = ap (λ b. cond b (d ∷ those_of s behind) (those_of s behind)) (no_other s)
  those_without s (x ∷ front) behind = ap (λ bs. cond (is_of s x) (x ∷ bs) bs) (those_without s front behind)

  stays : (all before : List Brought) → gathered_at ds all before d ≡ d ∷ []
  stays all before =
      ap (λ b. cond (not b && gathers ds (those_of d.label.text all)) (cond (list_any (is_of d.label.text) before) [] (together d.label.text (those_of d.label.text all) ∷ []))
      (d ∷ [])) alone

  -- the declarations of each label are the same in both, and so is whether there is one before
  module _ (all others : List Brought) (alike : (s : List ℕ) → those_of s all ≡ those_of s others) where
    abbrev AreSeenAlike : List Brought → List Brought → Type 0
    AreSeenAlike xs ys = (s : List ℕ) → list_any (is_of s) xs ≡ list_any (is_of s) ys

    left_alike : (xs ys : List Brought) → AreSeenAlike xs ys → (x : Brought) → gathered_at ds all xs x ≡ gathered_at ds others ys x
    left_alike xs ys seen x =
        ap₂ (λ those b. cond (not (stays_alone x) && gathers ds those) (cond b [] (together x.label.text those ∷ [])) (x ∷ []))
        (alike x.label.text) (seen x.label.text)

    seen_more : (xs ys : List Brought) → AreSeenAlike xs ys → (x : Brought) → AreSeenAlike (xs ++ x ∷ []) (ys ++ x ∷ [])
    seen_more xs ys seen x s =
        list_any-append (is_of s) xs (x ∷ []) ∙ ap (λ b. b || list_any (is_of s) (x ∷ [])) (seen s) ∙ sym (list_any-append (is_of s) ys (x ∷ []))

    behind_alike : (xs ys : List Brought) → AreSeenAlike xs ys → (bs : List Brought) → gathered_behind ds all xs bs ≡ gathered_behind ds others ys bs
    behind_alike xs ys seen [] = refl
    behind_alike xs ys seen (x ∷ bs) =
        ap₂ (λ us vs. us ++ vs) (left_alike xs ys seen x) (behind_alike (xs ++ x ∷ []) (ys ++ x ∷ []) (seen_more xs ys seen x) bs)

    or_none : (b : Bool) → (b || false) ≡ b
    or_none true = refl
    or_none false = refl

    seen_without : (xs ys : List Brought) → AreSeenAlike xs ys → AreSeenAlike (xs ++ d ∷ []) ys
    seen_without xs ys seen s =
        list_any-append (is_of s) xs (d ∷ []) ∙ ap₂ (λ b c. b || (c || false)) (seen s) (no_other s) ∙ or_none (list_any (is_of s) ys)

    -- what is left is met where the declaration is, and the others are
    module _ (meets : Brought → Bool) where
      left_reads : (behind front xs ys : List Brought) → AreSeenAlike xs ys
          → list_all meets (gathered_behind ds all xs (front ++ d ∷ behind)) ≡ (meets d && list_all meets (gathered_behind ds others ys (front ++ behind)))
      left_reads behind [] xs ys seen =
          ap (λ bs. list_all meets (bs ++ gathered_behind ds all (xs ++ d ∷ []) behind)) (stays all xs)
          ∙ ap (λ bs. meets d && list_all meets bs) (behind_alike (xs ++ d ∷ []) ys (seen_without xs ys seen) behind)
      left_reads behind (x ∷ front) xs ys seen =
          let here = gathered_at ds others ys x in
          let rest = gathered_behind ds others (ys ++ x ∷ []) (front ++ behind) in
          list_all-append meets (gathered_at ds all xs x) (gathered_behind ds all (xs ++ x ∷ []) (front ++ d ∷ behind))
          ∙ ap₂ (λ us b. list_all meets us && b) (left_alike xs ys seen x) (left_reads behind front (xs ++ x ∷ []) (ys ++ x ∷ []) (seen_more xs ys seen x))
          ∙ third_first (list_all meets here) (meets d) (list_all meets rest)
          ∙ ap (λ b. meets d && b) (sym (list_all-append meets here rest))

  gathered_reads : (meets : Brought → Bool) (front behind : List Brought)
      → list_all meets (gathered ds (front ++ d ∷ behind)) ≡ (meets d && list_all meets (gathered ds (front ++ behind)))
  gathered_reads meets front behind =
      left_reads (front ++ d ∷ behind) (front ++ behind) (λ s. those_without s front behind) meets behind front [] [] (λ s. refl)

  -- where its label is declared beside it, it allows no further key
  module _ (regular : is_every d.mark ≡ false) (k : List ℕ) where
    abbrev declares : Brought → Bool
    declares c = is_every c.mark || bytes_eq k c.label.text

    same_key : (front behind : List Brought) → is_declared d.label.text (front ++ behind) ≡ true
        → is_declared k (front ++ d ∷ behind) ≡ is_declared k (front ++ behind)
    same_key front behind beside =
        list_any-append declares front (d ∷ behind)
        ∙ ap (λ b. is_declared k front || ((b || bytes_eq k d.label.text) || is_declared k behind)) regular
        ∙ key_beside (is_declared k front) (bytes_eq k d.label.text) (is_declared k behind) known
        ∙ sym (list_any-append declares front behind)
      where
        known : bytes_eq k d.label.text ≡ true → (is_declared k front || is_declared k behind) ≡ true
        known h =
            sym (list_any-append declares front behind)
            ∙ ap (λ s. is_declared s (front ++ behind)) ((bytes_eq-Decides k d.label.text).0 h)
            ∙ beside

-- ---- alternatives with the declaration and without

-- b is a with the declaration d among the others
pub record IsWith (d : Brought) (a b : Alternative) : Type 0 where
  pub front : List Brought
  pub behind : List Brought
  pub fewer : a.declarations ≡ front ++ behind
  pub all : b.declarations ≡ front ++ d ∷ behind
  pub opened : a.opened ≡ b.opened
  pub met : a.met ≡ b.met

abbrev pub brought_by : Origin → Label → FieldMark → Tree → Brought
brought_by p l m e = record { label = l; mark = m; value = e; place = p.place; embedding = p.embedding }

-- at its end
pub just_brought : (p : Origin) (l : Label) (m : FieldMark) (e : Tree) (a : Alternative) → IsWith (brought_by p l m e) a (with_declaration p l m e a)
just_brought p l m e a = record { front = a.declarations; behind = []; fewer = sym (append-nil a.declarations); all = refl; opened = refl; met = refl }

module _ (d : Brought) where
  more_declared : (p : Origin) (l : Label) (m : FieldMark) (e : Tree) (a b : Alternative) → IsWith d a b
      → IsWith d (with_declaration p l m e a) (with_declaration p l m e b)
  more_declared p l m e a b h =
      let x : Brought = brought_by p l m e in
      record {
        front = h.front;
        behind = h.behind ++ x ∷ [];
        fewer = ap (λ bs. bs ++ x ∷ []) h.fewer ∙ append_assoc h.front h.behind (x ∷ []);
        all = ap (λ bs. bs ++ x ∷ []) h.all ∙ append_assoc h.front (d ∷ h.behind) (x ∷ []);
        opened = h.opened;
        met = h.met;
      }

  more_opened : (c : Bool) (a b : Alternative) → IsWith d a b → IsWith d (opened_if c a) (opened_if c b)
  more_opened c a b h =
      record { front = h.front; behind = h.behind; fewer = h.fewer; all = h.all; opened = ap (λ o. o || c) h.opened; met = h.met }

  more_met : (s : List ℕ) (a b : Alternative) → IsWith d a b → IsWith d (meet s a) (meet s b)
  more_met s a b h =
      record { front = h.front; behind = h.behind; fewer = h.fewer; all = h.all; opened = h.opened; met = ap (λ ss. ss ++ s ∷ []) h.met }

  same_met : (s : List ℕ) (a b : Alternative) → IsWith d a b → meets s a ≡ meets s b
  same_met s a b h = ap (λ ss. list_any (bytes_eq s) ss) h.met

  pub stays_with : IsKept (IsWith d)
  stays_with = record { declaration = more_declared; opening = more_opened; meeting = more_met; met = same_met }

module _ {A : Type 0} (has : List ℕ → Bool) (inside : Option ℕ → A → Tree → Bool) (ds : List DefinitionTree) (ms : List (Entry A)) where
  -- what a declaration asks of the map by itself
  abbrev pub asks : Brought → Bool
  asks d = declaration_reads has (inside d.place) d.label.text d.mark d.value ms

  abbrev pub reads : Alternative → Bool
  reads a = alternative_reads has inside ds a ms

  module _ (d : Brought) (asked : d.label.asked ≡ true) (regular : is_every d.mark ≡ false) where
    -- the label of d is declared beside it
    abbrev pub HasLabel : Alternative → Type 0
    HasLabel a = is_declared d.label.text a.declarations ≡ true

    with_reads : (a b : Alternative) → IsWith d a b → HasLabel a → reads b ≡ (asks d && reads a)
    with_reads a b h beside =
        let few = h.front ++ h.behind in
        let many = h.front ++ d ∷ h.behind in
        ap₂ (λ bs (o : Bool). declarations_read has inside (gathered ds bs) ms && (o || list_all (λ (m : Entry A). is_declared m.0 bs) ms)) h.all (sym h.opened)
        ∙ ap₂ (λ (x k : Bool). x && (a.opened || k)) (gathered_reads ds d asked asks h.front h.behind)
        (all_same (λ (m : Entry A). is_declared m.0 many) (λ (m : Entry A). is_declared m.0 few)
        (λ (m : Entry A). same_key ds d asked regular m.0 h.front h.behind (sym (ap (is_declared d.label.text) h.fewer) ∙ beside)) ms)
        ∙ asked_first (asks d) (declarations_read has inside (gathered ds few) ms) a.opened (list_all (λ (m : Entry A). is_declared m.0 few) ms)
        ∙ ap (λ bs. asks d && (declarations_read has inside (gathered ds bs) ms && (a.opened || list_all (λ (m : Entry A). is_declared m.0 bs) ms))) (sym h.fewer)

    -- the same of several
    pub all_with_read : (xs ys : List Alternative) → AreAlongside (IsWith d) xs ys → AllByRecursion HasLabel xs → list_any reads ys ≡ (asks d && list_any reads xs)
    all_with_read [] [] h beside = nothing_asked (asks d)
    all_with_read [] (b ∷ ys) h beside = absurd h
    all_with_read (a ∷ xs) [] h beside = absurd h
    all_with_read (a ∷ xs) (b ∷ ys) h beside =
        ap₂ (λ x y. x || y) (with_reads a b h.0 beside.0) (all_with_read xs ys h.1 beside.1)
        ∙ either_asked (asks d) (reads a) (list_any reads xs)
