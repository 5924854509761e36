-- What is left of the definitions of files, one after another.
use Rattle.std.proofs.Common.{◌≡◌, ℕ, ◌+◌, ◌<◌, ◌≤◌, Bool, true, false, not, ◌&&◌, cond, nat_le, List, [], ◌∷◌, ◌++◌, Option, Some, None, map, take, drop, length, get_or, sym, ap, ap₂, ◌∙◌, subst, arith}
use Rattle.std.proofs.lemmas.Bool.Decides.{nat_tests}
use Rattle.std.proofs.lemmas.Grind.{flat_map-append}
use Rattle.std.proofs.lemmas.List.{map-append, append_assoc, append-nil, take_all}
use Rattle.std.specs.List.{flat_map, list_any, AllByRecursion}
use Rattle.cs_grammar.specs.Tree.{DefinitionTree, definitions, package_name}
use Rattle.cs_grammar.specs.View.{file_view}
use Rattle.cs_grammar.specs.declared.ast.File.{File}
use Rattle.cs_embeddings.proofs.Gathering.{declared_more, declared_rest}
use Rattle.cs_embeddings.proofs.Parts.{take_at}
use Rattle.cs_embeddings.proofs.Walks.{at_place, drop_all}
use Rattle.cs_embeddings.proofs.WellAlternatives.{all-append}
use Rattle.cs_embeddings.specs.Alternatives.{Brought}
use Rattle.cs_embeddings.specs.Bodies.{Body, as_declared, part_place, bodies_behind, left_behind}
use Rattle.cs_embeddings.specs.Gathered.{is_of, those_of, is_gathered, together, gathered_at}
use Rattle.cs_embeddings.specs.GatheredTable.{declared_view, gathered_view, body_view, left_view, IsSound, AreSound, StandsFor}
use Rattle.cs_embeddings.specs.declared.gathered.Declared.{Declared}
use Rattle.cs_embeddings.specs.declared.gathered.Gathered.{Gathered}
use Rattle.cs_embeddings.specs.declared.gathered.Gathered.TheVariants.{One, Several}
use Rattle.cs_embeddings.specs.declared.kept.Kept.{Kept}
use Rattle.cs_embeddings.specs.declared.kept.KeptFile.{KeptFile}

cons_same : {x y : Brought} → x ∷ [] ≡ y ∷ [] → x ≡ y
cons_same h = cc

pub sound_of : (ds : List DefinitionTree) (b : Bool) (all : List Brought) (d : Brought) (g : Gathered) → StandsFor (Some g) b ds all d → IsSound ds g
sound_of ds b all d (One x) h = tt
sound_of ds b all d (Several t) h = h.1

-- what stands for a declaration has its label
pub gathered_label : (ds : List DefinitionTree) (all before : List Brought) (d g : Brought) → g ∷ [] ≡ gathered_at ds all before d → g.label.text ≡ d.label.text
gathered_label ds all before d g h = by (is_gathered ds all d) (list_any (is_of d.label.text) before) h
  where
    by : (b c : Bool) → g ∷ [] ≡ cond b (cond c [] (together d.label.text (those_of d.label.text all) ∷ [])) (d ∷ []) → g.label.text ≡ d.label.text
    by true true k = cc
    by true false k = ap (λ e. e.label.text) (cons_same k)
    by false c k = ap (λ e. e.label.text) (cons_same k)

-- ---- the place of the parts

module _ (ds : List DefinitionTree) (here : List Brought) (d left : Brought) where
  abbrev all_of : ℕ
  all_of = length (those_of d.label.text (map as_declared ds))

  abbrev here_of : ℕ
  here_of = length (those_of d.label.text here)

  pub alone_placed : is_gathered ds (map as_declared ds) d ≡ false → None ≡ part_place ds here d left
  alone_placed h = sym (ap (λ b. cond (b && not (nat_le all_of here_of)) left.place None) h)

  module _ (several : is_gathered ds (map as_declared ds) d ≡ true) where
    placed_by : (b : Bool) → nat_le all_of here_of ≡ b → cond (not b) left.place None ≡ part_place ds here d left
    placed_by b h = sym (ap₂ (λ g c. cond (g && not c) left.place None) several h)

    pub near_placed : (n m : ℕ) → n ≡ here_of → m ≡ all_of → m ≤ n → None ≡ part_place ds here d left
    near_placed n m is all l = placed_by true (let k : nat_le all_of here_of ≡ true = grind (arith, nat_tests) in k)

    pub far_placed : (n m : ℕ) → n ≡ here_of → m ≡ all_of → n < m → left.place ≡ part_place ds here d left
    far_placed n m is all l = placed_by false (let k : nat_le all_of here_of ≡ false = grind (arith, nat_tests) in k)

-- ---- the bodies of a file

-- what is left so far in a file, where these are before and these behind
pub record KeepsSoFar (found : List Kept) (ds : List DefinitionTree) (here first before behind : List Brought) : Type 0 where
  pub whole : map body_view found ++ bodies_behind ds here before behind ≡ bodies_behind ds here first here
  pub sound : AllByRecursion (λ (k : Kept). IsSound ds k.standing) found

module _ (ds : List DefinitionTree) (first : List Brought) (xs : List Declared) where
  abbrev here : List Brought
  here = map declared_view xs

  module _ (i : ℕ) (x : Declared) (l : i < length xs) (is : x ≡ get_or xs i x) (found : List Kept) where
    abbrev before : List Brought
    before = first ++ map declared_view (take i xs)

    abbrev behind : List Brought
    behind = map declared_view (drop (i + 1) xs)

    abbrev after : List Brought
    after = first ++ map declared_view (take (i + 1) xs)

    abbrev stands : List Body
    stands = map (λ (g : Brought). let b : Body = record { declared = g; place = part_place ds here (declared_view x) g } in b) (gathered_at ds (map as_declared ds) before (declared_view x))

    pub one_behind : after ≡ before ++ declared_view x ∷ []
    one_behind = ap (λ ys. first ++ ys) (declared_more xs i x l is) ∙ sym (append_assoc first (map declared_view (take i xs)) (declared_view x ∷ []))

    step : (found' : List Kept) → map body_view found' ≡ map body_view found ++ stands → AllByRecursion (λ (k : Kept). IsSound ds k.standing) found'
        → KeepsSoFar found ds here first before (map declared_view (drop i xs)) → KeepsSoFar found' ds here first after behind
    step found' grown sound told = record {
      whole =
          ap₂ (λ fs bs. fs ++ bodies_behind ds here bs behind) grown one_behind
          ∙ append_assoc (map body_view found) stands (bodies_behind ds here (before ++ declared_view x ∷ []) behind)
          ∙ ap (λ bs. map body_view found ++ bodies_behind ds here before bs) (sym (declared_rest xs i x l is))
          ∙ told.whole;
      sound = sound;
    }

    pub one_kept : (k : Kept) (found' : List Kept) → found' ≡ found ++ k ∷ [] → gathered_view k.standing ∷ [] ≡ gathered_at ds (map as_declared ds) before (declared_view x)
        → k.place ≡ part_place ds here (declared_view x) (gathered_view k.standing) → IsSound ds k.standing
        → KeepsSoFar found ds here first before (map declared_view (drop i xs)) → KeepsSoFar found' ds here first after behind
    one_kept k found' grown left place sound told =
        step found'
        (ap (map body_view) grown ∙ map-append body_view found (k ∷ [])
        ∙ ap (λ (p : Option ℕ). map body_view found ++ (let b : Body = record { declared = gathered_view k.standing; place = p } in b) ∷ []) place
        ∙ ap (λ gs. map body_view found ++ map (λ (g : Brought). let b : Body = record { declared = g; place = part_place ds here (declared_view x) g } in b) gs) left)
        (subst (AllByRecursion (λ (k : Kept). IsSound ds k.standing)) (sym grown) (all-append (λ (k : Kept). IsSound ds k.standing) found (k ∷ []) told.sound (sound, tt)))
        told

    pub nothing_kept : [] ≡ gathered_at ds (map as_declared ds) before (declared_view x)
        → KeepsSoFar found ds here first before (map declared_view (drop i xs)) → KeepsSoFar found ds here first after behind
    nothing_kept left told =
        step found
        (sym (append-nil (map body_view found))
        ∙ ap (λ gs. map body_view found ++ map (λ (g : Brought). let b : Body = record { declared = g; place = part_place ds here (declared_view x) g } in b) gs) left)
        told.sound told

  pub all_kept : (i : ℕ) (found : List Kept) → length xs ≤ i
      → KeepsSoFar found ds here first (first ++ map declared_view (take i xs)) (map declared_view (drop i xs)) → map body_view found ≡ bodies_behind ds here first here
  all_kept i found l told =
      sym (append-nil (map body_view found))
      ∙ ap (λ ys. map body_view found ++ bodies_behind ds here (first ++ map declared_view (take i xs)) (map declared_view ys)) (sym (drop_all xs i l))
      ∙ told.whole

  pub none_kept : KeepsSoFar [] ds here first (first ++ []) here
  none_kept = record { whole = ap (λ bs. bodies_behind ds here bs here) (append-nil first); sound = tt }

-- ---- files

abbrev pub declared_before : List File → ℕ → List Brought
declared_before fs i = map as_declared (flat_map definitions (map file_view (take i fs)))

-- what is left so far in files, of which so many were met
pub record LeavesSoFar (found : List KeptFile) (ds : List DefinitionTree) (fs : List File) (i : ℕ) : Type 0 where
  pub whole : map left_view found ++ left_behind ds (declared_before fs i) (map file_view (drop i fs)) ≡ left_behind ds [] (map file_view fs)
  pub sound : AllByRecursion (AreSound ds) found

module _ (fs : List File) (i : ℕ) (f : File) (l : i < length fs) (is : f ≡ get_or fs i f) where
  abbrev own : List Brought
  own = map as_declared (definitions (file_view f))

  pub one_file_behind : declared_before fs (i + 1) ≡ declared_before fs i ++ own
  one_file_behind =
      ap (λ gs. map as_declared (flat_map definitions (map file_view gs))) (take_at fs i f l is)
      ∙ ap (λ gs. map as_declared (flat_map definitions gs)) (map-append file_view (take i fs) (f ∷ []))
      ∙ ap (map as_declared) (flat_map-append definitions (map file_view (take i fs)) (file_view f ∷ []) ∙ ap (λ es. flat_map definitions (map file_view (take i fs)) ++ es) (append-nil (definitions (file_view f))))
      ∙ map-append as_declared (flat_map definitions (map file_view (take i fs))) (definitions (file_view f))

  pub one_file_kept : (ds : List DefinitionTree) (found found' : List KeptFile) (k : KeptFile) → found' ≡ found ++ k ∷ []
      → left_view k ≡ record { clause = package_name (file_view f); bodies = bodies_behind ds own (declared_before fs i) own } → AreSound ds k
      → LeavesSoFar found ds fs i → LeavesSoFar found' ds fs (i + 1)
  one_file_kept ds found found' k grown left sound told = record {
    whole =
        ap (λ ks. map left_view ks ++ left_behind ds (declared_before fs (i + 1)) (map file_view (drop (i + 1) fs))) grown
        ∙ ap (λ ls. ls ++ left_behind ds (declared_before fs (i + 1)) (map file_view (drop (i + 1) fs))) (map-append left_view found (k ∷ []))
        ∙ append_assoc (map left_view found) (left_view k ∷ []) (left_behind ds (declared_before fs (i + 1)) (map file_view (drop (i + 1) fs)))
        ∙ ap₂ (λ b bs. map left_view found ++ (b ∷ left_behind ds bs (map file_view (drop (i + 1) fs)))) left one_file_behind
        ∙ ap (λ gs. map left_view found ++ left_behind ds (declared_before fs i) (map file_view gs)) (sym (at_place fs i f l is))
        ∙ told.whole;
    sound = subst (AllByRecursion (AreSound ds)) (sym grown) (all-append (AreSound ds) found (k ∷ []) told.sound (sound, tt));
  }

pub all_files_kept : (ds : List DefinitionTree) (fs : List File) (i : ℕ) (found : List KeptFile) → length fs ≤ i → LeavesSoFar found ds fs i
    → map left_view found ≡ left_behind ds [] (map file_view fs)
all_files_kept ds fs i found l told =
    sym (append-nil (map left_view found))
    ∙ ap (λ gs. map left_view found ++ left_behind ds (declared_before fs i) (map file_view gs)) (sym (drop_all fs i l))
    ∙ told.whole

pub all_declared_before : (fs : List File) (i : ℕ) → length fs ≤ i → declared_before fs i ≡ map as_declared (flat_map definitions (map file_view fs))
all_declared_before fs i l = ap (λ gs. map as_declared (flat_map definitions (map file_view gs))) (take_all i fs l)

pub no_file_kept : (ds : List DefinitionTree) (fs : List File) (found : List KeptFile) → found ≡ [] → LeavesSoFar found ds fs 0
no_file_kept ds fs found none = record {
  whole = ap (λ ks. map left_view ks ++ left_behind ds [] (map file_view fs)) none;
  sound = subst (AllByRecursion (AreSound ds)) (sym none) tt;
}
