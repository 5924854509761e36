-- What is asked label by label, in the order of labels and with each label once, is what is asked declaration by declaration.
use Rattle.std.proofs.Common.{◌≡◌, ℕ, List, [], ◌∷◌, ◌++◌, Bool, true, false, not, ◌&&◌, ◌||◌, Ordering, Less, Equal, Greater, nat_cmp, bytes_eq, refl, sym, ap, ap₂, ◌∙◌, subst, if◌then◌else◌}
use Rattle.std.proofs.lemmas.Bool.{and_parts}
use Rattle.std.specs.List.{list_all, list_any, AllByRecursion as Each}
use Rattle.std.specs.Ordering.{match_ordering, is_eq}
use Rattle.std.specs.Cmp.Lexicographic.{slice_cmp}
use Rattle.std.proofs.lemmas.Map.Text.{is_eq-slice_cmp}
use Rattle.std.proofs.lemmas.Slice.Eq.{bytes_eq-Decides}
use Rattle.cs_document.specs.Document.{Document, Entry, Members, no_members, member, entries, put}
use Rattle.cs_document.proofs.Each.{all_true, each_map, each_over, each_under}
use Rattle.cs_package.specs.Expression.{Declaration}
use Rattle.cs_compile.proofs.Firsts.{not-all, all_filter, all_firsts}
use Rattle.cs_compile.specs.Grouped.{is_asked}
use Rattle.cs_compile.specs.Translation.{members_at, labels_of, values_of, firsts, required_of, must_be_there}

-- ---- truth values

pub same_truth : (a b : Bool) → (a ≡ true → b ≡ true) → (b ≡ true → a ≡ true) → a ≡ b
same_truth true true f g = refl
same_truth true false f g = sym (f refl)
same_truth false true f g = g refl
same_truth false false f g = refl

both : (a b : Bool) → a ≡ true → b ≡ true → (a && b) ≡ true
both true b e f = f
both false b e f = e

twice : (a r : Bool) → (a && r) ≡ (a && (a && r))
twice true r = refl
twice false r = refl

swapped : (a b r : Bool) → (b && (a && r)) ≡ (a && (b && r))
swapped true true r = refl
swapped true false r = refl
swapped false true r = refl
swapped false false r = refl

pub all_from : {X : Type 0} (f : X → Bool) (xs : List X) → Each (λ x. f x ≡ true) xs → list_all f xs ≡ true
all_from f [] h = refl
all_from f (x ∷ xs) h = both (f x) (list_all f xs) h.0 (all_from f xs h.1)

-- each of the one list follows from each of the other
pub all_alike : {X Y : Type 0} (f : X → Bool) (g : Y → Bool) (xs : List X) (ys : List Y)
    → (Each (λ x. f x ≡ true) xs → Each (λ y. g y ≡ true) ys) → (Each (λ y. g y ≡ true) ys → Each (λ x. f x ≡ true) xs)
    → list_all f xs ≡ list_all g ys
all_alike f g xs ys there back =
    same_truth (list_all f xs) (list_all g ys) (λ e. all_from g ys (there (all_true f xs e))) (λ e. all_from f xs (back (all_true g ys e)))

pub all_both : {X : Type 0} (f g : X → Bool) (xs : List X) → list_all (λ x. f x && g x) xs ≡ (list_all f xs && list_all g xs)
all_both f g [] = refl
all_both f g (x ∷ xs) = ap (λ b. (f x && g x) && b) (all_both f g xs) ∙ four (f x) (g x) (list_all f xs) (list_all g xs)
  where
    four : (a b c d : Bool) → ((a && b) && (c && d)) ≡ ((a && c) && (b && d))
    four true true c d = refl
    four true false true d = refl
    four true false false d = refl
    four false b c d = refl

-- ---- members put under their labels

-- each value is the one of its key
abbrev AreAt : (List ℕ → Document) → Members → Type 0
AreAt schema ms = Each (λ (e : Entry Document). e.1 ≡ schema e.0) (entries ms)

module _ (schema : List ℕ → Document) where
  put_at : (l : List ℕ) (ms : Members) → AreAt schema ms → AreAt schema (put l (schema l) ms)
  put_at l no_members h = (refl, tt)
  put_at l (member k d ms) h = go (slice_cmp nat_cmp l k) refl (put_at l ms h.1)
    where
      go : (o : Ordering) → slice_cmp nat_cmp l k ≡ o → AreAt schema (put l (schema l) ms) → AreAt schema (match_ordering o (member l (schema l) (member k d ms)) (member k (schema l) ms) (member k d (put l (schema l) ms)))
      go Less e r = (refl, h)
      go Equal e r = (ap schema ((bytes_eq-Decides l k).0 (sym (is_eq-slice_cmp l k) ∙ ap is_eq e)), h.1)
      go Greater e r = (h.0, r)

  all_put : (p : Entry Document → Bool) (l : List ℕ) (ms : Members) → AreAt schema ms → list_all p (entries (put l (schema l) ms)) ≡ (p (l, schema l) && list_all p (entries ms))
  all_put p l no_members h = refl
  all_put p l (member k d ms) h = go (slice_cmp nat_cmp l k) refl (all_put p l ms h.1)
    where
      go : (o : Ordering) → slice_cmp nat_cmp l k ≡ o → list_all p (entries (put l (schema l) ms)) ≡ (p (l, schema l) && list_all p (entries ms))
          → list_all p (entries (match_ordering o (member l (schema l) (member k d ms)) (member k (schema l) ms) (member k d (put l (schema l) ms)))) ≡ (p (l, schema l) && (p (k, d) && list_all p (entries ms)))
      go Less e r = refl
      go Equal e r =
          let same : l ≡ k = (bytes_eq-Decides l k).0 (sym (is_eq-slice_cmp l k) ∙ ap is_eq e) in
          let value : d ≡ schema l = h.0 ∙ ap schema (sym same) in
          ap (λ m. p (m, schema l) && list_all p (entries ms)) (sym same)
          ∙ twice (p (l, schema l)) (list_all p (entries ms)) ∙ ap₂ (λ m v. p (l, schema l) && (p (m, v) && list_all p (entries ms))) same (sym value)
      go Greater e r = ap (λ b. p (k, d) && b) r ∙ swapped (p (l, schema l)) (p (k, d)) (list_all p (entries ms))

  members_are_at : (ls : List (List ℕ)) → AreAt schema (members_at ls schema)
  members_are_at [] = tt
  members_are_at (l ∷ ls) = put_at l (members_at ls schema) (members_are_at ls)

  -- what holds of each member holds of each label with its value
  pub all_members_at : (p : Entry Document → Bool) (ls : List (List ℕ)) → list_all p (entries (members_at ls schema)) ≡ list_all (λ l. p (l, schema l)) ls
  all_members_at p [] = refl
  all_members_at p (l ∷ ls) = all_put p l (members_at ls schema) (members_are_at ls) ∙ ap (λ b. p (l, schema l) && b) (all_members_at p ls)

-- the keys of the members are the labels
pub any_members_at : (q : List ℕ → Bool) (ls : List (List ℕ)) (schema : List ℕ → Document) → list_any (λ (e : Entry Document). q e.0) (entries (members_at ls schema)) ≡ list_any q ls
any_members_at q ls schema =
    not-all (λ e. q e.0) (entries (members_at ls schema))
    ∙ ap not (all_members_at schema (λ e. not (q e.0)) ls)
    ∙ sym (not-all q ls)

-- ---- labels, each with its declarations

-- what holds of each in the diagonal holds of each
diagonal : (P : Declaration Document → Declaration Document → Type 0) (ds es : List (Declaration Document)) → Each (λ d. Each (P d) (ds ++ es)) es → Each (λ d. P d d) es
diagonal P ds [] h = tt
diagonal P ds (e ∷ es) h = (at P e ds es h.0, diagonal P (ds ++ e ∷ []) es (each_map _ _ (λ d f. subst (Each (P d)) (regrouped ds e es) f) es h.1))
  where
    at : (P : Declaration Document → Declaration Document → Type 0) (e : Declaration Document) (ds es : List (Declaration Document)) → Each (P e) (ds ++ e ∷ es) → P e e
    at P e [] es h = h.0
    at P e (d ∷ ds) es h = at P e ds es h.1

    regrouped : (ds : List (Declaration Document)) (e : Declaration Document) (es : List (Declaration Document)) → (ds ++ e ∷ es) ≡ ((ds ++ e ∷ []) ++ es)
    regrouped [] e es = refl
    regrouped (d ∷ ds) e es = ap (λ xs. d ∷ xs) (regrouped ds e es)

module _ (q : List ℕ → Document → Bool) where
  abbrev pub declared_holds : Declaration Document → Bool
  declared_holds d = q d.label d.value

  -- the values of a label hold where each declaration does
  values_hold : (l : List ℕ) (ds : List (Declaration Document)) → Each (λ d. declared_holds d ≡ true) ds → list_all (q l) (values_of l ds) ≡ true
  values_hold l [] h = refl
  values_hold l (d ∷ ds) h = go (bytes_eq l d.label) refl (values_hold l ds h.1)
    where
      go : (b : Bool) → bytes_eq l d.label ≡ b → list_all (q l) (values_of l ds) ≡ true → list_all (q l) ((if b then d.value ∷ [] else []) ++ values_of l ds) ≡ true
      go true e r = let same : l ≡ d.label = (bytes_eq-Decides l d.label).0 e in both (q l d.value) (list_all (q l) (values_of l ds)) (ap (λ m. q m d.value) same ∙ h.0) r
      go false e r = r

  -- a declaration holds where all of its label do
  declaration_holds : (l : List ℕ) (ds : List (Declaration Document)) → list_all (q l) (values_of l ds) ≡ true → Each (λ d. bytes_eq l d.label ≡ true → declared_holds d ≡ true) ds
  declaration_holds l [] h = tt
  declaration_holds l (d ∷ ds) h = go (bytes_eq l d.label) refl (declaration_holds l ds) h
    where
      go : (b : Bool) → bytes_eq l d.label ≡ b → (list_all (q l) (values_of l ds) ≡ true → Each (λ d. bytes_eq l d.label ≡ true → declared_holds d ≡ true) ds) → list_all (q l) ((if b then d.value ∷ [] else []) ++ values_of l ds) ≡ true → Each (λ d. bytes_eq l d.label ≡ true → declared_holds d ≡ true) (d ∷ ds)
      go true e r h =
          let same : l ≡ d.label = (bytes_eq-Decides l d.label).0 e in
          let parts = and_parts (q l d.value) (list_all (q l) (values_of l ds)) h in
          (λ _. ap (λ m. q m d.value) (sym same) ∙ parts.0, r parts.1)
      go false e r h = (λ hit. absurd (let no : true ≡ false = sym hit ∙ e in cc), r h)

  -- what holds of all values of each label holds of each declaration, and the other way round
  pub by_labels : (ds : List (Declaration Document)) → list_all (λ l. list_all (q l) (values_of l ds)) (labels_of ds) ≡ list_all declared_holds ds
  by_labels ds =
      all_alike (λ l. list_all (q l) (values_of l ds)) declared_holds (labels_of ds) ds
      (λ h.
      let here : Each (λ d. Each (λ e. bytes_eq d.label e.label ≡ true → declared_holds e ≡ true) ds) ds = each_map _ _ (λ d f. declaration_holds d.label ds f) ds (each_under (λ d. d.label) (λ l. list_all (q l) (values_of l ds) ≡ true) ds h) in
      each_map _ _ (λ d f. f ((bytes_eq-Decides d.label d.label).1 refl)) ds (diagonal (λ d e. bytes_eq d.label e.label ≡ true → declared_holds e ≡ true) [] ds here))
      (λ h. each_over (λ d. d.label) (λ l. list_all (q l) (values_of l ds) ≡ true) ds (each_map _ _ (λ d f. values_hold d.label ds h) ds h))

-- ---- required labels

module _ (t : List ℕ → Bool) where
  abbrev passes : Declaration Document → Bool
  passes d = t d.label || not (must_be_there d.mark)

  -- one declaration of the label
  one_there : (l : List ℕ) (d : Declaration Document) (b m r : Bool) → bytes_eq l d.label ≡ b → must_be_there d.mark ≡ m → (not (b && m || r) || t l) ≡ true → bytes_eq l d.label ≡ true → passes d ≡ true
  one_there l d true true r e f h hit = let same : l ≡ d.label = (bytes_eq-Decides l d.label).0 hit in ap₂ (λ k c. t k || not c) (sym same) f ∙ or_false (t l) ∙ h
    where
      or_false : (b : Bool) → (b || false) ≡ b
      or_false true = refl
      or_false false = refl
  one_there l d true false r e f h hit = ap (λ c. t d.label || not c) f ∙ or_true (t d.label)
    where
      or_true : (b : Bool) → (b || true) ≡ true
      or_true true = refl
      or_true false = refl
  one_there l d false m r e f h hit = absurd (let no : true ≡ false = sym hit ∙ e in cc)

  fewer : (a r c : Bool) → (not (a || r) || c) ≡ true → (not r || c) ≡ true
  fewer true true c h = h
  fewer true false c h = refl
  fewer false r c h = h

  there : (l : List ℕ) (ds : List (Declaration Document)) → (not (is_asked ds l) || t l) ≡ true → Each (λ d. bytes_eq l d.label ≡ true → passes d ≡ true) ds
  there l [] h = tt
  there l (d ∷ ds) h = (
    one_there l d (bytes_eq l d.label) (must_be_there d.mark) (is_asked ds l) refl refl h,
    there l ds (fewer (bytes_eq l d.label && must_be_there d.mark) (is_asked ds l) (t l) h),
  )

  one_back : (l : List ℕ) (d : Declaration Document) (b m r : Bool) → bytes_eq l d.label ≡ b → must_be_there d.mark ≡ m → passes d ≡ true → (not r || t l) ≡ true → (not (b && m || r) || t l) ≡ true
  one_back l d true true r e f h g =
      let same : l ≡ d.label = (bytes_eq-Decides l d.label).0 e in
      ap t same ∙ or_false (t d.label) (ap (λ c. t d.label || not c) (sym f) ∙ h)
    where
      or_false : (b : Bool) → (b || false) ≡ true → b ≡ true
      or_false true h = refl
      or_false false h = h
  one_back l d true false r e f h g = g
  one_back l d false m r e f h g = g

  back : (l : List ℕ) (ds : List (Declaration Document)) → Each (λ d. passes d ≡ true) ds → (not (is_asked ds l) || t l) ≡ true
  back l [] h = refl
  back l (d ∷ ds) h = one_back l d (bytes_eq l d.label) (must_be_there d.mark) (is_asked ds l) refl refl h.0 (back l ds h.1)

  -- a label that isn't asked for, or that passes, is so for each of its declarations, and the other way round
  by_marks : (ds : List (Declaration Document)) → list_all (λ l. not (is_asked ds l) || t l) (labels_of ds) ≡ list_all (λ d. t d.label || not (must_be_there d.mark)) ds
  by_marks ds =
      all_alike (λ l. not (is_asked ds l) || t l) passes (labels_of ds) ds
      (λ h.
      let here : Each (λ d. Each (λ e. bytes_eq d.label e.label ≡ true → passes e ≡ true) ds) ds = each_map _ _ (λ d f. there d.label ds f) ds (each_under (λ d. d.label) (λ l. (not (is_asked ds l) || t l) ≡ true) ds h) in
      each_map _ _ (λ d f. f ((bytes_eq-Decides d.label d.label).1 refl)) ds (diagonal (λ d e. bytes_eq d.label e.label ≡ true → passes e ≡ true) [] ds here))
      (λ h. each_over (λ d. d.label) (λ l. (not (is_asked ds l) || t l) ≡ true) ds (each_map _ _ (λ d f. back d.label ds h) ds h))

  pub all_required : (ds : List (Declaration Document)) → list_all t (required_of ds) ≡ list_all (λ d. t d.label || not (must_be_there d.mark)) ds
  all_required ds =
      all_filter t (is_asked ds) (firsts bytes_eq (labels_of ds))
      ∙ all_firsts bytes_eq (λ l m. (bytes_eq-Decides l m).0) (λ l. not (is_asked ds l) || t l) (labels_of ds)
      ∙ by_marks ds
