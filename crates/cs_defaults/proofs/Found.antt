-- What the parts of a list find, one after another.
use Rattle.std.proofs.Common.{◌≡◌, ℕ, suc, ◌+◌, ◌<◌, List, [], ◌∷◌, ◌++◌, Some, map, drop, length, get_or, slice_get, false, refl, sym, ap, ap₂, take, ◌∙◌, add-one, arith}
use Rattle.std.proofs.Math.Seq.{drop-cons}
use Rattle.std.proofs.lemmas.Bool.Decides.{nat_tests}
use Rattle.std.proofs.lemmas.List.{map-append}
use Rattle.std.specs.Prelude.{◌==◌}
use Rattle.std.specs.List.{flat_map}
use Rattle.cs_grammar.specs.Tree.{Tree, body}
use Rattle.cs_grammar.specs.View.{definition_view, fields_view, file_view}
use Rattle.cs_grammar.specs.declared.ast.Field.{Field}
use Rattle.cs_grammar.specs.declared.ast.File.{File}
use Rattle.cs_defaults.specs.Checks.{Fails, FailsAny}
use Rattle.cs_defaults.proofs.AbsentLabels.{take_at}
use Rattle.cs_defaults.specs.Marks.{is_no_field}
use Rattle.cs_defaults.specs.Widened.{places_from}
use Rattle.cs_defaults.specs.declared.fault.DefaultFault.{DefaultFault}
use Rattle.cs_defaults.specs.declared.fault.DefaultFault.TheVariants.{OutOfMemory, Mark}

not_zero : (n : ℕ) → (suc n == 0) ≡ false
not_zero n = grind (arith, nat_tests)

pub no_fields : (fs : List Field) → (length fs == 0) ≡ is_no_field (fields_view fs)
no_fields [] = refl
no_fields (f ∷ fs) = not_zero (length fs)

pub at_place : {X : Type 0} (xs : List X) (i : ℕ) (x : X) → i < length xs → x ≡ get_or xs i x → drop i xs ≡ x ∷ drop (i + 1) xs
at_place xs i x l e = rw add-one (drop-cons xs i x l ∙ ap (λ y. y ∷ drop (suc i) xs) (sym e))

-- the first of the first part
pub first_left : {X : Type 0} (xs ys : List X) (x : X) → slice_get xs 0 ≡ Some x → slice_get (xs ++ ys) 0 ≡ Some x
first_left [] ys x h = cc
first_left (y ∷ xs) ys x h = h

-- the first of the second part, where the first has none
pub first_right : {X : Type 0} (xs ys : List X) (x : X) → xs ≡ [] → slice_get ys 0 ≡ Some x → slice_get (xs ++ ys) 0 ≡ Some x
first_right xs ys x none h = rw none h

pub none_left : {X : Type 0} (xs ys : List X) → xs ≡ [] → xs ++ ys ≡ ys
none_left xs ys none = rw none refl

abbrev first_is : {X : Type 0} → X → List X → Type 0
first_is x xs = slice_get xs 0 ≡ Some x

-- a check that fails for the first part fails for the whole
pub fails_left : (e : DefaultFault) (file : ℕ) (xs ys : List ℕ) → Fails e file xs → Fails e file (xs ++ ys)
fails_left OutOfMemory file xs ys h = tt
fails_left (Mark f o) file xs ys h = (h.0, first_left xs ys o h.1)

pub fails_right : (e : DefaultFault) (file : ℕ) (xs ys : List ℕ) → xs ≡ [] → Fails e file ys → Fails e file (xs ++ ys)
fails_right e file xs ys none h = rw none h

pub fails_any : (e : DefaultFault) (xs ys : List (ℕ × ℕ)) → FailsAny e xs → FailsAny e (xs ++ ys)
fails_any OutOfMemory xs ys h = tt
fails_any (Mark f o) xs ys h = first_left xs ys (f, o) h

pub first_numbered : (i : ℕ) (os : List ℕ) (o : ℕ) → slice_get os 0 ≡ Some o → slice_get {X = ℕ × ℕ} (map (λ p. (i, p)) os) 0 ≡ Some (i, o)
first_numbered i [] o h = cc
first_numbered i (p ∷ os) o h = cc

pub fails_numbered : (e : DefaultFault) (file : ℕ) (os : List ℕ) → Fails e file os → FailsAny e (map (λ o. (file, o)) os)
fails_numbered OutOfMemory file os h = tt
fails_numbered (Mark f o) file os h = rw h.0 (first_numbered file os o h.1)

-- F gathers what the elements of a list have, one after another
module _ {A X : Type 0} (F : List A → List X) (own : A → List X) (parts : (a : A) (rest : List A) → F (a ∷ rest) ≡ own a ++ F rest) (xs : List A) (i : ℕ) (a : A) (l : i < length xs) (is : a ≡ get_or xs i a) (all : F xs ≡ F (drop i xs)) where
  cut : F xs ≡ own a ++ F (drop (i + 1) xs)
  cut = all ∙ ap F (at_place xs i a l is) ∙ parts a (drop (i + 1) xs)

  -- one element more has none
  pub none_more : own a ≡ [] → F xs ≡ F (drop (i + 1) xs)
  none_more none = cut ∙ none_left (own a) (F (drop (i + 1) xs)) none

  -- what holds of this element's holds of all
  pub whole_from : (P : List X → Type 0) → ((ys zs : List X) → P ys → P (ys ++ zs)) → P (own a) → P (F xs)
  whole_from P kept here = rw cut (kept (own a) (F (drop (i + 1) xs)) here)

  -- the first is that of this element
  pub first_here : (x : X) → slice_get (own a) 0 ≡ Some x → slice_get (F xs) 0 ≡ Some x
  first_here x = whole_from (first_is x) (λ ys zs. first_left ys zs x)

-- ---- files, which are numbered

abbrev pub in_file : (Tree → List ℕ) → ℕ → File → List (ℕ × ℕ)
in_file found i f = map (λ o. (i, o)) (flat_map (λ d. found (body d)) (map definition_view f.definitions.items))

-- the places from a file on
pub files_cut : (found : Tree → List ℕ) (fs : List File) (i : ℕ) (f : File) → i < length fs → f ≡ get_or fs i f → places_from found i (map file_view (drop i fs)) ≡ in_file found i f ++ places_from found (i + 1) (map file_view (drop (i + 1) fs))
files_cut found fs i f l is = ap (λ gs. places_from found i (map file_view gs)) (at_place fs i f l is) ∙ ap (λ j. in_file found i f ++ places_from found j (map file_view (drop (i + 1) fs))) (sym (add-one i))

pub files_more : (found : Tree → List ℕ) (fs : List File) (i : ℕ) (f : File) → i < length fs → f ≡ get_or fs i f → places_from found 0 (map file_view fs) ≡ places_from found i (map file_view (drop i fs)) → flat_map (λ d. found (body d)) (map definition_view f.definitions.items) ≡ [] → places_from found 0 (map file_view fs) ≡ places_from found (i + 1) (map file_view (drop (i + 1) fs))
files_more found fs i f l is all none = all ∙ files_cut found fs i f l is ∙ ap (λ os. map (λ o. (i, o)) os ++ places_from found (i + 1) (map file_view (drop (i + 1) fs))) none

-- ---- copies, one after another

pub map_pushed : {X Y Z : Type 0} (own : X → Z) (view : Y → Z) (xs : List X) (i : ℕ) (x : X) → i < length xs → x ≡ get_or xs i x → (ys zs : List Y) (y : Y) → zs ≡ ys ++ y ∷ [] → map view ys ≡ map own (take i xs) → view y ≡ own x → map view zs ≡ map own (take (i + 1) xs)
map_pushed own view xs i x l is ys zs y grown before same =
    ap (map view) grown
    ∙ map-append view ys (y ∷ [])
    ∙ ap₂ (λ zs z. zs ++ z ∷ []) before same
    ∙ sym (ap (map own) (take_at xs i x l is) ∙ map-append own (take i xs) (x ∷ []))
