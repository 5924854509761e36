-- No file differs in its package name exactly where any two files that name a package name the same one.
use Rattle.std.proofs.Common.{◌≡◌, ℕ, zero, suc, ◌+◌, Bool, true, false, not, List, [], ◌∷◌, Option, Some, None, cond, slice_get, ◌↔◌, refl, sym, ap, ◌∙◌}
use Rattle.std.specs.List.{AllByRecursion, cons_option, position, position_from, filter_map}
use Rattle.std.specs.Option.{option_and_then, option_map_or}
use Rattle.std.specs.Str.{bytes_eq}
use Rattle.std.proofs.lemmas.Iterator.Adapters.{position_from-zero}
use Rattle.std.proofs.lemmas.Option.{same_Some}
use Rattle.std.proofs.lemmas.Slice.Eq.{bytes_eq-Decides}
use Rattle.cs_grammar.specs.Tree.{FileTree, package_name}
use Rattle.cs_resolve.specs.PackageName.{IsOnePackage}
use Rattle.cs_resolve.specs.DifferingFile.{first_named, names_other, differing_file}
use Rattle.cs_package.proofs.Environments.{all-at}

-- ---- lists

module _ {X : Type 0} where
  all-from : (P : X → Type 0) (xs : List X) → ((i : ℕ) (x : X) → slice_get xs i ≡ Some x → P x) → AllByRecursion P xs
  all-from P [] h = tt
  all-from P (x ∷ xs) h = (h 0 x refl, all-from P xs (λ i y there. h (suc i) y there))

  module _ (p : X → Bool) where
    abbrev Fails : X → Type 0
    Fails x = p x ≡ false

    nowhere : (i : ℕ) (xs : List X) → position_from p i xs ≡ None → AllByRecursion Fails xs
    nowhere i [] h = tt
    nowhere i (x ∷ xs) h = by (p x) refl h (nowhere (i + 1) xs)
      where
        by : (b : Bool) → p x ≡ b → cond b (Some i) (position_from p (i + 1) xs) ≡ None → (position_from p (i + 1) xs ≡ None → AllByRecursion Fails xs) → AllByRecursion Fails (x ∷ xs)
        by true is none rest = cc
        by false is none rest = (is, rest none)

    none-from : (i : ℕ) (xs : List X) → AllByRecursion Fails xs → position_from p i xs ≡ None
    none-from i [] h = refl
    none-from i (x ∷ xs) h = ap (λ b. cond b (Some i) (position_from p (i + 1) xs)) h.0 ∙ none-from (i + 1) xs h.1

-- ---- names of files

-- the first name of these files, behind one that gives this name
abbrev from : List FileTree → Option (List ℕ) → Option (List ℕ)
from fs own = slice_get (cons_option own (filter_map package_name fs)) 0

-- where a file names a package, one is the first that is named
some-first : (fs : List FileTree) (i : ℕ) (f : FileTree) (m : List ℕ) → slice_get fs i ≡ Some f → package_name f ≡ Some m → (n : List ℕ) × (first_named fs ≡ Some n)
some-first [] i f m at is = cc
some-first (g ∷ fs) zero f m at is = (m, ap (from fs) (ap package_name (same_Some g f at) ∙ is))
some-first (g ∷ fs) (suc i) f m at is = by (package_name g) refl (some-first fs i f m at is)
  where
    by : (o : Option (List ℕ)) → package_name g ≡ o → (n : List ℕ) × (first_named fs ≡ Some n) → (n : List ℕ) × (first_named (g ∷ fs) ≡ Some n)
    by (Some n) own later = (n, ap (from fs) own)
    by None own later = (later.0, ap (from fs) own ∙ later.1)

-- the first that is named is named by a file
abbrev IsAt : List FileTree → List ℕ → Type 0
IsAt fs n = (i : ℕ) × (f : FileTree) × (slice_get fs i ≡ Some f) × (package_name f ≡ Some n)

first-at : (fs : List FileTree) (n : List ℕ) → first_named fs ≡ Some n → IsAt fs n
first-at [] n h = cc
first-at (g ∷ fs) n h = by (package_name g) refl (first-at fs n)
  where
    by : (o : Option (List ℕ)) → package_name g ≡ o → (first_named fs ≡ Some n → IsAt fs n) → IsAt (g ∷ fs) n
    by (Some m) own rest = (0, g, refl, own ∙ sym (ap (from fs) own) ∙ h)
    by None own rest = let later = rest (sym (ap (from fs) own) ∙ h) in (suc later.0, later.1, later.2, later.3)

other-not : (b : Bool) → not b ≡ false → b ≡ true
other-not true h = refl
other-not false h = cc

same-name : (n m : List ℕ) (f : FileTree) → package_name f ≡ Some m → names_other n f ≡ false → m ≡ n
same-name n m f is own =
    (bytes_eq-Decides m n).0 (other-not (bytes_eq m n) (sym (ap (λ (q : Option (List ℕ)). option_map_or (λ k. not (bytes_eq k n)) q false) is) ∙ own))

no-other : (n : List ℕ) (f : FileTree) → ((m : List ℕ) → package_name f ≡ Some m → m ≡ n) → names_other n f ≡ false
no-other n f h = by (package_name f) refl
  where
    by : (o : Option (List ℕ)) → package_name f ≡ o → option_map_or (λ k. not (bytes_eq k n)) o false ≡ false
    by None is = refl
    by (Some m) is = ap not ((bytes_eq-Decides m n).1 (h m is))

pub one_package : (fs : List FileTree) → (differing_file fs ≡ None) ↔ IsOnePackage fs
one_package fs = (to, from)
  where
    at : (n : List ℕ) → first_named fs ≡ Some n → differing_file fs ≡ position_from (names_other n) 0 fs
    at n is = ap (option_and_then (λ m. position (names_other m) fs)) is ∙ position_from-zero (names_other n) fs

    to : differing_file fs ≡ None → IsOnePackage fs
    to none i j f g n m at-i at-j own-f own-g =
        let first = some-first fs i f n at-i own-f in
        let all = nowhere (names_other first.0) 0 fs (sym (at first.0 first.1) ∙ none) in
        same-name first.0 n f own-f (all-at (Fails (names_other first.0)) fs i f all at-i)
        ∙ sym (same-name first.0 m g own-g (all-at (Fails (names_other first.0)) fs j g all at-j))

    from : IsOnePackage fs → differing_file fs ≡ None
    from one = by (first_named fs) refl
      where
        by : (o : Option (List ℕ)) → first_named fs ≡ o → differing_file fs ≡ None
        by None is = ap (option_and_then (λ m. position (names_other m) fs)) is
        by (Some n) is =
            let first = first-at fs n is in
            at n is ∙ none-from (names_other n) 0 fs (all-from (Fails (names_other n)) fs (λ j g there. no-other n g (λ m own. one j first.0 g first.1 m n there first.2 own first.3)))
