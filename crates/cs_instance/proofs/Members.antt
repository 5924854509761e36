-- Maps whose keys ascend: each member is what is under its key.
use Rattle.std.proofs.Common.{◌≡◌, ℕ, zero, suc, Bool, true, false, List, [], ◌∷◌, Some, refl, sym, ap, ◌∙◌, subst, slice_get}
use Rattle.std.specs.List.{AllByRecursion as Each}
use Rattle.std.specs.Str.{bytes_eq}
use Rattle.std.specs.Ordering.{nat_cmp, is_eq}
use Rattle.std.specs.declared.cmp.Ordering.TheVariants.{Less}
use Rattle.std.specs.Cmp.Lexicographic.{slice_cmp}
use Rattle.std.proofs.lemmas.Option.{same_Some}
use Rattle.std.proofs.lemmas.Map.Text.{is_eq-slice_cmp}
use Rattle.std.proofs.lemmas.Slice.Eq.{bytes_eq-Decides}
use Rattle.cs_document.specs.Document.{Document, null, boolean, integer, text, list, object, Members, no_members, member as entry, Entry, entries, under, KeysAbove, IsDocument, AreMembers}
use Rattle.cs_document.specs.Opened.{opened}
use Rattle.cs_document.specs.Inside.{KeysAscend, AscendsInside}

-- a key that is above all isn't among them, so each member is what is under its key
below_all : {A : Type 0} (l : List ℕ) (ms : List (Entry A)) (i : ℕ) (k : List ℕ) (y : A) → Each (λ (m : Entry A). slice_cmp nat_cmp l m.0 ≡ Less) ms → slice_get ms i ≡ Some (k, y) → slice_cmp nat_cmp l k ≡ Less
below_all l [] i k y h e = cc
below_all l (m ∷ ms) zero k y h e = let same : m.0 ≡ k = ap (λ n. n.0) (same_Some m (k, y) e) in subst (λ n. slice_cmp nat_cmp l n ≡ Less) same h.0
below_all l (m ∷ ms) (suc i) k y h e = below_all l ms i k y h.1 e

pub under_at : {A : Type 0} (ms : List (Entry A)) (i : ℕ) (k : List ℕ) (y : A) → KeysAscend ms → slice_get ms i ≡ Some (k, y) → under k ms ≡ Some y
under_at [] i k y h e = cc
under_at (m ∷ ms) zero k y h e =
    let same : m ≡ (k, y) = same_Some m (k, y) e in
    let is : bytes_eq k m.0 ≡ true = (bytes_eq-Decides k m.0).1 (sym (ap (λ n. n.0) same)) in
    rw is (ap (λ n. Some n.1) same)
under_at (m ∷ ms) (suc i) k y h e =
    let less : slice_cmp nat_cmp m.0 k ≡ Less = below_all m.0 ms i k y h.0 e in
    let other : bytes_eq m.0 k ≡ false = sym (is_eq-slice_cmp m.0 k) ∙ ap is_eq less in
    rw (turned k m.0 other) (under_at ms i k y h.1 e)
  where
    turned : (k l : List ℕ) → bytes_eq l k ≡ false → bytes_eq k l ≡ false
    turned k l f = by (bytes_eq k l) refl
      where
        by : (b : Bool) → bytes_eq k l ≡ b → b ≡ false
        by false e = refl
        by true e = let same : bytes_eq l k ≡ true = (bytes_eq-Decides l k).1 (sym ((bytes_eq-Decides k l).0 e)) in cc

-- the keys of a document's maps ascend
keys_above : (k : List ℕ) (ms : Members) → KeysAbove k ms → Each (λ (m : Entry Document). slice_cmp nat_cmp k m.0 ≡ Less) (entries ms)
keys_above k no_members h = tt
keys_above k (entry l d ms) h = (h.0, keys_above k ms h.1)

keys_ascend : (ms : Members) → AreMembers ms → KeysAscend (entries ms)
keys_ascend no_members h = tt
keys_ascend (entry k d ms) h = (keys_above k ms h.0, keys_ascend ms h.2)

pub ascends : (x : Document) → IsDocument x → AscendsInside (opened x)
ascends null h = tt
ascends (boolean b) h = tt
ascends (integer z) h = tt
ascends (text s) h = tt
ascends (list ds) h = tt
ascends (object ms) h = keys_ascend ms h
