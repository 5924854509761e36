-- The faults of files that sources spell stand in order of their offsets.
use Rattle.std.proofs.Common.{◌≡◌, ℕ, suc, ◌<◌, ◌≤◌, ◌⊎◌, inl, inr, List, [], ◌∷◌, ◌++◌, map, refl, sym, ap, subst, arith}
use Rattle.std.specs.List.{All, flat_map}
use Rattle.std.proofs.lemmas.List.Elements.{All-cons, All-nil, All-weaker, All-head, All-tail}
use Rattle.std.proofs.lemmas.List.Kept.{AllPairs-cons}
use Rattle.cs_grammar.specs.Source.{IsSpelledBy}
use Rattle.cs_grammar.specs.Tree.{FileTree, definitions}
use Rattle.cs_resolve.specs.Declarations.{places_of, names, faults_from, faults_of_files}
use Rattle.cs_resolve.specs.Offsets.{StandsBefore, AreInOrder, offset, place}
use Rattle.cs_resolve.specs.Opening.{Named, named_bodies}
use Rattle.cs_resolve.specs.Unopened.{unopened_definitions, unopened_from, unopened_files}
use Rattle.cs_resolve.specs.Refinement.{Refinements}
use Rattle.cs_resolve.specs.Refusal.{AreSpelled}
use Rattle.cs_resolve.specs.Scopes.{NameFault, faults}
use Rattle.cs_resolve.proofs.MarkOrder.{marks-rise}
use Rattle.cs_resolve.proofs.PickedOffsets.{own, Rise, picks_rise, place_picks_of, faults_pick, literal_picks_of}

-- it stands in that file at o or later, or in a later file
abbrev NotBefore : ℕ → ℕ → ℕ × ℕ → Type 0
NotBefore i o p = (i < p.0) ⊎ ((i ≡ p.0) × (o ≤ p.1))

-- places in order, from one on
record Ordered (i o : ℕ) (ps : List (ℕ × ℕ)) : Type 0 where
  from : All (NotBefore i o) ps
  ordered : AreInOrder ps

abbrev IsAbove : ℕ → ℕ × ℕ → Type 0
IsAbove i p = i < p.0

module _ {X : Type 0} (f : X → ℕ) where
  abbrev numbered : ℕ → List X → List (ℕ × ℕ)
  numbered i xs = map (λ x. (i, f x)) xs

  sooner : (i o p : ℕ) → o ≤ p → (q : ℕ × ℕ) → NotBefore i p q → NotBefore i o q
  sooner i o p le q (inl lt) = inl lt
  sooner i o p le q (inr h) = let at = h.1 in inr (h.0, omega arith)

  in_file : (i : ℕ) (xs : List X) (o : ℕ) (rest : List (ℕ × ℕ)) → Rise f o xs → All (IsAbove i) rest → AreInOrder rest → Ordered i o (numbered i xs ++ rest)
  in_file i [] o rest h above k = record { from = All-weaker (IsAbove i) (NotBefore i o) (λ p lt. inl lt) rest above; ordered = k }
  in_file i (x ∷ xs) o rest h above k =
      let tail = in_file i xs (suc (f x)) rest h.1 above k in
      let ps = numbered i xs ++ rest in
      let first = h.0 in
      record {
        from = All-cons (NotBefore i o) (i, f x) ps (inr (refl, h.0)) (All-weaker (NotBefore i (suc (f x))) (NotBefore i o) (sooner i o (suc (f x)) (omega arith)) ps tail.from);
        ordered = AllPairs-cons StandsBefore (i, f x) ps (All-weaker (NotBefore i (suc (f x))) (StandsBefore (i, f x)) (λ p n. n) ps tail.from) tail.ordered;
      }

  -- what files have, from a number on
  module _ (told : FileTree → List X) (rise : (t : List ℕ) (g : FileTree) → IsSpelledBy t g → Rise f 0 (told g)) where
    abbrev told_from : ℕ → List FileTree → List (ℕ × ℕ)
    told_from i [] = []
    told_from i (g ∷ gs) = numbered i (told g) ++ told_from (suc i) gs

    in_files : (i : ℕ) (gs : List FileTree) → AreSpelled gs → Ordered i 0 (told_from i gs)
    in_files i [] h = record { from = All-nil (NotBefore i 0); ordered = λ k j d lt within. absurd (omega arith) }
    in_files i (g ∷ gs) h =
        let rest = in_files (suc i) gs (All-tail (λ (f : FileTree). (t : List ℕ) × IsSpelledBy t f) g gs h) in
        let one = All-head (λ (f : FileTree). (t : List ℕ) × IsSpelledBy t f) g gs h in
        in_file i (told g) 0 (told_from (suc i) gs) (rise one.0 g one.1) (All-weaker (NotBefore (suc i) 0) (IsAbove i) above (told_from (suc i) gs) rest.from) rest.ordered
      where
        above : (p : ℕ × ℕ) → NotBefore (suc i) 0 p → IsAbove i p
        above p (inl lt) = omega arith
        above p (inr k) = let is = k.0 in omega arith

-- ---- names

names_rise : (ns : List (List ℕ)) (t : List ℕ) (g : FileTree) → IsSpelledBy t g → Rise offset 0 (faults ns (places_of (definitions g)))
names_rise ns t g h = let m = marks-rise t g h in picks_rise offset (faults_pick ns (place_picks_of (definitions g))) 0 m.0 m.1

place_numbered : (i : ℕ) (xs : List NameFault) (rest : List (ℕ × NameFault)) (ps : List (ℕ × ℕ)) → map place rest ≡ ps → map place (map (λ x. (i, x)) xs ++ rest) ≡ numbered offset i xs ++ ps
place_numbered i [] rest ps is = is
place_numbered i (x ∷ xs) rest ps is = ap (λ qs. (i, offset x) ∷ qs) (place_numbered i xs rest ps is)

names_told : (ns : List (List ℕ)) (i : ℕ) (gs : List FileTree) → map place (faults_from i ns gs) ≡ told_from offset (λ g. faults ns (places_of (definitions g))) (names_rise ns) i gs
names_told ns i [] = refl
names_told ns i (g ∷ gs) = place_numbered i (faults ns (places_of (definitions g))) (faults_from (suc i) ns gs) _ (names_told ns (suc i) gs)

pub names_in_order : (fs : List FileTree) → AreSpelled fs → AreInOrder (map place (faults_of_files fs))
names_in_order fs h =
    let ns = names (flat_map definitions fs) in
    subst AreInOrder (sym (names_told ns 0 fs)) (in_files offset (λ g. faults ns (places_of (definitions g))) (names_rise ns) 0 fs h).ordered

-- ---- literals

literals_rise : (rs : Refinements) (all : List Named) (t : List ℕ) (g : FileTree) → IsSpelledBy t g → Rise own 0 (unopened_definitions rs all (definitions g))
literals_rise rs all t g h = let m = marks-rise t g h in picks_rise own (literal_picks_of rs all (definitions g)) 0 m.0 m.1

literals_told : (rs : Refinements) (all : List Named) (i : ℕ) (gs : List FileTree) → unopened_from rs i all gs ≡ told_from own (λ g. unopened_definitions rs all (definitions g)) (literals_rise rs all) i gs
literals_told rs all i [] = refl
literals_told rs all i (g ∷ gs) = ap (λ ps. numbered own i (unopened_definitions rs all (definitions g)) ++ ps) (literals_told rs all (suc i) gs)

pub literals_in_order : (rs : Refinements) (fs : List FileTree) → AreSpelled fs → AreInOrder (unopened_files rs fs)
literals_in_order rs fs h =
    let all = named_bodies (flat_map definitions fs) in
    subst AreInOrder (sym (literals_told rs all 0 fs)) (in_files own (λ g. unopened_definitions rs all (definitions g)) (literals_rise rs all) 0 fs h).ordered
