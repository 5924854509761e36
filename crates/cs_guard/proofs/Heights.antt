-- Heights, beside how long chains may be.
use Rattle.std.proofs.Common.{◌≡◌, ℕ, ◌<◌, ◌≤◌, List, [], ◌∷◌, map, length, get_or, arith}
use Rattle.std.specs.List.{All, IsDistinct}
use Rattle.std.specs.Str.{bytes_eq}
use Rattle.std.proofs.lemmas.Option.{slice_get_within}
use Rattle.cs_graph.specs.Chains.{Chain, NoCycle}
use Rattle.cs_graph.specs.Graph.{Graph, Refers, AreHeights}
use Rattle.cs_package.specs.Environment.{Environment, declared_names}
use Rattle.cs_guard.specs.Limits.{IsGuarded, most_references}
use Rattle.cs_guard.specs.LongChains.{IsTooDeep}
use Rattle.cs_guard.specs.Numbered.{IsGraphOf, name_of}
use Rattle.cs_guard.specs.Descent.{IsDescent}
use Rattle.cs_guard.specs.Ranks.{AreRanks}
use Rattle.cs_guard.specs.References.{RefersStrongly}
use Rattle.cs_guard.proofs.Descents.{descent_too_deep}
use Rattle.cs_guard.proofs.Numbers.{ranks_by_name, too_deep_by_name}

-- heights that chains may have
abbrev pub AreShort : List ℕ → Type 0
AreShort hs = All (λ h. h ≤ most_references) hs

module _ (G : Graph) (hs : List ℕ) (are : AreHeights G hs) (none : NoCycle (Refers G)) where
  pub guarded_of : AreShort hs → IsGuarded (Refers G)
  guarded_of short = record { no_cycle = none; short = chain }
    where
      chain : (n : ℕ) (ns : List ℕ) → Chain (Refers G) n ns → length ns ≤ most_references
      chain n [] c = omega arith
      chain n (m ∷ ns) c =
          let r = c.0 in
          let inside : n < length G = slice_get_within G n r.row r.found in
          let top = (are.each n inside).longest (m ∷ ns) c in
          let low = short n 0 (omega (arith, inside, are.long)) in
          omega (arith, top, low)

-- ---- what the test of the heights tells of a package

module _ (E : Environment) (G : Graph) (is : IsGraphOf E G) (once : IsDistinct bytes_eq (declared_names E)) (hs : List ℕ) (h : AreHeights G hs) (none : NoCycle (Refers G)) where
  pub ranks_of : AreShort hs → AreRanks E hs
  ranks_of short = ranks_by_name E G is once hs h (guarded_of G hs h none short)

  pub package_too_deep : (first : ℕ) (js : List ℕ) → IsDescent G hs first js → most_references < get_or hs first 0 → IsTooDeep (RefersStrongly E) (map (name_of E) js)
  package_too_deep first js d over = too_deep_by_name E G is once js (descent_too_deep G hs first js none d over)
