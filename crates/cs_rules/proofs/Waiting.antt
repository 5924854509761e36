-- A list whose elements get numbers one by one, in its order, while more of them come behind.
use Rattle.std.proofs.Common.{◌≡◌, ℕ, suc, ◌<◌, ◌≤◌, List, [], ◌∷◌, ◌++◌, map, length, take, drop, get_or, ap, ap₂, ◌∙◌, length-append, arith}
use Rattle.std.specs.List.{flat_map}
use Rattle.std.proofs.lemmas.Grind.{flat_map-append}
use Rattle.std.proofs.lemmas.List.{length-map, length_push, take-append-le, drop-append-le}
use Rattle.cs_rules.proofs.Lists.{drop_mapped, take_dropped}

-- the first element without a number gets one
pub record IsNext {X : Type 0} (pending : List X) (numbers new : List ℕ) (x : X) (number : ℕ) : Type 0 where
  pub within : length numbers < length pending
  pub is : x ≡ get_or pending (length numbers) x
  pub put : new ≡ numbers ++ number ∷ []

-- the element is where the numbers end: it goes to those with numbers, and the rest stays in front of what comes
pub record IsMoved {Y : Type 0} (old new more : List Y) (y : Y) (k n : ℕ) : Type 0 where
  pub at : drop k old ≡ y ∷ drop (suc k) old
  pub taken : take n new ≡ take k old ++ y ∷ []
  pub left : drop n new ≡ drop (suc k) old ++ more

module _ {X Y : Type 0} (view : X → Y) (pending : List X) (numbers new : List ℕ) (x : X) (number : ℕ) (n : IsNext pending numbers new x number) (after more : List Y) (grown : after ≡ map view pending ++ more) where
  abbrev W : List Y
  W = map view pending

  abbrev k : ℕ
  k = length numbers

  within : k < length W
  within = omega (arith, n.within, length-map pending view)

  long : length new ≡ suc k
  long = omega (arith, ap length n.put, length_push numbers number)

  at : drop k W ≡ view x ∷ drop (suc k) W
  at = drop_mapped view pending k x n.within n.is

  pub moved : IsMoved W after more (view x) k (length new)
  moved = record {
    at = at;
    taken = ap₂ take long grown ∙ take-append-le (suc k) W more (omega (arith, within)) ∙ take_dropped W k (view x) within at;
    left = ap₂ drop long grown ∙ drop-append-le (suc k) W more (omega (arith, within));
  }

  -- there are no more numbers than elements
  pub not_longer : (pending' : List X) → map view pending' ≡ after → length new ≤ length pending'
  not_longer pending' e = omega (arith, within, long, ap length e, ap length grown, length-map pending' view, length-append W more)

  -- what is left has less inside, where what came has less than the element
  pub less_inside : {Z : Type 0} (inside : Y → List Z) → length (flat_map inside more) < length (inside (view x)) → length (flat_map inside (drop (length new) after)) < length (flat_map inside (drop k W))
  less_inside inside less =
      let rest = flat_map inside (drop (suc k) W) in
      let old = ap (λ ys. length (flat_map inside ys)) at ∙ length-append (inside (view x)) rest in
      let now = ap (λ ys. length (flat_map inside ys)) moved.left ∙ ap length (flat_map-append inside (drop (suc k) W) more) ∙ length-append rest (flat_map inside more) in
      omega (arith, old, now, less)
