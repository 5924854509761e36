-- The keys that declarations of a struct literal are for.
use Rattle.std.specs.Prelude.{◌≡◌, ℕ, Bool, List, map}
use Rattle.std.specs.Borrow.{Bor}
use Rattle.std.specs.List.{list_any}
use Rattle.std.specs.List.Sorted.{IsPermutation, IsSorted}
use Rattle.std.specs.Ordering.{nat_cmp}
use Rattle.std.specs.Cmp.Lexicographic.{slice_cmp}
use Rattle.cs_flat.specs.View.{text_of}
use Rattle.cs_package.specs.Expression.{is_every}
use Rattle.cs_package.specs.View.{mark_of}
use Rattle.cs_instance.specs.declared.rules.Field.{Field}

-- their labels in order, and whether one of them is for every key
pub record AreKeysOf (fields : List Field) (labels : List (Bor (List ℕ))) (every : Bool) : Type 0 where
  pub same : IsPermutation (map (λ f. f.label.now) fields) (map text_of labels)
  pub order : IsSorted (λ a b. slice_cmp nat_cmp (text_of a) (text_of b)) labels
  pub all : every ≡ list_any (λ f. is_every (mark_of f.mark)) fields
