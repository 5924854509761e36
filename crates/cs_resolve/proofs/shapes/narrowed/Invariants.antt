use Rattle.std.proofs.Common.{◌≡◌, ℕ, List, length}
use Rattle.std.specs.List.{list_all}
use Rattle.cs_package.specs.View.{expression_of, is_known}
use Rattle.cs_resolve.specs.Resolved.{read_opened}
use Rattle.cs_resolve.proofs.OpenedShapes.{IsChanged}
use Rattle.cs_resolve.proofs.shapes.narrowed.Given as goal

abbrev pub invariant-loop-shape : goal.invariant-loop-shape
invariant-loop-shape l = record {
  long : length l.shape-items ≡ length l.fn.shapes.items;
  opened : (ns : List (List ℕ)) → IsChanged (expression_of ns) read_opened l.shape-items l.fn.shapes.items l.shape-index;
  known : (count : ℕ) → list_all (is_known count) l.shape-items ≡ list_all (is_known count) l.fn.shapes.items;
}
