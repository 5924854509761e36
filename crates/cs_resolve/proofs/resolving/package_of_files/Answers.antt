use Rattle.std.proofs.Common.{◌≡◌, ℕ, ◌<◌, ◌≤◌, ◌↔◌, Bool, true, false, List, map, length, Some, None, IsTrue, sym, ◌∙◌, arith}
use Rattle.std.specs.List.{flat_map}
use Rattle.cs_grammar.specs.Tree.{FileTree, definitions}
use Rattle.cs_grammar.specs.View.{file_view}
use Rattle.cs_resolve.specs.Declarations.{names}
use Rattle.cs_resolve.specs.Resolved.{IsSmall}
use Rattle.cs_grammar.specs.Limits.{most_definitions, most_nodes}
use Rattle.cs_grammar.specs.Size.{nodes_of_files}
use Rattle.cs_resolve.proofs.OnePackage.{one_package}
use Rattle.cs_resolve.proofs.resolving.package_of_files.Goals as goal
use Rattle.cs_resolve.proofs.resolving.package_of_files.Goals.{then-count-gt-MOST_DEFINITIONS-via-then-count-gt-MOST_DEFINITIONS, then-count-gt-MOST_DEFINITIONS-via-else-count-gt-MOST_DEFINITIONS+then-not-has_few_nodes}

module _ (fs : List FileTree) (count : ℕ) (counted : count ≡ length (names (flat_map definitions fs))) where
  is_small : (few : Bool) → count ≤ most_definitions → (IsTrue few ↔ (nodes_of_files fs ≤ most_nodes)) → few ≡ true → IsSmall fs
  is_small few le nodes is = record { definitions = omega (arith, le, counted); nodes = nodes.0 is }

  many_names : most_definitions < count → ¬ IsSmall fs
  many_names l h = omega (arith, l, counted, h.definitions)

  many_nodes : (few : Bool) → (IsTrue few ↔ (nodes_of_files fs ≤ most_nodes)) → few ≡ false → ¬ IsSmall fs
  many_nodes few nodes is h = let yes : few ≡ true = nodes.1 h.nodes in cc

pub returns-in-Some-clause-only : goal.returns-in-Some-clause-only
returns-in-Some-clause-only c E h =
    let none = c.differing_file.ensures ∙ (one_package (map file_view c.args.files.now.items)).1 h.agree in
    let both : None ≡ Some c.in-Some.file = sym none ∙ c.in-Some.is in
    cc

pub returns-then-count-gt-MOST_DEFINITIONS-clause-refused : goal.returns-then-count-gt-MOST_DEFINITIONS-clause-refused
returns-then-count-gt-MOST_DEFINITIONS-clause-refused c =
    let fs = map file_view c.args.files.now.items in
    let count = c.in_ok-count.count in
    let counted = c.in_ok-count.ensures in (
      (one_package fs).0 (sym c.differing_file.ensures ∙ c.in_default.is),
      elim c.then-count-gt-MOST_DEFINITIONS.branch [
        | then-count-gt-MOST_DEFINITIONS-via-then-count-gt-MOST_DEFINITIONS w ↦ many_names fs count counted (omega (arith, w.if-count-gt-MOST_DEFINITIONS.true))
        | then-count-gt-MOST_DEFINITIONS-via-else-count-gt-MOST_DEFINITIONS+then-not-has_few_nodes w ↦ many_nodes fs count counted w.has_few_nodes.result w.has_few_nodes.ensures w.if-not-has_few_nodes.true
      ],
      counted,
    )

pub small_package-requires-clause-agree : goal.small_package-requires-clause-agree
small_package-requires-clause-agree c = (one_package (map file_view c.args.files.now.items)).0 (sym c.differing_file.ensures ∙ c.in_default.is)

pub small_package-requires-clause-small : goal.small_package-requires-clause-small
small_package-requires-clause-small c = is_small (map file_view c.args.files.now.items) c.in_ok-count.count c.in_ok-count.ensures c.has_few_nodes.result (omega (arith, c.if-count-gt-MOST_DEFINITIONS.false)) c.has_few_nodes.ensures c.if-not-has_few_nodes.false
