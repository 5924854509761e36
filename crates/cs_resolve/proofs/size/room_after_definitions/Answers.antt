use Rattle.std.proofs.Common.{◌≡◌, ℕ, ◌+◌, ◌++◌, List, map, ap, ◌∙◌, arith}
use Rattle.std.proofs.lemmas.List.{map-append}
use Rattle.std.proofs.lemmas.List.Sums.{sum_by-append}
use Rattle.cs_grammar.specs.Tree.{DefinitionTree, body}
use Rattle.cs_grammar.specs.View.{definition_view}
use Rattle.cs_grammar.specs.declared.ast.Definition.{Definition}
use Rattle.cs_grammar.specs.Size.{nodes, nodes_of_definitions}
use Rattle.cs_resolve.proofs.Sums.{within}
use Rattle.cs_resolve.proofs.size.room_after_definitions.Goals as goal

abbrev counted : List Definition → ℕ
counted ds = nodes_of_definitions (map definition_view ds)

joins : (ds es : List Definition) → counted (ds ++ es) ≡ counted ds + counted es
joins ds es = ap nodes_of_definitions (map-append definition_view ds es) ∙ sum_by-append (λ (d : DefinitionTree). nodes (body d)) (map definition_view ds) (map definition_view es)

pub returns-in_err-left : goal.returns-in_err-left
returns-in_err-left c =
    let ds = c.deref-definition-items.result.now in
    let fits = within counted joins ds c.loop-definition.definition-index c.definition-item.result c.loop-definition-test.true c.definition-item.is in
    let whole = ap counted c.deref-definition-items.ensures.value in
    rw c.from_residual.ensures (omega (arith, fits, whole, c.loop-definition.invariant, c.in_err-left.ensures))
