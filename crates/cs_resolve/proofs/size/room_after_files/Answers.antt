use Rattle.std.proofs.Common.{◌≡◌, ℕ, ◌+◌, ◌++◌, List, map, ap, ◌∙◌, arith}
use Rattle.std.specs.List.{flat_map}
use Rattle.std.proofs.lemmas.Grind.{flat_map-append}
use Rattle.std.proofs.lemmas.List.{map-append, append-nil}
use Rattle.std.proofs.lemmas.List.Sums.{sum_by-append}
use Rattle.cs_grammar.specs.Tree.{DefinitionTree, body, definitions}
use Rattle.cs_grammar.specs.View.{file_view, definition_view}
use Rattle.cs_grammar.specs.declared.ast.File.{File}
use Rattle.cs_grammar.specs.Size.{nodes, nodes_of_definitions, nodes_of_files}
use Rattle.cs_resolve.proofs.Sums.{within}
use Rattle.cs_resolve.proofs.size.room_after_files.Goals as goal

abbrev counted : List File → ℕ
counted fs = nodes_of_files (map file_view fs)

joins : (fs gs : List File) → counted (fs ++ gs) ≡ counted fs + counted gs
joins fs gs =
    ap nodes_of_files (map-append file_view fs gs)
    ∙ ap nodes_of_definitions (flat_map-append definitions (map file_view fs) (map file_view gs))
    ∙ sum_by-append (λ (d : DefinitionTree). nodes (body d)) (flat_map definitions (map file_view fs)) (flat_map definitions (map file_view gs))

pub returns-in_err-left : goal.returns-in_err-left
returns-in_err-left c =
    let fs = c.deref-file-items.result.now in
    let f = c.file-item.result in
    let fits = within counted joins fs c.loop-file.file-index f c.loop-file-test.true c.file-item.is in
    let whole = ap counted c.deref-file-items.ensures.value in
    let here = ap nodes_of_definitions (append-nil (map definition_view f.definitions.items)) in
    rw c.from_residual.ensures (omega (arith, fits, whole, here, c.loop-file.invariant, c.in_err-left.ensures))
