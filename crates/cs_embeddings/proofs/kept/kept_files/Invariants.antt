use Rattle.std.proofs.Common.{map}
use Rattle.std.specs.List.{flat_map}
use Rattle.cs_grammar.specs.Tree.{definitions}
use Rattle.cs_grammar.specs.View.{file_view}
use Rattle.cs_embeddings.specs.Bodies.{as_declared}
use Rattle.cs_embeddings.specs.Checks.{TellsTables}
use Rattle.cs_embeddings.specs.GatheredTable.{TellsLabels}
use Rattle.cs_embeddings.proofs.Keeping.{LeavesSoFar, declared_before}
use Rattle.cs_embeddings.proofs.kept.kept_files.Given as goal

abbrev pub invariant-loop-file : goal.invariant-loop-file
invariant-loop-file l =
    let ds = flat_map definitions (map file_view l.files) in
    TellsTables l.embeddable ds → TellsLabels l.labels ds (map as_declared ds) (declared_before l.files l.file-index) × LeavesSoFar l.kept.items ds l.files l.file-index
