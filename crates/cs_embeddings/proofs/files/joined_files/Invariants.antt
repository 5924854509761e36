use Rattle.std.proofs.Common.{List, map, take}
use Rattle.std.specs.List.{AllByRecursion}
use Rattle.cs_grammar.specs.Limits.{most_nodes}
use Rattle.cs_grammar.specs.Tree.{DefinitionTree}
use Rattle.cs_embeddings.proofs.FileParts.{AreFiles}
use Rattle.cs_embeddings.specs.Checks.{TellsTables, AreWell}
use Rattle.cs_embeddings.specs.GatheredTable.{AreSound, left_view}
use Rattle.cs_embeddings.specs.Made.{AreLeftWell}
use Rattle.cs_embeddings.proofs.files.joined_files.Given as goal

abbrev pub invariant-loop-file : goal.invariant-loop-file
invariant-loop-file l = (ds : List DefinitionTree) → TellsTables l.embeddable ds → AreWell ds → AllByRecursion (AreSound ds) l.files
    → AllByRecursion (AreLeftWell ds) (map left_view l.files)
    → AreFiles ds most_nodes l.nodes (take l.file l.files) l.joined.items
