use Rattle.std.proofs.Common.{◌≡◌, List, drop}
use Rattle.cs_grammar.specs.Tree.{DefinitionTree}
use Rattle.cs_embeddings.proofs.FoundFiles.{from}
use Rattle.cs_embeddings.specs.NarrowedTable.{TellsEmbeddable}
use Rattle.cs_embeddings.specs.Flaws.{flaws}
use Rattle.cs_embeddings.proofs.files.check_files.Given as goal

abbrev pub invariant-loop-file : goal.invariant-loop-file
invariant-loop-file l = (ds : List DefinitionTree) → TellsEmbeddable l.flaws ds → from (flaws ds) 0 l.files ≡ from (flaws ds) l.file (drop l.file l.files)
