use Rattle.std.proofs.Common.{List}
use Rattle.cs_grammar.specs.Tree.{DefinitionTree}
use Rattle.cs_embeddings.specs.Checks.{TellsTables}
use Rattle.cs_embeddings.specs.NarrowedTable.{TellsNarrowing}
use Rattle.cs_embeddings.proofs.narrowed.Narrowing.of.Given as goal

abbrev pub invariant-loop-name : goal.invariant-loop-name
invariant-loop-name l = (ds : List DefinitionTree) → TellsTables l.embeddable ds → TellsNarrowing l.narrowing ds
