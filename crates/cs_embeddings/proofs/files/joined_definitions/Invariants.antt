use Rattle.std.proofs.Common.{List, map, take}
use Rattle.std.specs.List.{AllByRecursion}
use Rattle.cs_grammar.specs.Tree.{DefinitionTree}
use Rattle.cs_embeddings.proofs.FileParts.{AreDefinitions}
use Rattle.cs_embeddings.specs.Checks.{TellsTables, AreWell}
use Rattle.cs_embeddings.specs.GatheredTable.{IsSound, body_view}
use Rattle.cs_embeddings.specs.Made.{IsBodyWell}
use Rattle.cs_embeddings.specs.declared.kept.Kept.{Kept}
use Rattle.cs_embeddings.proofs.files.joined_definitions.Given as goal

abbrev pub invariant-loop-body : goal.invariant-loop-body
invariant-loop-body l = (ds : List DefinitionTree) → TellsTables l.joiner.embeddable.now ds → AreWell ds
    → AllByRecursion (λ (k : Kept). IsSound ds k.standing) l.bodies → AllByRecursion (IsBodyWell ds) (map body_view l.bodies)
    → AreDefinitions ds l.initial.nodes l.nodes (take l.body-index l.bodies) l.joined.items
