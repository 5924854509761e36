use Rattle.std.proofs.Common.{◌≡◌, List, [], take}
use Rattle.cs_grammar.specs.Tree.{DefinitionTree}
use Rattle.cs_embeddings.specs.Checks.{TellsBodies, TellsRounds}
use Rattle.cs_embeddings.proofs.embedded.Embeddable.add_all.Given as goal

abbrev pub invariant-loop-name : goal.invariant-loop-name
invariant-loop-name l = record {
  same : l.self.bodies ≡ l.initial.self.bodies;
  tells : (ds : List DefinitionTree) → TellsBodies l.initial.self.bodies.now ds → TellsRounds l.initial.self ds l.steps []
      → TellsRounds l.self ds l.steps (take l.name-index l.name-items);
}
