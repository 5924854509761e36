use Rattle.std.proofs.Common.{◌≡◌, List, []}
use Rattle.cs_grammar.specs.Tree.{DefinitionTree}
use Rattle.cs_embeddings.specs.Checks.{TellsBodies, TellsRounds}
use Rattle.cs_embeddings.proofs.embedded.Embeddable.of.Given as goal

abbrev pub invariant-loop-steps : goal.invariant-loop-steps
invariant-loop-steps l = record {
  same : l.embeddable.bodies.now ≡ l.bodies;
  tells : (ds : List DefinitionTree) → TellsBodies l.bodies ds → TellsRounds l.embeddable ds l.steps [];
}
