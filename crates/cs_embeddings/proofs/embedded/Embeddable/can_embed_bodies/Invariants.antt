use Rattle.std.proofs.Common.{◌≡◌, ℕ, ◌≤◌, List, drop}
use Rattle.std.specs.List.{list_all}
use Rattle.cs_grammar.specs.Tree.{DefinitionTree}
use Rattle.cs_embeddings.specs.Checks.{TellsBodies, TellsSteps, bodies_view}
use Rattle.cs_embeddings.specs.Embedded.{can_be_embedded}
use Rattle.cs_embeddings.proofs.embedded.Embeddable.can_embed_bodies.Given as goal

abbrev pub invariant-loop-body : goal.invariant-loop-body
invariant-loop-body l = (ds : List DefinitionTree) (most : ℕ) → TellsBodies l.self.bodies.now ds → TellsSteps l.self ds most → l.steps ≤ most
    → list_all (can_be_embedded ds l.steps) (bodies_view l.bodies) ≡ list_all (can_be_embedded ds l.steps) (bodies_view (drop l.body-index l.bodies))
