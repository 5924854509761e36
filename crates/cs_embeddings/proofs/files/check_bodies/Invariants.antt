use Rattle.std.proofs.Common.{◌≡◌, List, drop, map}
use Rattle.std.specs.List.{flat_map}
use Rattle.cs_grammar.specs.Tree.{DefinitionTree, body}
use Rattle.cs_grammar.specs.View.{definition_view}
use Rattle.cs_embeddings.specs.NarrowedTable.{TellsEmbeddable}
use Rattle.cs_embeddings.specs.Flaws.{flaws}
use Rattle.cs_embeddings.proofs.files.check_bodies.Given as goal

abbrev pub invariant-loop-definition : goal.invariant-loop-definition
invariant-loop-definition l = (ds : List DefinitionTree) → TellsEmbeddable l.flaws ds
    → flat_map (λ d. flaws ds (body d)) (map definition_view l.definitions) ≡ flat_map (λ d. flaws ds (body d))
    (map definition_view (drop l.definition-index l.definitions))
