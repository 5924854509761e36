use Rattle.std.proofs.Common.{◌≡◌, ℕ, ◌≤◌, List, drop}
use Rattle.cs_grammar.specs.Tree.{DefinitionTree}
use Rattle.cs_grammar.specs.View.{exprs_view, fields_view, declarations_view}
use Rattle.cs_embeddings.specs.Checks.{TellsBodies, TellsSteps}
use Rattle.cs_embeddings.specs.Embedded.{can_be_embedded, all_embedded, embed_well, fields_embed_well, declarations_embed_well}
use Rattle.cs_embeddings.proofs.embedded.Embeddable.+embedded.Given as goal

abbrev pub invariant-can_embed_all-loop-expr : goal.invariant-can_embed_all-loop-expr
invariant-can_embed_all-loop-expr l = (ds : List DefinitionTree) (most : ℕ) → TellsBodies l.self.bodies.now ds → TellsSteps l.self ds most → l.steps ≤ most
    → all_embedded (can_be_embedded ds l.steps) (exprs_view l.exprs) ≡ all_embedded (can_be_embedded ds l.steps) (exprs_view (drop l.expr-index l.exprs))

abbrev pub invariant-embed_well-loop-expr : goal.invariant-embed_well-loop-expr
invariant-embed_well-loop-expr l = (ds : List DefinitionTree) (most : ℕ) → TellsBodies l.self.bodies.now ds → TellsSteps l.self ds most → l.steps ≤ most
    → embed_well (can_be_embedded ds l.steps) (exprs_view l.exprs) ≡ embed_well (can_be_embedded ds l.steps) (exprs_view (drop l.expr-index l.exprs))

abbrev pub invariant-fields_embed_well-loop-field : goal.invariant-fields_embed_well-loop-field
invariant-fields_embed_well-loop-field l = (ds : List DefinitionTree) (most : ℕ) → TellsBodies l.self.bodies.now ds → TellsSteps l.self ds most → l.steps ≤ most
    → fields_embed_well (can_be_embedded ds l.steps) (fields_view l.fields) ≡ fields_embed_well (can_be_embedded ds l.steps) (fields_view (drop l.field-index l.fields))

abbrev pub invariant-declarations_embed_well-loop-declaration : goal.invariant-declarations_embed_well-loop-declaration
invariant-declarations_embed_well-loop-declaration l = (ds : List DefinitionTree) (most : ℕ) → TellsBodies l.self.bodies.now ds → TellsSteps l.self ds most → l.steps ≤ most
    → declarations_embed_well (can_be_embedded ds l.steps) (declarations_view l.declarations) ≡ declarations_embed_well (can_be_embedded ds l.steps) (declarations_view (drop l.declaration-index l.declarations))
