use Rattle.std.proofs.Common.{◌≡◌, List, drop}
use Rattle.cs_grammar.specs.Tree.{DefinitionTree}
use Rattle.cs_grammar.specs.View.{exprs_view, fields_view, declarations_view}
use Rattle.cs_embeddings.specs.NarrowedTable.{TellsEmbeddable}
use Rattle.cs_embeddings.specs.Flaws.{flaws_each, flaws_fields, flaws_declarations}
use Rattle.cs_embeddings.proofs.flaws.Flaws.+flaws.Given as goal

abbrev pub invariant-check_declarations-loop-declaration : goal.invariant-check_declarations-loop-declaration
invariant-check_declarations-loop-declaration l = (ds : List DefinitionTree) → TellsEmbeddable l.self ds
    → flaws_declarations ds (declarations_view l.declarations) ≡ flaws_declarations ds (declarations_view (drop l.declaration-index l.declarations))

abbrev pub invariant-check_each-loop-expr : goal.invariant-check_each-loop-expr
invariant-check_each-loop-expr l = (ds : List DefinitionTree) → TellsEmbeddable l.self ds
    → flaws_each ds (exprs_view l.exprs) ≡ flaws_each ds (exprs_view (drop l.expr-index l.exprs))

abbrev pub invariant-check_fields-loop-field : goal.invariant-check_fields-loop-field
invariant-check_fields-loop-field l = (ds : List DefinitionTree) → TellsEmbeddable l.self ds
    → flaws_fields ds (fields_view l.fields) ≡ flaws_fields ds (fields_view (drop l.field-index l.fields))
