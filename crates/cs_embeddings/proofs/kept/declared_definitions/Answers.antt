use Rattle.std.proofs.Common.{◌++◌, map, ap, ◌∙◌}
use Rattle.cs_grammar.specs.View.{definition_view}
use Rattle.cs_embeddings.specs.Bodies.{as_declared}
use Rattle.cs_embeddings.specs.GatheredTable.{declared_view}
use Rattle.cs_embeddings.proofs.kept.declared_definitions.Goals as goal

pub returns : goal.returns
returns c =
    c.in_ok-add_declared.ensures
    ∙ ap (λ xs. map declared_view xs ++ map as_declared (map definition_view c.args.definitions.now)) c.in_ok-all.ensures.items
