use Rattle.std.proofs.Common.{◌++◌, ◌∷◌, [], map, ap, ap₂, ◌∙◌}
use Rattle.std.proofs.lemmas.List.{map-append}
use Rattle.cs_grammar.specs.Tree.{definition}
use Rattle.cs_grammar.specs.View.{definition_view}
use Rattle.cs_names.proofs.resolved.Naming.add_resolved.Goals as goal

pub returns : goal.returns
returns c all ts ss tells told =
    let before = map definition_view c.args.found.now.items in
    ap (map definition_view) c.in_ok-push.ensures.items ∙ map-append definition_view c.args.found.now.items _
    ∙ ap₂ (λ s e. before ++ definition s c.args.at e ∷ []) c.in_ok-name.ensures.ok (c.in_ok-body.ensures all ts ss tells told)
