use Rattle.std.proofs.Common.{false, ◌++◌, ◌∷◌, [], map, ap, ap₂, ◌∙◌}
use Rattle.std.proofs.lemmas.List.{map-append}
use Rattle.cs_grammar.specs.Tree.{struct}
use Rattle.cs_grammar.specs.View.{field_view, fields_of}
use Rattle.cs_grammar.proofs.Views.{view-Struct}
use Rattle.cs_conditions.proofs.choice.Choosing.failing.Goals as goal

pub returns : goal.returns
returns c known all told =
    let o = c.args.at in
    let all_of = ap (map field_view) c.in_ok-push.ensures.items ∙ map-append field_view c.in_ok-fields.fields.items _
    ∙ ap₂ (λ xs f. xs ++ f ∷ []) (c.in_ok-fields.ensures known all told) (c.in_ok-made.ensures known all told) in
    view-Struct o c.push.new.self false ∙ ap (λ xs. struct o (fields_of xs) false) all_of
