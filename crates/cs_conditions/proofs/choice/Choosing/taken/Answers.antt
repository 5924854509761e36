use Rattle.std.proofs.Common.{false, ◌++◌, ◌∷◌, [], map, ap, ap₂, ◌∙◌}
use Rattle.std.proofs.lemmas.List.{map-append}
use Rattle.cs_grammar.specs.Tree.{wide, merged}
use Rattle.cs_grammar.specs.View.{declaration_view, declarations_of}
use Rattle.cs_grammar.proofs.Views.{view-Merged, view-Wide, view-embedded}
use Rattle.cs_conditions.proofs.choice.Choosing.taken.Goals as goal

pub returns : goal.returns
returns c known all told =
    let o = c.args.at in
    let ds = c.push.new.self in
    let all_of = ap (map declaration_view) c.in_ok-push.ensures.items ∙ map-append declaration_view c.in_ok-declarations.declarations.items _
    ∙ ap₂ (λ xs d. xs ++ d ∷ []) (c.in_ok-declarations.ensures known all told) (view-embedded o c.args.value) in
    view-Wide _ ∙ ap wide (view-Merged o ds false ∙ ap (λ xs. merged o (declarations_of xs) false) all_of)
