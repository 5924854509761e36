use Rattle.std.proofs.Common.{◌∷◌, [], ◌++◌, map, take, sym, ap, ap₂, ◌∙◌}
use Rattle.std.proofs.lemmas.List.{map-append, append_assoc, append-nil, take_all}
use Rattle.cs_embeddings.specs.GatheredTable.{declared_view}
use Rattle.cs_embeddings.proofs.Listed.{own_declared, all_declared}
use Rattle.cs_embeddings.proofs.Parts.{take_at}
use Rattle.cs_embeddings.proofs.kept.add_declared.Goals as goal

pub loop-definition-init : goal.loop-definition-init
loop-definition-init c = sym (append-nil (map declared_view c.args.all.now.items))

pub loop-definition-preserved : goal.loop-definition-preserved
loop-definition-preserved c =
    let xs = c.args.definitions.now in let i = c.loop-definition.definition-index in let x = c.definition-item.result in
    let before = map declared_view c.args.all.now.items in
    ap (map declared_view) c.in_ok-push.ensures.items
    ∙ map-append declared_view c.loop-definition.all.items (c.of_definition.result ∷ [])
    ∙ ap₂ (λ ds d. ds ++ d ∷ []) c.loop-definition.invariant c.of_definition.ensures
    ∙ append_assoc before (map own_declared (take i xs)) (own_declared x ∷ [])
    ∙ ap (λ ds. before ++ ds)
    (sym (ap (map own_declared) (take_at xs i x c.loop-definition-test.true c.definition-item.is) ∙ map-append own_declared (take i xs) (x ∷ [])))

pub returns : goal.returns
returns c =
    let xs = c.args.definitions.now in let i = c.loop-definition.definition-index in
    let before = map declared_view c.args.all.now.items in
    c.loop-definition.invariant ∙ ap (λ ds. before ++ ds) (ap (map own_declared) (take_all i xs c.loop-definition-test.false) ∙ all_declared xs)
