use Rattle.std.proofs.Common.{◌++◌, ◌∷◌, [], map, take, sym, ap, ◌∙◌, subst, append_assoc}
use Rattle.std.proofs.lemmas.List.{map-append}
use Rattle.cs_grammar.specs.View.{definition_view}
use Rattle.cs_names.specs.Taken.{TellsDefined}
use Rattle.cs_names.proofs.Tables.{defined_put}
use Rattle.cs_plain.proofs.Walks.{take_at}
use Rattle.cs_names.proofs.taken.add_defined.Goals as goal

pub loop-definition-preserved : goal.loop-definition-preserved
loop-definition-preserved c ds told =
    let xs = c.deref-definition-items.result.now in
    let i = c.loop-definition.definition-index in
    let d = c.definition-item.result in
    let before = map definition_view (take i xs) in
    let more = ap (map definition_view) (take_at xs i d c.loop-definition-test.true c.definition-item.is) ∙ map-append definition_view (take i xs) (d ∷ []) in
    subst (TellsDefined c.insert.new.self) (append_assoc ds before (definition_view d ∷ []) ∙ ap (λ es. ds ++ es) (sym more))
    (defined_put c.loop-definition.defined c.insert.new.self c.as_str.result (ds ++ before) (definition_view d) (c.loop-definition.invariant ds told) (sym c.as_str.ensures.value) c.in_ok-insert.ensures.updates)
