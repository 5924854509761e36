use Rattle.std.proofs.Common.{[], ◌∷◌, ◌++◌, map, take, sym, ap, ◌∙◌, subst}
use Rattle.std.proofs.lemmas.List.{append-nil, append_assoc, map-append}
use Rattle.cs_grammar.specs.Tree.{defined_name}
use Rattle.cs_grammar.specs.View.{definition_view}
use Rattle.cs_resolve.specs.Steps.{HoldsNames}
use Rattle.cs_resolve.proofs.CountedNames.{counted}
use Rattle.cs_resolve.proofs.Trees.{map_more}
use Rattle.cs_resolve.proofs.resolving.put_names.Goals as goal

pub loop-definition-init : goal.loop-definition-init
loop-definition-init c ns held = subst (HoldsNames c.args.names.now) (sym (append-nil ns)) held

pub loop-definition-preserved : goal.loop-definition-preserved
loop-definition-preserved c ns held =
    let l = c.loop-definition in
    let i = l.definition-index in
    let xs = c.deref-definition-items.result.now in
    let d = c.definition-item.result in
    let before = map defined_name (map definition_view (take i xs)) in
    let put = counted l.names c.insert.new.self (ns ++ before) c.as_str.result _ (l.invariant ns held) c.in_ok-insert.ensures.updates c.in_ok-insert.ensures.added c.in_ok-insert.ensures.len in
    let more = ap (map defined_name) (map_more definition_view xs i d c.loop-definition-test.true c.definition-item.is) ∙ map-append defined_name (map definition_view (take i xs)) (definition_view d ∷ []) in
    subst (HoldsNames c.insert.new.self) (append_assoc ns before (c.as_str.result.now ∷ []) ∙ ap (λ t. ns ++ (before ++ t ∷ [])) c.as_str.ensures.value ∙ ap (λ r. ns ++ r) (sym more)) put
