use Rattle.std.proofs.Common.{◌++◌, map, take, refl, sym, ap, ◌∙◌, subst, append_assoc}
use Rattle.std.specs.List.{flat_map}
use Rattle.std.proofs.lemmas.List.{take_all}
use Rattle.cs_grammar.specs.View.{definition_view}
use Rattle.cs_plain.specs.Placed.{kinds_of}
use Rattle.cs_plain.specs.References.{TellsTexts}
use Rattle.cs_plain.proofs.Folds.{gathered_more}
use Rattle.cs_plain.proofs.kinds.add_definitions.Goals as goal

pub loop-definition-preserved : goal.loop-definition-preserved
loop-definition-preserved c ss ns told named =
    let xs = c.args.definitions.now in
    let i = c.loop-definition.definition-index in
    let x = c.definition-item.result in
    let done = flat_map (kinds_of ns) (map definition_view (take i xs)) in
    let more = gathered_more (λ ys. flat_map (kinds_of ns) (map definition_view ys)) (λ y. kinds_of ns (definition_view y)) refl (λ d ds. refl) xs i x c.loop-definition-test.true c.definition-item.is in
    subst (TellsTexts c.add_definition.new.found) (append_assoc ss done (kinds_of ns (definition_view x)) ∙ ap (λ rs. ss ++ rs) (sym more))
    (c.in_ok-add_definition.ensures (ss ++ done) ns (c.loop-definition.invariant ss ns told named) named)

pub returns : goal.returns
returns c ss ns told named =
    subst (λ ys. TellsTexts c.loop-definition.found (ss ++ flat_map (kinds_of ns) (map definition_view ys))) (take_all c.loop-definition.definition-index c.args.definitions.now c.loop-definition-test.false) (c.loop-definition.invariant ss ns told named)
