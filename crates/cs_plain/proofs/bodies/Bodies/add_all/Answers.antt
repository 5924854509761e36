use Rattle.std.proofs.Common.{◌++◌, ◌∷◌, [], map, take, refl, sym, ap, ◌∙◌, subst, append_assoc}
use Rattle.std.proofs.lemmas.List.{take_all}
use Rattle.cs_grammar.specs.View.{definition_view}
use Rattle.cs_plain.proofs.Folds.{gathered_more}
use Rattle.cs_plain.specs.Bodies.{TellsBodies}
use Rattle.cs_plain.specs.Bodies.{body_of}
use Rattle.cs_plain.proofs.bodies.Bodies.add_all.Goals as goal

pub loop-definition-preserved : goal.loop-definition-preserved
loop-definition-preserved c bs told =
    let xs = c.args.definitions.now in
    let i = c.loop-definition.definition-index in
    let x = c.definition-item.result in
    let done = map body_of (map definition_view (take i xs)) in
    let one = body_of (definition_view x) ∷ [] in
    let more = gathered_more (λ ys. map body_of (map definition_view ys)) (λ d. body_of (definition_view d) ∷ []) refl (λ d ds. refl) xs i x c.loop-definition-test.true c.definition-item.is in
    subst (TellsBodies c.add.new.self) (append_assoc bs done one ∙ ap (λ es. bs ++ es) (sym more)) (c.in_ok-add.ensures (bs ++ done) (c.loop-definition.invariant bs told))

pub returns : goal.returns
returns c bs told =
    let whole = take_all c.loop-definition.definition-index c.args.definitions.now c.loop-definition-test.false in
    subst (λ ys. TellsBodies c.loop-definition.self (bs ++ map body_of (map definition_view ys))) whole (c.loop-definition.invariant bs told)
