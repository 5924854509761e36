use Rattle.std.proofs.Common.{[], ◌∷◌, ◌++◌, map, take, drop, Some, suc, sym, ap, ◌∙◌, option_map}
use Rattle.std.proofs.Math.Seq.{split_at}
use Rattle.std.proofs.lemmas.List.{map-append, take_all}
use Rattle.cs_document.proofs.Maps.{take_at}
use Rattle.cs_package.specs.View.{expression_of}
use Rattle.cs_compile.specs.Literals.{literal_view}
use Rattle.cs_compile.specs.Translation.{literals}
use Rattle.cs_compile.proofs.Enumerations.{literal_seen, literals-last, no_literals}
use Rattle.cs_compile.proofs.literals.literals.Goals as goal

pub returns-in_default : goal.returns-in_default
returns-in_default c = λ ns.
    let i = c.loop-operand.operand-index in
    let xs = c.args.operands.now in
    let x = c.operand-item.result in
    let view = expression_of ns in
    sym (ap (λ ys. literals (map view ys)) (split_at xs i x c.loop-operand-test.true ∙ ap (λ y. take i xs ++ y ∷ drop (suc i) xs) (sym c.operand-item.is)) ∙ ap literals (map-append view (take i xs) (x ∷ drop (suc i) xs))
    ∙ no_literals (map view (take i xs)) (map view (drop (suc i) xs)) (view x) (sym (literal_seen c.literal.result (view x) (c.literal.ensures ns)) ∙ ap (option_map literal_view) c.in_default.is))

pub loop-operand-preserved : goal.loop-operand-preserved
loop-operand-preserved c = λ ns.
    let l = c.loop-operand in
    let xs = c.args.operands.now in
    let x = c.operand-item.result in
    let view = expression_of ns in
    ap (λ ys. literals (map view ys)) (take_at xs l.operand-index x c.loop-operand-test.true c.operand-item.is)
    ∙ ap literals (map-append view (take l.operand-index xs) (x ∷ []))
    ∙ literals-last (map view (take l.operand-index xs)) (view x) (map literal_view l.literals.items) (literal_view c.in-Some.literal) (l.invariant ns) (sym (literal_seen c.literal.result (view x) (c.literal.ensures ns)) ∙ ap (option_map literal_view) c.in-Some.is)
    ∙ ap Some (sym (ap (map literal_view) c.in_ok-push.ensures.items ∙ map-append literal_view l.literals.items (c.in-Some.literal ∷ [])))

pub returns : goal.returns
returns c = λ ns.
    let l = c.loop-operand in
    sym (l.invariant ns) ∙ ap (λ ys. literals (map (expression_of ns) ys)) (take_all l.operand-index c.args.operands.now c.loop-operand-test.false)
