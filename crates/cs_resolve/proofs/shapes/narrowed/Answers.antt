use Rattle.std.proofs.Common.{◌≡◌, ◌<◌, ◌++◌, map, take, drop, length, sym, ap, ◌∙◌, arith, length-set}
use Rattle.std.specs.List.{list_all}
use Rattle.cs_package.specs.View.{expression_of, expressions_of, is_known}
use Rattle.cs_resolve.specs.Resolved.{narrowed_operands, read_opened}
use Rattle.cs_resolve.proofs.OpenedShapes.{one_changed, all_changed, same_test, lent, all_opened_of}
use Rattle.cs_resolve.proofs.shapes.narrowed.Goals as goal

pub loop-shape-preserved : goal.loop-shape-preserved
loop-shape-preserved c =
    let l = c.loop-shape in
    let old = c.shape-item.result in
    let within : l.shape-index < length l.shape-items = omega (arith, c.loop-shape-test.true, l.auto.shape-items) in
    record {
      long = length-set l.shape-items l.shape-index c.open_shape.new.shape ∙ l.invariant.long;
      opened = λ ns. one_changed (expression_of ns) read_opened l.shape-items c.args.shapes.items l.shape-index old c.open_shape.new.shape within c.shape-item.is (c.open_shape.ensures.opened ns ∙ ap (λ s. read_opened (expression_of ns s)) (sym c.shape-item.is)) (l.invariant.opened ns);
      known = λ count. same_test (is_known count) l.shape-items l.shape-index old c.open_shape.new.shape c.shape-item.is within (c.open_shape.ensures.known count ∙ ap (is_known count) (sym c.shape-item.is)) ∙ l.invariant.known count;
    }

pub returns-after-loop-shape-clause-opened : goal.returns-after-loop-shape-clause-opened
returns-after-loop-shape-clause-opened c ns =
    let l = c.loop-shape in
    let old = c.args.shapes.items in
    let long = l.invariant.long in
    let whole : take c.args.shapes.len (l.shape-items ++ drop (length l.shape-items) old) ≡ l.shape-items = lent c.args.shapes.len l.shape-items old (omega (arith, long)) (omega (arith, long)) in
    let all = all_changed (expression_of ns) read_opened l.shape-items old l.shape-index (omega (arith, long, c.loop-shape-test.false)) (l.invariant.opened ns) in
    ap (λ ss. expressions_of (map (expression_of ns) ss)) whole ∙ ap expressions_of all ∙ all_opened_of (map (expression_of ns) old) ∙ ap (λ b. narrowed_operands b (expressions_of (map (expression_of ns) old))) (sym c.if-refines.true)

pub returns-after-loop-shape-clause-known : goal.returns-after-loop-shape-clause-known
returns-after-loop-shape-clause-known c count =
    let l = c.loop-shape in
    let long = l.invariant.long in
    ap (list_all (is_known count)) (lent c.args.shapes.len l.shape-items c.args.shapes.items (omega (arith, long)) (omega (arith, long))) ∙ l.invariant.known count
