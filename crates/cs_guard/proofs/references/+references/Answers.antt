use Rattle.std.proofs.Common.{map, subst, arith}
use Rattle.std.proofs.lemmas.List.{take_all}
use Rattle.cs_package.specs.View.{expression_of, part_of, expressions_of, declarations_of, is_known, is_known_part}
use Rattle.cs_guard.specs.Taken.{of_field, taken, taken_all, taken_fields}
use Rattle.cs_guard.proofs.Pushes.{PushedAll, PushedParts, PushedWhere, PushedPartsWhere, on_ok, pushed_next, shapes_join, parts_join, pushed_And, pushed_Or, pushed_List, pushed_Struct}
use Rattle.cs_guard.proofs.references.+references.Goals as goal

pub push_shape-returns-in-And : goal.push_shape-returns-in-And
push_shape-returns-in-And t c =
    let f = c.args.followed in
    let old = c.args.numbers.now.items in
    let new = c.push_all.new.numbers.items in
    on_ok c.push_all.result (λ p. pushed_And f old new c.args.shape.now c.in-And.operands c.in-And.is (subst (PushedAll f old new) c.deref.ensures.value p)) c.push_all.ensures

pub push_shape-returns-in-Or : goal.push_shape-returns-in-Or
push_shape-returns-in-Or t c =
    let f = c.args.followed in
    let old = c.args.numbers.now.items in
    let new = c.push_where.new.numbers.items in
    on_ok c.push_where.result (λ p. pushed_Or f old new c.args.shape.now c.in-Or.operands c.in-Or.is (subst (λ o. PushedWhere f o old new c.in-Or.operands.items) c.behind_disjunction.ensures (subst (PushedWhere f c.behind_disjunction.result old new) c.deref-in-Or.ensures.value p))) c.push_where.ensures

pub push_shape-returns-in-Struct : goal.push_shape-returns-in-Struct
push_shape-returns-in-Struct t c =
    let f = c.args.followed in
    let old = c.args.numbers.now.items in
    let new = c.push_parts_where.new.numbers.items in
    on_ok c.push_parts_where.result (λ p. pushed_Struct f old new c.args.shape.now c.in-Struct.parts c.in-Struct.opened c.in-Struct.is (subst (λ o. PushedPartsWhere f o old new c.in-Struct.parts.items) c.inside_part.ensures (subst (PushedPartsWhere f c.inside_part.result old new) c.deref-in-Struct.ensures.value p))) c.push_parts_where.ensures

pub push_shape-returns-in_ok-push_where-in-List : goal.push_shape-returns-in_ok-push_where-in-List
push_shape-returns-in_ok-push_where-in-List t c =
    let f = c.args.followed in
    let old = c.args.numbers.now.items in
    let middle = c.push_where-in-List.new.numbers.items in
    let new = c.push_end.new.numbers.items in
    on_ok c.push_end.result (λ q. pushed_List f old middle new c.args.shape.now c.in-List.front c.in-List.end c.in-List.is (subst (λ o. PushedWhere f o old middle c.in-List.front.items) c.inside_part-in-List.ensures (subst (PushedWhere f c.inside_part-in-List.result old middle) c.deref-in-List.ensures.value c.in_ok-push_where-in-List.ensures)) q) c.push_end.ensures

pub push_all-loop-shape-preserved : goal.push_all-loop-shape-preserved
push_all-loop-shape-preserved t c =
    let f = c.args.followed in
    pushed_next (λ ns xs. taken_all f (expressions_of (map (expression_of ns) xs))) (λ ns x. taken f (expression_of ns x)) is_known (λ ns xs x. shapes_join f (expression_of ns) xs x)
    _ _ _ c.args.shapes.now c.loop-shape.shape-index c.shape-item.result c.loop-shape-test.true c.shape-item.is c.loop-shape.invariant c.in_ok-push_shape.ensures

pub push_all-returns : goal.push_all-returns
push_all-returns t c = subst (PushedAll c.args.followed c.args.numbers.now.items c.loop-shape.numbers.items) (take_all c.loop-shape.shape-index c.args.shapes.now (omega arith)) c.loop-shape.invariant

pub push_parts-loop-part-preserved : goal.push_parts-loop-part-preserved
push_parts-loop-part-preserved t c =
    let f = c.args.followed in
    pushed_next (λ ns xs. taken_fields f (declarations_of (map (part_of ns) xs))) (λ ns x. of_field (part_of ns x).mark f (taken f (part_of ns x).value)) is_known_part (λ ns xs x. parts_join f (part_of ns) xs x)
    _ _ _ c.args.parts.now c.loop-part.part-index c.part-item.result c.loop-part-test.true c.part-item.is c.loop-part.invariant c.in_ok-push_part.ensures

pub push_parts-returns : goal.push_parts-returns
push_parts-returns t c = subst (PushedParts c.args.followed c.args.numbers.now.items c.loop-part.numbers.items) (take_all c.loop-part.part-index c.args.parts.now (omega arith)) c.loop-part.invariant
