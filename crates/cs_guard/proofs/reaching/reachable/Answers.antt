use Rattle.std.proofs.Common.{◌≡◌, ◌+◌, ◌<◌, false, [], ◌∷◌, length, get_or, sym, ap, ◌∙◌, subst, arith}
use Rattle.std.proofs.lemmas.List.{length-replicate}
use Rattle.cs_graph.specs.Chains.{On}
use Rattle.cs_graph.proofs.AllDone.{written_back}
use Rattle.cs_graph.proofs.Places.{on_get}
use Rattle.cs_guard.specs.Found.{Marked, Added}
use Rattle.cs_guard.specs.declared.references.Followed.TheVariants.{Every}
use Rattle.cs_guard.proofs.GraphRows.{row_of}
use Rattle.cs_guard.proofs.Finds.{marked_none}
use Rattle.cs_guard.proofs.Walks.{Walking, begun, at_next, gone_on, all_inside, walked}
use Rattle.cs_guard.proofs.reaching.reachable.Goals as goal

pub add-requires-clause-marked : goal.add-requires-clause-marked
add-requires-clause-marked c =
    subst (λ order. Marked c.deref_mut.result.now order) (sym c.new-order.ensures.items)
    (subst (λ seen. Marked seen []) (sym (c.deref_mut.ensures.value ∙ c.in_ok-seen.ensures.items_if_clones_equal (λ b same. same))) (marked_none c.count.result))

pub loop-next-init : goal.loop-next-init
loop-next-init c =
    let E = c.args.package.now in
    let a = c.in_ok-add.ensures in
    let old = c.in_ok-seen.seen.items in
    let new = c.add.new.seen in
    let order = c.add.new.order.items in
    let same : c.deref_mut.result.now ≡ old = c.deref_mut.ensures.value in
    let back = written_back old new c.in_ok-seen.seen.len (omega arith) (a.long ∙ ap length same) in
    let long : length c.deref_mut.result.now ≡ length E = ap length (same ∙ c.in_ok-seen.ensures.items_if_clones_equal (λ b clone. clone)) ∙ length-replicate c.count.result false ∙ c.count.ensures.length in
    let begins = subst (λ none. Added (c.args.root ∷ []) c.deref_mut.result.now none new order) c.new-order.ensures.items a in
    subst (λ seen. Walking E c.args.root seen order 0) (sym back) (begun E c.args.root c.deref_mut.result.now new order long begins)

pub bodies-requires : goal.bodies-requires
bodies-requires c =
    let l = c.loop-next in
    at_next c.args.package.now c.args.root l.seen.items l.order.items l.next l.invariant c.index.result.now (omega (arith, c.loop-next-test.true, c.len.ensures)) c.index.ensures

pub add_all-requires-clause-inside : goal.add_all-requires-clause-inside
add_all-requires-clause-inside c = λ k d small.
    let E = c.args.package.now in
    let l = c.loop-next in
    let i = c.index.result.now in
    let inner = at_next E c.args.root l.seen.items l.order.items l.next l.invariant i (omega (arith, c.loop-next-test.true, c.len.ensures)) c.index.ensures in
    let row = row_of Every E i c.in_ok-references.references.items c.bodies.result.now inner c.bodies.ensures.at c.bodies.ensures.named c.bodies.ensures.known c.in_ok-references.ensures in
    let m = get_or c.deref.result.now k d in
    let less = row.within m (subst (On m) c.deref.ensures.value (on_get c.deref.result.now k d small)) in
    omega (arith, less, ap length c.deref_mut-in-loop-next.ensures.value, l.invariant.long)

pub loop-next-preserved : goal.loop-next-preserved
loop-next-preserved c =
    let E = c.args.package.now in
    let l = c.loop-next in
    let i = c.index.result.now in
    let old = l.seen.items in
    let new = c.add_all.new.seen in
    let order = l.order.items in
    let longer = c.add_all.new.order.items in
    let further : l.next < length order = omega (arith, c.loop-next-test.true, c.len.ensures) in
    let inner = at_next E c.args.root old order l.next l.invariant i further c.index.ensures in
    let references = c.in_ok-references.references.items in
    let row = row_of Every E i references c.bodies.result.now inner c.bodies.ensures.at c.bodies.ensures.named c.bodies.ensures.known c.in_ok-references.ensures in
    let same : c.deref_mut-in-loop-next.result.now ≡ old = c.deref_mut-in-loop-next.ensures.value in
    let added = subst (λ xs. Added xs old order new longer) c.deref.ensures.value (subst (λ seen. Added c.deref.result.now seen order new longer) same c.in_ok-add_all.ensures) in
    let back = written_back old new l.seen.len (omega arith) added.long in
    subst (λ seen. Walking E c.args.root seen longer (l.next + 1)) (sym back) (gone_on E c.args.root old new order longer references l.next i l.invariant further c.index.ensures row added)

pub returns-clause-found : goal.returns-clause-found
returns-clause-found c =
    let l = c.loop-next in
    walked c.args.package.now c.args.root l.seen.items l.order.items l.next c.count.ensures.distinct l.invariant (omega (arith, c.loop-next-test.false, c.len.ensures))

pub returns-clause-within : goal.returns-clause-within
returns-clause-within c =
    let l = c.loop-next in
    all_inside c.args.package.now c.args.root l.seen.items l.order.items l.next l.invariant
