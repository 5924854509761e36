use Rattle.std.proofs.Common.{Some, ◌+◌, map, take, drop, slice_get, sym, ap, ap₂, ◌∙◌, subst}
use Rattle.cs_embeddings.specs.Clashes.{clashes_behind, held}
use Rattle.cs_embeddings.specs.ClashTable.{TellsSeen}
use Rattle.cs_embeddings.specs.Views.{brought_view}
use Rattle.cs_embeddings.proofs.Clashing.{passed_by, held_by, passed_done, passed_rest, held_done, held_rest, clash_here, clash_passed}
use Rattle.cs_embeddings.proofs.clashes.first_clash.Goals as goal

pub loop-brought-preserved-in_default : goal.loop-brought-preserved-in_default
loop-brought-preserved-in_default c =
    let xs = c.args.declarations.now in
    let i = c.loop-brought.brought-index in
    let x = c.brought-item.result in
    let passed = passed_by (brought_view x) (sym c.in_default.ensures) in
    let done = passed_done xs i x c.loop-brought-test.true c.brought-item.is passed in
    let rest = passed_rest xs i x c.loop-brought-test.true c.brought-item.is passed in
    record {
      told = subst (λ ds. TellsSeen c.loop-brought.seen ds) (sym done) c.loop-brought.invariant.told;
      behind = c.loop-brought.invariant.behind ∙ ap₂ clashes_behind (sym done) rest;
    }

pub returns-then-differs : goal.returns-then-differs
returns-then-differs c =
    let xs = c.args.declarations.now in
    let i = c.loop-brought.brought-index in
    let x = c.brought-item.result in
    let before = held (map brought_view (take i xs)) in
    let behind = held (map brought_view (drop (i + 1) xs)) in
    let here = held_by (brought_view x) c.in-Some.at (sym c.in-Some.ensures) in
    let differs = sym (c.differs.ensures before c.may_open-may_open.ensures c.loop-brought.invariant.told) ∙ c.if-differs.true in
    let rest = held_rest xs i x c.loop-brought-test.true c.brought-item.is here.0 in
    let clash = clash_here before (brought_view x) behind c.in-Some.at differs here.1 in
    ap Some c.unwrap_or.ensures ∙ sym (ap (λ os. slice_get os 0) (c.loop-brought.invariant.behind ∙ ap (clashes_behind before) rest ∙ clash))

pub loop-brought-preserved : goal.loop-brought-preserved
loop-brought-preserved c =
    let xs = c.args.declarations.now in
    let i = c.loop-brought.brought-index in
    let x = c.brought-item.result in
    let before = held (map brought_view (take i xs)) in
    let behind = held (map brought_view (drop (i + 1) xs)) in
    let here = held_by (brought_view x) c.in-Some.at (sym c.in-Some.ensures) in
    let alone = sym (c.differs.ensures before c.may_open-may_open.ensures c.loop-brought.invariant.told) ∙ c.if-differs.false in
    let done = held_done xs i x c.loop-brought-test.true c.brought-item.is here.0 in
    let rest = held_rest xs i x c.loop-brought-test.true c.brought-item.is here.0 in
    record {
      told = subst (λ ds. TellsSeen c.add.new.self ds) (sym done) (c.in_ok-add.ensures before c.may_open-may_open.ensures c.loop-brought.invariant.told);
      behind = c.loop-brought.invariant.behind ∙ ap (clashes_behind before) rest ∙ clash_passed before (brought_view x) behind alone ∙ ap (λ ds. clashes_behind ds behind) (sym done);
    }
