use Rattle.std.proofs.Common.{◌≡◌, ◌<◌, ◌++◌, Option, List, ℕ, length, take, drop, sym, subst, lt_of_lt_of_le, rules}
use Rattle.std.proofs.lemmas.Slice.{overwrites}
use Rattle.cs_table.specs.Classes.{AreFirsts}
use Rattle.cs_table.specs.Judged.{IsJudged, Table, verdicts}
use Rattle.cs_table.proofs.Tables.{only_table}
use Rattle.cs_table.proofs.filling.refill.Goals as goal

pub fill_item-requires-clause-firsts : goal.fill_item-requires-clause-firsts
fill_item-requires-clause-firsts g c =
    subst (AreFirsts c.loop-item.item (g.J.Judge.is_of_class c.args.judge.now)) (sym c.deref_mut.ensures.value) c.loop-item.invariant.firsts

pub loop-item-preserved : goal.loop-item-preserved
loop-item-preserved g c =
    let new = c.fill_item.new.firsts in
    let old = c.loop-item.firsts in
    let is : take old.len (new ++ drop (length new) old.items) ≡ new = search (rules, overwrites) in
    record {
      filled = c.fill_item.ensures.filled;
      firsts = subst (AreFirsts _ (g.J.Judge.is_of_class c.args.judge.now)) (sym is) c.fill_item.ensures.firsts;
    }

pub returns-clause-unique : goal.returns-clause-unique
returns-clause-unique g c = λ f jf i r l k.
    let judge = c.args.judge.now in
    let items = g.J.Judge.item_count judge in
    let rules = g.J.Judge.rule_count judge in
    let answers = g.J.Judge.answer judge in
    only_table rules answers (g.met.J.Judge.looks_back judge) items (verdicts c.keep_firsts.new.self) f
    (subst (λ (t : Table). IsJudged items rules answers (verdicts t)) (sym c.keep_firsts.ensures)
    (λ j q m n. c.loop-item.invariant.filled.judged j q (lt_of_lt_of_le (subst (λ v. j < v) (sym c.items-items.ensures) m) c.loop-item-test.false) n)) jf i r l k
