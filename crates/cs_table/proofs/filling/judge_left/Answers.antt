use Rattle.std.proofs.Common.{◌≡◌, length, subst, arith}
use Rattle.std.specs.Prelude.{slice_index}
use Rattle.cs_table.specs.Filled.{IsUnderWay}
use Rattle.cs_table.specs.Judged.{verdicts}
use Rattle.cs_table.proofs.Steps.{step, finish}
use Rattle.cs_table.proofs.filling.judge_left.Goals as goal

pub loop-left-preserved : goal.loop-left-preserved
loop-left-preserved g c =
    let judge = c.args.judge.now in
    let row = c.args.row in
    let decided = c.requires.decided in
    let done = c.give.ensures in
    step c.args.item (g.J.Judge.item_count judge) (g.J.Judge.rule_count judge) (g.J.Judge.answer judge) (g.met.J.Judge.looks_back judge) (slice_index row.left.now) (length row.left.now) (verdicts row.table.now row.item) c.loop-left.left-index c.loop-left.done c.give.new.self c.judge-verdict.result c.loop-left.invariant c.loop-left-test.true decided.within decided.ascends done.size done.given c.judge-verdict.ensures done.others

pub returns : goal.returns
returns g c =
    let judge = c.args.judge.now in
    let row = c.args.row in
    let items = g.J.Judge.item_count judge in
    let rules = g.J.Judge.rule_count judge in
    let answers = g.J.Judge.answer judge in
    let t = c.loop-left.done in
    let order = slice_index row.left.now in
    let total = length row.left.now in
    let decided = verdicts row.table.now row.item in
    let whole : c.loop-left.left-index ≡ total = omega (arith, c.loop-left-test.false, c.loop-left.auto.left-index-end) in
    let way : IsUnderWay total c.args.item items rules answers order total decided t = subst (λ k. IsUnderWay k c.args.item items rules answers order total decided t) whole c.loop-left.invariant in
    finish c.args.item items rules answers (g.met.J.Judge.looks_back judge) order total decided t way (c.requires.decided.judged (verdicts t) way.outside)
