use Rattle.std.proofs.Common.{◌≡◌, true, length, ap, ◌∙◌, Some, arith}
use Rattle.cs_document.specs.Document.{list, elements}
use Rattle.cs_question.specs.Asked.{meets}
use Rattle.cs_question.specs.Nodes.{end_of}
use Rattle.cs_question.proofs.Listed.{long}
use Rattle.cs_question.proofs.Loops.{all_at, first_literal}
use Rattle.cs_question.proofs.Unfolded.{list_is}
use Rattle.cs_question.proofs.lists.asks_for_more.Goals as goal

pub returns-in-Some-List : goal.returns-in-Some-List
returns-in-Some-List c = λ e J ds m met.
    let f = c.in-Some-List in
    let one = all_at (meets J (list ds)) c.args.asked.now c.loop-literal.literal-index first_literal c.loop-literal-test.true met in
    let h = list_is c.args.nodes.now J m _ true c.if-literal.true f.front f.field-0-1 ds (f.ensures ∙ ap Some f.field-0-is) one in
    let l = long (λ y p. J _ p y) f.front.items (end_of f.field-0-1) (elements ds) h in
    let size : c.len.result ≡ length f.front.items = let v = f.front.ok.0 in let k = c.len.ensures in omega (arith, v, k) in
    let b = c.if-len-count.true in
    omega (arith, l, size, b)
