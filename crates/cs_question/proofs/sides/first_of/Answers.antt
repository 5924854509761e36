use Rattle.std.proofs.Common.{sym, ◌∙◌}
use Rattle.cs_question.proofs.Loops.{item_some}
use Rattle.cs_question.proofs.Said.{same_rules, same_parts}
use Rattle.cs_question.proofs.sides.first_of.Goals as goal
use Rattle.cs_question.proofs.sides.first_of.Goals.{then-are_alike, else-are_alike}

pub returns-in-Some-get : goal.returns-in-Some-get
returns-in-Some-get c = λ J side x.
    let node = c.in-Some.node in
    let other = c.in-Some-get.other in
    let first = c.unwrap_or-first.result in
    let at = item_some c.args.nodes.now first other c.in-Some-get.ensures.lookup in
    let there = item_some c.args.nodes.now c.args.rule node c.in-Some.ensures.lookup in
    elim c.if-are_alike.branch [
      | then-are_alike w ↦ same_rules c.args.nodes.now first c.args.rule other.now node.now at there (c.are_alike.ensures w.if-are_alike.true) J side x
      | else-are_alike w ↦ same_parts c.args.nodes.now first c.args.rule other.now node.now at there (w.are_same_parts.ensures (sym w.value-is ∙ c.if-are_same_parts.true)) J side x
    ]
