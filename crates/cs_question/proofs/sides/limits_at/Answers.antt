use Rattle.std.proofs.Common.{◌∙◌}
use Rattle.std.proofs.lemmas.Option.{IfSome_then}
use Rattle.cs_document.specs.Opened.{opened}
use Rattle.cs_question.specs.Nodes.{asked_of}
use Rattle.cs_question.proofs.Loops.{item_some}
use Rattle.cs_question.proofs.Said.{got_mapped}
use Rattle.cs_question.proofs.Between.{range_is}
use Rattle.cs_question.proofs.sides.limits_at.Goals as goal

pub returns : goal.returns
returns c =
    let node = c.in_ok-get.field-0.now in
    IfSome_then c.limits_of.result c.limits_of.ensures (λ l h J side x.
    side c.args.rule (asked_of node) x (got_mapped asked_of c.args.nodes.now c.args.rule node (item_some c.args.nodes.now c.args.rule c.in_ok-get.field-0 c.in_ok-get.ensures.lookup))
    ∙ range_is (λ p. J p x) (λ y p. J p y) (asked_of node) l.0 l.1 (opened x) h)
