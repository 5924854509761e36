use Rattle.std.proofs.Common.{◌+◌, ◌*◌, ap, ◌∙◌, rules}
use Rattle.cs_reasons.specs.Marked.{marked}
use Rattle.cs_reasons.specs.Bits.{is_set}
use Rattle.cs_reasons.proofs.Bits.{blank, none_in, no}
use Rattle.cs_reasons.proofs.marks.Marks.new.Goals as goal

pub invariant_of-result-clause-shown : goal.invariant_of-result-clause-shown
invariant_of-result-clause-shown c = λ i r l e.
    let zero = c.in_ok-bytes.ensures.items_if_clones_equal (search rules) in
    absurd (no (is_set c.in_ok-bytes.bytes.items (i * c.args.rules + r)) (ap (λ bs. is_set bs (i * c.args.rules + r)) zero ∙ blank c.div_ceil.result (i * c.args.rules + r)) e)

pub returns-clause-none : goal.returns-clause-none
unfolding marked
returns-clause-none c = λ i r.
    let zero = c.in_ok-bytes.ensures.items_if_clones_equal (search rules) in
    none_in c.in_ok-bytes.bytes.items c.args.items c.args.rules i r (λ k. ap (λ bs. is_set bs k) zero ∙ blank _ k)
