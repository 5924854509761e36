use Rattle.cs_reasons.proofs.choosing.keep_near.Goals as goal

pub keep_near-requires-clause-alternatives : goal.keep_near-requires-clause-alternatives
keep_near-requires-clause-alternatives g c = λ k x at.
    let h = c.in_ok-keep_alternatives.ensures k x at in
    (c.requires.causes h.0.0 x h.0.1, h.1)
