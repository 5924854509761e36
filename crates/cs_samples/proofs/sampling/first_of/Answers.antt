use Rattle.std.proofs.Common.{◌≡◌, ◌-◌, ◌++◌, length, drop, sym, ap, ◌∙◌}
use Rattle.std.proofs.lemmas.List.{take-append-drop, length-drop}
use Rattle.cs_samples.proofs.sampling.first_of.Goals as goal

pub returns-clause-split : goal.returns-clause-split
returns-clause-split c =
    let all = c.args.found.texts.items in
    let rest = drop c.args.most all in
    let many : length rest ≡ length all - c.args.most = length-drop c.args.most all in
    (rest, many ∙ sym (c.saturating_sub-more.ensures ∙ ap (λ n. n - c.args.most) (c.len.ensures ∙ c.args.found.texts.ok.0)), ap (λ first. first ++ rest) c.truncate.ensures.items ∙ take-append-drop c.args.most all)
