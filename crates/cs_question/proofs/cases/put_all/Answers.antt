use Rattle.std.proofs.Common.{◌≡◌, true, sym, ap, ◌∙◌, take_all}
use Rattle.std.specs.List.{list_all}
use Rattle.std.proofs.lemmas.Result.{on_ok_weaker}
use Rattle.cs_question.specs.Asked.{meets}
use Rattle.cs_question.proofs.cases.put_all.Goals as goal

pub returns-clause-there : goal.returns-clause-there
returns-clause-there c =
    on_ok_weaker c.put.result (λ f J x h parts. f J x (c.loop-part.invariant J x h (ap (list_all (λ p. meets J x (record c.args.literal { rule = p }))) (take_all c.loop-part.part-index c.args.parts.now c.loop-part-test.false) ∙ parts))) c.put.ensures.there
