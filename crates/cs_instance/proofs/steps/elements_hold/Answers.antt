use Rattle.std.proofs.Common.{ℕ, ◌∙◌, sym}
use Rattle.cs_rules.specs.Knowns.{verdict_inside}
use Rattle.cs_instance.specs.Steps.{ending_of}
use Rattle.cs_instance.proofs.Found.{none_left}
use Rattle.cs_instance.proofs.steps.elements_hold.Goals as goal

pub returns-in_default : goal.returns-in_default
returns-in_default c =
    let inside = λ (y p : ℕ). verdict_inside c.args.known.now y p in
    sym (c.loop-part.invariant.same ∙ none_left inside c.args.front.now (ending_of c.args.end.now) c.loop-part.rest.now c.loop-part.part-index c.loop-part-test.true c.in_default.ensures.cases)
