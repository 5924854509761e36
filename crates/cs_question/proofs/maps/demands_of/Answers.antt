use Rattle.std.proofs.Common.{◌≡◌, true, rules, sym, ap, ◌∙◌, take_all}
use Rattle.cs_document.specs.Document.{object, entries}
use Rattle.cs_question.specs.Asked.{meets, meets_all}
use Rattle.cs_question.specs.Spread.{IsFurther}
use Rattle.cs_question.proofs.Loops.{all_before, all_read, first_literal}
use Rattle.cs_question.proofs.Mapped.{each_other, inner_entry}
use Rattle.cs_question.proofs.maps.demands_of.Goals as goal

pub loop-literal-init : goal.loop-literal-init
loop-literal-init c = record {
  places = λ J n ms m are l h. c.in_ok-empty_places.ensures J n ms are l;
  further = λ J n ms e m h there other inner. search rules;
  rules = λ J ms m are h. search rules;
}

pub loop-literal-preserved : goal.loop-literal-preserved
loop-literal-preserved c =
    let i = c.loop-literal.literal-index in
    let b = c.loop-literal-test.true in
    let old = c.loop-literal.invariant in
    let one = c.in_ok-ask_rule.ensures in
    record {
      places = λ J n ms m are l h. one.places J n ms m (all_read (meets J (object ms)) c.args.asked.now i first_literal b h) (old.places J n ms m are l (all_before (meets J (object ms)) c.args.asked.now i first_literal b h));
      further = λ J n ms e m h there other inner. one.further J n ms e m (all_read (meets J (object ms)) c.args.asked.now i first_literal b h) there other (old.further J n ms e m (all_before (meets J (object ms)) c.args.asked.now i first_literal b h) there other inner);
      rules = λ J ms m are h. one.rules J ms m are (all_read (meets J (object ms)) c.args.asked.now i first_literal b h) (old.rules J ms m are (all_before (meets J (object ms)) c.args.asked.now i first_literal b h));
    }

pub returns-clause-places : goal.returns-clause-places
returns-clause-places c = λ J n ms m are l h. c.loop-literal.invariant.places J n ms m are l (ap (meets_all J (object ms)) (take_all c.loop-literal.literal-index c.args.asked.now c.loop-literal-test.false) ∙ h)

pub returns-clause-further : goal.returns-clause-further
returns-clause-further c = λ J n ms m are l h.
    each_other c.args.labels.now (entries ms) (IsFurther J n c.loop-literal.demands.further) (λ e there other.
    c.loop-literal.invariant.further J n ms e m (ap (meets_all J (object ms)) (take_all c.loop-literal.literal-index c.args.asked.now c.loop-literal-test.false) ∙ h) there other (inner_entry n ms e are l there))

pub returns-clause-rules : goal.returns-clause-rules
returns-clause-rules c = λ J ms m are h. c.loop-literal.invariant.rules J ms m are (ap (meets_all J (object ms)) (take_all c.loop-literal.literal-index c.args.asked.now c.loop-literal-test.false) ∙ h)
