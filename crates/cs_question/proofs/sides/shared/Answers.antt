use Rattle.std.proofs.Common.{◌+◌, [], ◌∷◌, length, get_or, ap, ◌∙◌}
use Rattle.std.proofs.lemmas.List.{length-append}
use Rattle.cs_question.proofs.Said.{shared_more, shared_all}
use Rattle.cs_question.proofs.sides.shared.Goals as goal

pub loop-rule-preserved : goal.loop-rule-preserved
loop-rule-preserved c =
    let l = c.loop-rule in
    let r = c.in_ok-first_of.field-0 in
    let put = c.in_ok-push.ensures.items in
    record {
      long = ap length put ∙ length-append l.all.items (r ∷ []) ∙ ap (λ n. n + 1) l.invariant.long;
      same = λ J side i x below.
          ap (λ xs. J (get_or xs i 0) x) put ∙ shared_more J l.all.items c.args.inner.now l.rule-index r x l.invariant.long (λ k b. l.invariant.same J side k x b) (c.in_ok-first_of.ensures J side x) i below;
    }

pub returns : goal.returns
returns c = λ J side i x.
    let l = c.loop-rule in
    shared_all J l.all.items c.args.inner.now l.rule-index x l.invariant.long c.loop-rule-test.false (λ k b. l.invariant.same J side k x b) i
