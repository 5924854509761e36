use Rattle.std.proofs.Common.{◌≡◌, true, sym, ap, ◌∙◌, subst}
use Rattle.cs_question.specs.Asked.{meets_all}
use Rattle.cs_question.specs.Cases.{IsCovered}
use Rattle.cs_question.proofs.Keys.{key_kept, key_there, key_found}
use Rattle.cs_question.proofs.cases.put.Goals as goal

pub returns-then-are_same-clause-there : goal.returns-then-are_same-clause-there
returns-then-are_same-clause-there c = λ J x h.
    key_found _ (λ k. meets_all J x k.1.items) c.args.cases.now.keys c.in-Some.same.now (sym c.in-Some.ensures.key)
    (ap (meets_all J x) (sym c.deref-in-Some.ensures.value ∙ c.are_same.ensures c.if-are_same.true ∙ c.deref-in-Some-2.ensures.value) ∙ h)

pub returns-clause-kept : goal.returns-clause-kept
returns-clause-kept c = λ J x h. subst (IsCovered J x) (sym c.in_ok-insert.ensures.keys) (key_kept _ _ c.args.cases.now.keys _ h)

pub returns-clause-there : goal.returns-clause-there
returns-clause-there c = λ J x h. subst (IsCovered J x) (sym c.in_ok-insert.ensures.keys) (key_there _ _ c.args.cases.now.keys _ (sym c.in_default.ensures.variant) h)
