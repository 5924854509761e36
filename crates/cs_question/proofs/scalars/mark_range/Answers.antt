use Rattle.std.proofs.Common.{◌≡◌, [], w64, to_z, of_z, rules, sym, subst, refl}
use Rattle.cs_document.specs.Opened.{an_integer}
use Rattle.cs_instance.specs.Constraint.{is_within}
use Rattle.cs_instance.proofs.AlikeScalars.{least_told, range_told}
use Rattle.cs_question.proofs.Compared.{integers_alone}
use Rattle.cs_question.proofs.scalars.mark_range.Goals as goal

pub returns-in_ok-push-in-Some-clause-told : goal.returns-in_ok-push-in-Some-clause-told
returns-in_ok-push-in-Some-clause-told c = λ z w s.
    let least : to_z w64 (of_z w64 c.args.least) ≡ c.args.least = search rules in
    let greatest : to_z w64 (of_z w64 c.in-Some.limit) ≡ c.in-Some.limit = search rules in
    subst (λ g. is_within c.args.least g z ≡ is_within c.args.least g w) (sym c.in-Some.is)
    (range_told c.args.least c.in-Some.limit (integers_alone c.args.marks.now.items) (integers_alone c.push.new.self.items) (integers_alone c.push-in-Some.new.self.items) (rw least at c.in_ok-push.ensures.items, refl, refl) (rw greatest at c.in_ok-push-in-Some.ensures.items, refl, refl) (an_integer z) (an_integer w) s)

pub returns-in-None-clause-told : goal.returns-in-None-clause-told
returns-in-None-clause-told c = λ z w s.
    let least : to_z w64 (of_z w64 c.args.least) ≡ c.args.least = search rules in
    subst (λ g. is_within c.args.least g z ≡ is_within c.args.least g w) (sym c.in-None.is)
    (least_told c.args.least (integers_alone c.args.marks.now.items) (integers_alone c.push.new.self.items) (rw least at c.in_ok-push.ensures.items, refl, refl) (an_integer z) (an_integer w) s)
