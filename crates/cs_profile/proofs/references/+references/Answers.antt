use Rattle.std.proofs.Common.{sym, subst, append-nil}
use Rattle.cs_profile.specs.Numbered.{by_text, names_of_each}
use Rattle.cs_profile.proofs.Pushes.{Pushed, pushed_keywords, negated_names}
use Rattle.cs_profile.proofs.references.+references.Goals as goal

pub push_keywords-returns-in_ok-push_direct : goal.push_keywords-returns-in_ok-push_direct
push_keywords-returns-in_ok-push_direct t c =
    let es = by_text c.args.numbers.now.entries in
    let k = c.args.keywords.now in
    let one = c.push_named.new.found.items in
    let two = c.push_each.new.found.items in
    let three = c.push_each-2.new.found.items in
    let four = c.push_direct.new.found.items in
    pushed_keywords es k c.args.found.now.items one two three four c.in_ok-push_named.ensures
    (subst (λ ss. Pushed es one two (names_of_each ss)) c.deref.ensures.value c.in_ok-push_each.ensures)
    (subst (λ ss. Pushed es two three (names_of_each ss)) c.deref-2.ensures.value c.in_ok-push_each-2.ensures)
    (subst (λ o. Pushed es three four (negated_names o)) (sym c.in-Some.is) c.in_ok-push_direct.ensures)

pub push_keywords-returns-in_default : goal.push_keywords-returns-in_default
push_keywords-returns-in_default t c =
    let es = by_text c.args.numbers.now.entries in
    let k = c.args.keywords.now in
    let one = c.push_named.new.found.items in
    let two = c.push_each.new.found.items in
    let three = c.push_each-2.new.found.items in
    pushed_keywords es k c.args.found.now.items one two three three c.in_ok-push_named.ensures
    (subst (λ ss. Pushed es one two (names_of_each ss)) c.deref.ensures.value c.in_ok-push_each.ensures)
    (subst (λ ss. Pushed es two three (names_of_each ss)) c.deref-2.ensures.value c.in_ok-push_each-2.ensures)
    (subst (λ o. Pushed es three three (negated_names o)) (sym c.in_default.is) (sym (append-nil three)))
