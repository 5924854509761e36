use Rattle.std.proofs.Common.{◌≡◌, Bool, true, false, not, refl, sym, ◌∙◌}
use Rattle.cs_samples.proofs.Kept.{found-more, found-still, still-in, stays-in}
use Rattle.cs_samples.proofs.asking.Found.take.Goals as goal

not_false : (b : Bool) → not b ≡ true → b ≡ false
not_false true e = cc
not_false false e = refl

pub returns-in_ok-push : goal.returns-in_ok-push
returns-in_ok-push c =
    let new = not_false _ (sym c.in_ok-insert.ensures.added ∙ c.if-branch.true) in
    found-more c.args.asking.now c.args.self.now _ c.in_ok-copy.copy _ c.in_ok-push.ensures.items (c.in_ok-copy.ensures.items ∙ c.deref.ensures.value) new c.in_ok-insert.ensures.updates (rw c.in-Ok-Some.field-0-is at (rw c.in-Ok-Some.is at c.requires.answer)) c.requires.found

pub returns-in_err-push : goal.returns-in_err-push
returns-in_err-push c = found-still c.args.asking.now c.args.self.now _ c.in_err-push.ensures.items (λ q. still-in _ _ c.in_ok-copy.copy q c.in_ok-insert.ensures.updates) c.requires.found

pub returns-in_err-insert : goal.returns-in_err-insert
returns-in_err-insert c = found-still c.args.asking.now c.args.self.now _ refl (λ q. stays-in _ _ q c.in_err-insert.ensures.err) c.requires.found
