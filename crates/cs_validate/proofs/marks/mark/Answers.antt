use Rattle.std.proofs.Common.{[], sym, subst, append-nil}
use Rattle.std.proofs.lemmas.Result.{on_ok_weaker}
use Rattle.cs_rules.specs.Alike.{IsToldBy}
use Rattle.cs_validate.specs.Steps.{step}
use Rattle.cs_validate.proofs.Told.{keywords_told}
use Rattle.cs_validate.proofs.marks.mark.Goals as goal

pub returns-in-Truth-clause-more : goal.returns-in-Truth-clause-more
returns-in-Truth-clause-more c = let m = c.args.marks.now in ([], [], [], sym (append-nil m.texts), sym (append-nil m.integers), sym (append-nil m.lengths))

pub returns-in-Object-clause-told : goal.returns-in-Object-clause-told
returns-in-Object-clause-told c =
    let m = c.args.marks.now in
    let n = c.mark_keywords.new.marks in
    on_ok_weaker c.mark_keywords.result (λ adds. subst (λ r. IsToldBy (step r) n) (sym c.in-Object.is) (keywords_told c.in-Object.conjunction m n adds)) c.mark_keywords.ensures
