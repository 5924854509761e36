use Rattle.std.proofs.Common.{sym, ◌∙◌}
use Rattle.std.proofs.Math.Bool.{and_assoc}
use Rattle.cs_validate.specs.Asked.{asks_any, asks_here, asks_kind}
use Rattle.cs_validate.proofs.Asked.{claims_hold}
use Rattle.cs_validate.proofs.ByKind.{and_decides, as_equal, any_decides}
use Rattle.cs_validate.proofs.by_kind.by_keywords.Goals as goal

pub returns : goal.returns
returns c = λ d x is here inside h b e.
    let k = c.args.conjunction.now in
    let any = as_equal _ _ _ (c.by_any.ensures x) (any_decides d x is k) in
    claims_hold here inside d k x ∙ sym (and_assoc (asks_any k d x) (asks_here here k) (asks_kind inside k x))
    ∙ and_decides _ _ _ _ _ (c.and-2.ensures x) (and_decides _ _ _ _ _ (c.and.ensures x) any (c.by_here.ensures x here h)) (c.by_absence.ensures x inside) b e
