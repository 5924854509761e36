use Rattle.std.proofs.Common.{ap}
use Rattle.cs_profile.specs.SchemaDocument.{document_of}
use Rattle.cs_rules.specs.declared.book.Numbering.{Numbering}
use Rattle.cs_validate.proofs.Verdicts.{judge_over}
use Rattle.cs_validate.proofs.judging.valid_judge.Goals as goal

pub returns-clause-found : goal.returns-clause-found
returns-clause-found c =
    let same = c.in_ok-over.ensures.numbering in
    judge_over (document_of c.args.schema.now) c.args.flat.now _ c.in_ok-numbering.number _ _ _ _
    c.in_ok-over.ensures.flat (ap (λ (u : Numbering _ _). u.rules.items) same) (ap (λ (u : Numbering _ _). u.children.items) same) c.in_ok-numbering.ensures
