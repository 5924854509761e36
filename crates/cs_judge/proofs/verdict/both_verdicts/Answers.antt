use Rattle.std.proofs.Common.{sym, ◌∙◌}
use Rattle.std.proofs.lemmas.Result.{err_from_is_err_and}
use Rattle.cs_judge.specs.Explained.{asked_form}
use Rattle.cs_judge.proofs.BySides.{refused_by_root, refused_by_schema, same_truth, agreed}
use Rattle.cs_judge.proofs.verdict.both_verdicts.Goals.{then-is_instance, else-is_instance}
use Rattle.cs_judge.proofs.verdict.both_verdicts.Goals as goal

pub returns-in_err-is_instance : goal.returns-in_err-is_instance
returns-in_err-is_instance c = λ profile ss r t is read.
    let p = err_from_is_err_and c.from_residual.result c.from_residual.ensures.1 in
    rw (p.1, p.2) (refused_by_root profile ss r t c.args.root_side c.args.schema_side is _ read (asked_form c.args.case.why) _ _ _ c.in_err-is_instance.ensures.verdict.refused)

pub returns-in_err-is_valid : goal.returns-in_err-is_valid
returns-in_err-is_valid c = λ profile ss r t is read.
    let p = err_from_is_err_and c.from_residual-in_err-is_valid.result c.from_residual-in_err-is_valid.ensures.1 in
    rw (p.1, p.2) (refused_by_schema profile ss r t c.args.root_side c.args.schema_side is _ read (asked_form c.args.case.why) _ _ _ c.in_err-is_valid.ensures.verdict.refused)

pub returns : goal.returns
returns c = λ profile ss r t is read.
    let root = c.in_ok-is_instance.ensures in
    let schema = c.in_ok-is_valid.ensures in
    let same = same_truth profile ss r t c.args.root_side c.args.schema_side is _ read _ _ root.verdict.found schema.verdict.found in
    let from_root = rw c.asked_of_sides.ensures.root at root.says in
    let from_schema = rw c.asked_of_sides.ensures.schema at schema.says in
    elim c.if-is_instance.branch [
      | then-is_instance w ↦ agreed profile ss r t c.args.root_side c.args.schema_side is _ read (asked_form c.args.case.why) _ _ _ _ _ _ root.verdict.found schema.verdict.found from_root from_schema (w.result-is ∙ sym same)
      | else-is_instance w ↦ agreed profile ss r t c.args.root_side c.args.schema_side is _ read (asked_form c.args.case.why) _ _ _ _ _ _ root.verdict.found schema.verdict.found from_root from_schema w.result-is
    ]
