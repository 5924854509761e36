use Rattle.std.proofs.lemmas.Result.{err_from_is_err_and}
use Rattle.cs_profile.specs.SchemaDocument.{document_of}
use Rattle.cs_validate.proofs.Verdicts.{is_table, few_pairs, refused}
use Rattle.cs_validate.proofs.judging.valid_table.Goals as goal

pub returns-in_err-table-clause-refused : goal.returns-in_err-table-clause-refused
returns-in_err-table-clause-refused c =
    let r = refused (document_of c.args.schema.now) c.args.flat.now c.in_ok-judge.number _ _ _ c.in_ok-judge.ensures.found c.len-count.ensures.items c.len-count.ensures.whole in
    let p = err_from_is_err_and c.from_residual-in_err-table.result c.from_residual-in_err-table.ensures.1 in
    rw (p.1, p.2) (r c.in_err-table.field-0.0 c.in_err-table.ensures.refused)

pub returns-clause-found : goal.returns-clause-found
returns-clause-found c =
    let t = c.in_ok-table.ensures in
    is_table (document_of c.args.schema.now) c.args.flat.now c.in_ok-judge.number _ _ _ c.in_ok-judge.ensures.found c.len-count.ensures.items c.len-count.ensures.whole c.in_ok-table.table t.items t.rules t.count t.unique

pub returns-clause-within : goal.returns-clause-within
returns-clause-within c = few_pairs (document_of c.args.schema.now) c.args.flat.now c.in_ok-judge.number _ _ _ c.in_ok-judge.ensures.found c.len-count.ensures.items c.len-count.ensures.whole c.in_ok-table.ensures.within
