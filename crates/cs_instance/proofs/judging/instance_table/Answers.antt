use Rattle.std.proofs.Common.{subst}
use Rattle.std.proofs.lemmas.Result.{err_from_is_err_and}
use Rattle.cs_instance.proofs.Verdicts.{is_table, few_pairs, refused, one_name}
use Rattle.cs_flat.specs.Listed.{document_in}
use Rattle.cs_instance.specs.Rules.{HasManyPairs}
use Rattle.cs_instance.proofs.judging.instance_table.Goals as goal

pub returns-in_err-table-clause-refused : goal.returns-in_err-table-clause-refused
returns-in_err-table-clause-refused c =
    let E = c.args.«package».now in
    let d = c.args.flat.now in
    let found = c.in_ok-judge.ensures.found in
    let r = refused E found.0 d c.in_ok-judge.number _ _ _ found.2 c.len-count.ensures.items c.len-count.ensures.whole c.args.root.now found.1 in
    let p = err_from_is_err_and c.from_residual-in_err-table.result c.from_residual-in_err-table.ensures.1 in
    rw (p.1, p.2) (r c.in_err-table.field-0.0 c.in_err-table.ensures.refused)

pub returns-clause-found : goal.returns-clause-found
returns-clause-found c =
    let E = c.args.«package».now in
    let d = c.args.flat.now in
    let found = c.in_ok-judge.ensures.found in
    let t = c.in_ok-table.ensures in
    (found.0, found.1, is_table E found.0 d c.in_ok-judge.number _ _ _ found.2 c.len-count.ensures.items c.len-count.ensures.whole c.in_ok-table.table t.items t.rules t.count t.unique)

pub returns-clause-within : goal.returns-clause-within
returns-clause-within c = λ n names many.
    let E = c.args.«package».now in
    let d = c.args.flat.now in
    let found = c.in_ok-judge.ensures.found in
    few_pairs E found.0 d c.in_ok-judge.number _ _ _ found.2 c.len-count.ensures.items c.len-count.ensures.whole c.in_ok-table.ensures.within (subst (λ m. HasManyPairs E m (document_in d)) (one_name E c.args.root.now found.0 n found.1 names) many)
