use Rattle.std.proofs.Common.{[], map}
use Rattle.std.proofs.lemmas.Result.{err_from_is_err_and}
use Rattle.cs_grammar.specs.View.{file_view}
use Rattle.cs_names.specs.Lifted.{all_definitions}
use Rattle.cs_selectors.proofs.given.Giving.of.Goals as goal

pub returns-in_err-give_all-clause-found : goal.returns-in_err-give_all-clause-found
returns-in_err-give_all-clause-found c bs told =
    let all = all_definitions (map file_view c.args.files.now) in
    let p = err_from_is_err_and c.from_residual-in_err-give_all.result c.from_residual-in_err-give_all.ensures.1 in
    rw (p.1, p.2) (c.in_err-give_all.ensures.found all bs [] (c.in_ok-giving.ensures bs told))

pub returns-clause-found : goal.returns-clause-found
returns-clause-found c bs told = c.in_ok-give_all.ensures.found (all_definitions (map file_view c.args.files.now)) bs [] (c.in_ok-giving.ensures bs told)

pub returns-clause-given : goal.returns-clause-given
returns-clause-given c bs told = c.in_ok-give_all.ensures.given (all_definitions (map file_view c.args.files.now)) bs [] (c.in_ok-giving.ensures bs told)
