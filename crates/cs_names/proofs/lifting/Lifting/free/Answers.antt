use Rattle.cs_names.specs.Lifted.{is_lifted}
use Rattle.cs_names.proofs.Tables.{on_ok}
use Rattle.cs_names.proofs.lifting.Lifting.free.Goals as goal

pub returns-clause-found : goal.returns-clause-found
returns-clause-found c all ts told = c.free.ensures.found all (is_lifted ts) told.names

pub returns-clause-apart : goal.returns-clause-apart
returns-clause-apart c all ts told = c.free.ensures.apart all (is_lifted ts) told.names

pub returns-clause-kept : goal.returns-clause-kept
returns-clause-kept c = on_ok c.free.result c.free.ensures.kept (λ kept all ts told.
    record { names = kept all (is_lifted ts) told.names; known = told.known; opens = told.opens; order = told.order; apart = told.apart })
