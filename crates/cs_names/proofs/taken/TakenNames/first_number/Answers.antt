use Rattle.std.proofs.Common.{sym}
use Rattle.cs_names.specs.Taken.{is_named}
use Rattle.cs_names.proofs.Free.{behind_one}
use Rattle.cs_names.proofs.taken.TakenNames.first_number.Goals as goal

pub returns-in-Some : goal.returns-in-Some
returns-in-Some c all given told = told.numbers c.args.wanted.now c.in-Some.number.now (sym c.in-Some.ensures.value)

pub returns-in-None : goal.returns-in-None
returns-in-None c all given told = behind_one (is_named all given) c.args.wanted.now
