use Rattle.std.proofs.Common.{sym}
use Rattle.cs_profile.proofs.Names.{name_of-named}
use Rattle.cs_schema.proofs.read.keyword_at.Goals as goal

pub returns-then-stands-clause-name : goal.returns-then-stands-clause-name
returns-then-stands-clause-name c = name_of-named c.args.key.now c.in_ok-keyword.keyword (sym c.in_ok-keyword.ensures)
