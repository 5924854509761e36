use Rattle.cs_plain.proofs.Texts.{texts_put}
use Rattle.cs_names.proofs.joins.is_again.Goals as goal

pub returns-clause-seen : goal.returns-clause-seen
returns-clause-seen c ss told new = texts_put c.args.seen.now c.insert.new.self c.args.text ss told c.in_ok-is_new.ensures.updates
