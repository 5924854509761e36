use Rattle.std.proofs.Common.{rules}
use Rattle.cs_package.proofs.Environments.{table-insert}
use Rattle.cs_variants.proofs.variants.put_name.Goals as goal

pub returns : goal.returns
returns c = table-insert c.args.names.now.entries c.insert.new.self.entries c.loop.fresh c.push_str-2.new.self c.requires.table (search rules) c.loop.invariant c.in_ok-insert.ensures.entries c.in_ok-insert.ensures.unique
