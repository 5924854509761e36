use Rattle.cs_samples.proofs.Kept.{found-none}
use Rattle.cs_samples.proofs.asking.Found.of.Goals as goal

pub ask_each-requires : goal.ask_each-requires
ask_each-requires c = found-none c.args.asking.now _ c.new.ensures.items
