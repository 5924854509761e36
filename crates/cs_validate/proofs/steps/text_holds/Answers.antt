use Rattle.std.proofs.Common.{sym}
use Rattle.cs_validate.proofs.steps.text_holds.Goals as goal

pub returns-then-asks_nothing_of_texts : goal.returns-then-asks_nothing_of_texts
returns-then-asks_nothing_of_texts c = sym (c.asks_nothing_of_texts.ensures c.if-asks_nothing_of_texts.true c.args.text.now)
