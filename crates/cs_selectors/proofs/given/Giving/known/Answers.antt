use Rattle.std.proofs.Common.{Some, option_map, string_bytes, ap, ◌∙◌}
use Rattle.cs_selectors.proofs.Tables.{found_at}
use Rattle.cs_selectors.proofs.given.Giving.known.Goals as goal

pub returns-in-Some : goal.returns-in-Some
returns-in-Some c = ap Some c.as_str.ensures.value ∙ ap (option_map string_bytes) c.in-Some.ensures.value ∙ found_at c.args.self.now c.args.path.now

pub returns-in-None : goal.returns-in-None
returns-in-None c = ap (option_map string_bytes) c.in-None.ensures.value ∙ found_at c.args.self.now c.args.path.now
