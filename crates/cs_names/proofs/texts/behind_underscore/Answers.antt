use Rattle.std.proofs.Common.{Some, None, arith}
use Rattle.std.proofs.lemmas.Str.Pattern.{strip_prefix_char}
use Rattle.cs_names.proofs.Spelled.{stripped, unstripped}
use Rattle.cs_names.proofs.texts.behind_underscore.Goals as goal

pub returns-in-Some : goal.returns-in-Some
returns-in-Some c = stripped 95 c.args.name.now c.in-Some.behind.now (strip_prefix_char 95 c.args.name.now (Some c.in-Some.behind) c.in-Some.ensures.cases (omega arith))

pub returns-in-None : goal.returns-in-None
returns-in-None c = unstripped 95 c.args.name.now (strip_prefix_char 95 c.args.name.now None c.in-None.ensures.cases (omega arith))
