use Rattle.std.proofs.Common.{None, arith}
use Rattle.std.proofs.lemmas.Str.Pattern.{strip_prefix_char}
use Rattle.cs_grammar.proofs.BareNames.{bare_already}
use Rattle.cs_syntax.proofs.parser.name.bare_name.Goals as goal

pub returns-in-None : goal.returns-in-None
returns-in-None c = bare_already c.args.text.now (strip_prefix_char 35 c.args.text.now None c.in-None.ensures.cases (omega arith))
