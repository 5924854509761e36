use Rattle.std.proofs.Common.{sym, ◌∙◌, arith}
use Rattle.cs_syntax.proofs.LastWord.{last_wide}
use Rattle.cs_syntax.proofs.parser.file.ends_wide.Goals as goal

pub returns-then-count-gt0 : goal.returns-then-count-gt0
returns-then-count-gt0 c = c.is_wide_end.ensures ∙ sym (last_wide c.args.tokens.now _ (omega arith))
