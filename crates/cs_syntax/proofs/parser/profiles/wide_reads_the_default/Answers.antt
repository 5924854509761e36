use Rattle.cs_syntax.proofs.UsedWords.{spelled_wide}
use Rattle.cs_syntax.proofs.parser.profiles.wide_reads_the_default.Goals as goal

pub returns : goal.returns
returns c = spelled_wide
