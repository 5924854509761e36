use Rattle.cs_syntax.proofs.FileAnswers.{file_once}
use Rattle.cs_syntax.proofs.parser.file.one_file.Goals as goal

pub returns : goal.returns
returns c = file_once
