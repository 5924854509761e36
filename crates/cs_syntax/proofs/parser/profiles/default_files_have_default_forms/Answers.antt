use Rattle.cs_syntax.proofs.DefaultWords.{default_forms}
use Rattle.cs_syntax.proofs.parser.profiles.default_files_have_default_forms.Goals as goal

pub returns : goal.returns
returns c = default_forms
