use Rattle.cs_defaults.proofs.Copies.{default_file}
use Rattle.cs_defaults.proofs.laws.unmarked_files_have_default_forms.Goals as goal

pub returns : goal.returns
returns c has f = default_file has f
