use Rattle.cs_selectors.proofs.Without.{written_have_none}
use Rattle.cs_selectors.proofs.laws.written_files_have_no_selectors.Goals as goal

pub returns : goal.returns
returns c fs h =
    written_have_none fs h
