use Rattle.cs_lexer.proofs.CutWide.{cut_wide}
use Rattle.cs_lexer.proofs.cut.wide_cuts_the_default.Goals as goal

pub returns : goal.returns
returns c bs ks cut = cut_wide cut
