use Rattle.cs_lexer.proofs.CutUnique.{cut_once, stuck_once, cut_not_stuck}
use Rattle.cs_grammar.specs.declared.line.LineState.TheVariants.{Plain}
use Rattle.cs_lexer.proofs.CutExists.{cut_or_stuck}
use Rattle.cs_lexer.proofs.cut.one_cut.Goals as goal

pub returns-clause-once : goal.returns-clause-once
returns-clause-once c profile bs ks js p q = cut_once profile p q

pub returns-clause-stuck_once : goal.returns-clause-stuck_once
returns-clause-stuck_once c profile bs f g p q = stuck_once p q

pub returns-clause-apart : goal.returns-clause-apart
returns-clause-apart c profile bs ks f p q = cut_not_stuck p q

pub returns-clause-always : goal.returns-clause-always
returns-clause-always c profile bs = cut_or_stuck profile bs 0 Plain
