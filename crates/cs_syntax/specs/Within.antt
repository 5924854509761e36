-- Reading a file within the limits.
use Rattle.std.specs.Prelude.{Bool, true, false, nat_lt, nat_le, Result, Ok, Err}
use Rattle.cs_grammar.specs.declared.fault.SyntaxFault.{SyntaxFault}
use Rattle.cs_grammar.specs.declared.fault.SyntaxFault.TheVariants.{TooHigh}
use Rattle.cs_grammar.specs.Words.{Words}
use Rattle.cs_grammar.specs.Tree.{FileTree}
use Rattle.cs_grammar.specs.Limits.{most_height}
use Rattle.cs_grammar.specs.Height.{file_height}
use Rattle.cs_syntax.specs.Nesting.{nesting, most_nested}
use Rattle.cs_syntax.specs.Reading.{◌>>=◌}
use Rattle.cs_syntax.specs.FileReading.{file_at}

abbrev pub if_low : Bool → FileTree → Result FileTree SyntaxFault
if_low true f = Ok f
if_low false f = Err TooHigh

abbrev pub if_deep : Bool → Words → Result FileTree SyntaxFault
if_deep true ts = Err TooHigh
if_deep false ts = do
  f ← file_at ts
  if_low (nat_le (file_height f) most_height) f

-- words that nest no deeper than 28, and then a file that has no body higher than 28
unfoldable pub file_within : Words → Result FileTree SyntaxFault
file_within ts = if_deep (nat_lt most_nested (nesting ts)) ts
