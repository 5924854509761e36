-- The files that `parse_file_in` answers.
use Rattle.std.specs.Prelude.{ℕ, List}
use Rattle.cs_grammar.specs.declared.profile.Profile.{Profile}
use Rattle.cs_grammar.specs.Tree.{FileTree}
use Rattle.cs_grammar.specs.CutIn.{IsCutIn}
use Rattle.cs_grammar.specs.Taken.{taken}
use Rattle.cs_syntax.specs.Answer.{IsSpelledWith}

-- as the profile cuts a source, and takes its tokens
abbrev pub IsSpelledIn : Profile → List ℕ → FileTree → Type 0
IsSpelledIn p = IsSpelledWith (IsCutIn p) (taken p)
