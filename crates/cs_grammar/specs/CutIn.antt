-- How a profile cuts a text into tokens: the wide one passes over attributes.
use Rattle.std.specs.Prelude.{ℕ, List}
use Rattle.cs_grammar.specs.declared.line.LineState.{LineState}
use Rattle.cs_grammar.specs.declared.line.LineState.TheVariants.{Plain}
use Rattle.cs_grammar.specs.declared.profile.Profile.{Profile}
use Rattle.cs_grammar.specs.Attribute.{attribute_in}
use Rattle.cs_grammar.specs.Cut.{Lexeme, CutBy}

abbrev pub CutIn : Profile → List ℕ → ℕ → LineState → List Lexeme → Type 0
CutIn p = CutBy (attribute_in p)

-- the tokens of a source in a profile
abbrev pub IsCutIn : Profile → List ℕ → List Lexeme → Type 0
IsCutIn p bs ks = CutIn p bs 0 Plain ks
