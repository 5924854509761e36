-- How high a declaration is as the code sees it.
use Rattle.std.specs.Prelude.{ℕ, ◌+◌, length}
use Rattle.cs_grammar.specs.Height.{height}
use Rattle.cs_grammar.specs.View.{SeenDeclaration, field_seen, embedding_seen, conditional_seen}

-- as high as its value, and a level more for each condition
abbrev pub declaration_height : SeenDeclaration → ℕ
declaration_height (field_seen f) = height f.value
declaration_height (embedding_seen o e) = height e
declaration_height (conditional_seen o cs e) = length cs + height e
