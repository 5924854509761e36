-- What the rows of the table of predeclared names say; for contracts of private functions alone.
use Rattle.std.specs.Prelude.{ℕ, List}
use Rattle.cs_package.specs.Expression as cue
use Rattle.cs_package.specs.View.{kind_of}
use Rattle.cs_resolve.specs.declared.kinds.Named.{Named}
use Rattle.cs_resolve.specs.declared.kinds.Named.TheVariants.{Kind, Range}
use Rattle.cs_resolve.specs.declared.kinds.Predeclared.{Predeclared}

abbrev pub said : Named → cue.Expression
said (Kind k) = cue.kind (kind_of k)
said (Range least greatest) = cue.range least greatest

abbrev pub row_of : Predeclared → List ℕ × cue.Expression
row_of r = (r.name.now, said r.named)
