-- The documents of literals; for private contracts and proofs alone.
use Rattle.cs_document.specs.Document.{Document, null, boolean, integer, text}
use Rattle.cs_package.specs.declared.inside.Literal.{Literal}
use Rattle.cs_package.specs.declared.inside.Literal.TheVariants as variant

-- the document that a literal is
abbrev pub literal_view : Literal → Document
literal_view variant.Null = null
literal_view (variant.Bool b) = boolean b
literal_view (variant.Int n) = integer n
literal_view (variant.Text s) = text s.now
