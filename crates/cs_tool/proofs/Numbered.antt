-- What was read of both sides holds of what is numbered.
use Rattle.std.proofs.Common.{◌≡◌, ℕ, List, sym, subst}
use Rattle.cs_grammar.specs.declared.profile.Profile.{Profile}
use Rattle.cs_document.specs.Document.{Document}
use Rattle.cs_package.specs.Environment.{Environment}
use Rattle.cs_profile.specs.declared.keyword.Vocabulary.{Vocabulary}
use Rattle.cs_tool.specs.Accepted.{DeclaresRoot}
use Rattle.cs_tool.specs.Sides.{IsSchemaOf, AreSidesOf}

pub numbered_schema : {taken : Vocabulary} {schema_text : List ℕ} {S R : Document} → IsSchemaOf taken schema_text S → R ≡ S → IsSchemaOf taken schema_text R
numbered_schema {taken = v} {schema_text = s} is same = subst (IsSchemaOf v s) (sym same) is

pub numbered_sides : {p : Profile} {sources : List (List ℕ)} {root : List ℕ} {E F : Environment} {n m : List ℕ} {S R : Document}
    → AreSidesOf p sources root E n S → DeclaresRoot p sources root F m → R ≡ S → AreSidesOf p sources root F m R
numbered_sides is declares same = record {
  declares = declares;
  schema_text = is.schema_text;
  exported = is.exported;
  translated = is.translated;
  read = numbered_schema is.read same;
}
