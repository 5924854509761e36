-- What declarations and fields are one after another, in the code and in the definitions.
use Rattle.std.proofs.Common.{◌≡◌, Bool, List, ◌∷◌, ◌++◌, map, refl, ap}
use Rattle.cs_grammar.specs.View.{SeenDeclaration, field_seen, embedding_seen, conditional_seen, expr_view, fields_view, declaration_view, declarations_view, declarations_of, definition_view}
use Rattle.cs_grammar.specs.declared.ast.Declaration.{Declaration}
use Rattle.cs_grammar.specs.declared.ast.Field.{Field}
use Rattle.cs_grammar.specs.declared.ast.File.{File}
use Rattle.cs_grammar.proofs.Views.{view-value}
use Rattle.cs_plain.specs.Bodies.{Body, body_of}
use Rattle.cs_plain.specs.Checks.{references_seen}
use Rattle.cs_plain.specs.References.{references, references_fields, references_declarations}

-- of a file
abbrev pub file_bodies : File → List Body
file_bodies f = map body_of (map definition_view f.definitions.items)

-- ---- references

pub references_field_parts : (all : Bool) (f : Field) (fs : List Field)
    → references_fields all (fields_view (f ∷ fs)) ≡ references all (expr_view f.value) ++ references_fields all (fields_view fs)
references_field_parts all f fs = ap (λ e. references all e ++ references_fields all (fields_view fs)) (view-value f)

references_seen_parts : (all : Bool) (d : SeenDeclaration) (ds : List SeenDeclaration)
    → references_declarations all (declarations_of (d ∷ ds)) ≡ references_seen all d ++ references_declarations all (declarations_of ds)
references_seen_parts all (field_seen f) ds = refl
references_seen_parts all (embedding_seen o e) ds = refl
references_seen_parts all (conditional_seen o cs e) ds = refl

pub references_parts : (all : Bool) (d : Declaration) (ds : List Declaration)
    → references_declarations all (declarations_view (d ∷ ds)) ≡ references_seen all (declaration_view d) ++ references_declarations all (declarations_view ds)
references_parts all d ds = references_seen_parts all (declaration_view d) (map declaration_view ds)
