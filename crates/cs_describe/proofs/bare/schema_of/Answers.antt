use Rattle.std.proofs.Common.{◌≡◌, ◌↔◌, Bool, false, List, [], ◌∷◌, length, IsTrue, refl, ◌∙◌}
use Rattle.cs_document.specs.Document.{object}
use Rattle.cs_document.specs.View.{object_view}
use Rattle.cs_document.proofs.Entries.{Entry}
use Rattle.cs_document.proofs.Views.{view-Object}
use Rattle.cs_describe.specs.Plain.{as_schema}
use Rattle.cs_describe.proofs.bare.schema_of.Goals as goal

as_object : (b : Bool) (es : List Entry) → (IsTrue b ↔ (length es ≡ 0)) → b ≡ false → object (object_view es) ≡ as_schema (object_view es)
as_object b [] h e = let t : IsTrue b = h.1 refl in cc
as_object b (x ∷ es) h e = refl

pub returns-else-is_empty : goal.returns-else-is_empty
returns-else-is_empty c = view-Object c.args.members ∙ as_object c.is_empty.result c.args.members.entries c.is_empty.ensures c.if-is_empty.false
