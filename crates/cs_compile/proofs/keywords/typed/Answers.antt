use Rattle.std.specs.Prelude.{codes, Some}
use Rattle.std.proofs.Common.{ap, ◌∙◌}
use Rattle.cs_document.specs.Document.{text}
use Rattle.cs_profile.specs.SchemaDocument.{set_slot, kind_name}
use Rattle.cs_compile.proofs.keywords.typed.Goals as goal

pub returns : goal.returns
returns c = c.set.ensures ∙ ap (set_slot (codes "type") (Some (text (kind_name c.args.kind)))) c.untyped.ensures
