use Rattle.std.specs.Prelude.{codes, Some}
use Rattle.std.proofs.Common.{refl}
use Rattle.cs_document.specs.View.{doc_view}
use Rattle.cs_compile.specs.Slots.{no_slots}
use Rattle.cs_compile.proofs.Slots.{made_of}
use Rattle.cs_compile.proofs.atoms.constant.Goals as goal

pub returns : goal.returns
returns c = made_of c.object.result c.untyped.result c.set.result no_slots (codes "const") (Some (doc_view c.args.value)) _ c.untyped.ensures c.set.ensures refl c.object.ensures
