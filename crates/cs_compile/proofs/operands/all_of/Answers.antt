use Rattle.std.specs.Prelude.{codes}
use Rattle.cs_profile.specs.SchemaDocument.{schemas_view, unless_no_list}
use Rattle.cs_compile.specs.Slots.{no_slots}
use Rattle.cs_compile.proofs.Slots.{all_of-slots, made_of}
use Rattle.cs_compile.proofs.operands.all_of.Goals as goal

pub returns : goal.returns
returns c =
    let ds = schemas_view c.args.schemas.items in
    made_of c.object.result c.untyped.result c.set.result no_slots (codes "allOf") (unless_no_list ds) _ c.untyped.ensures c.set.ensures (all_of-slots ds) c.object.ensures
