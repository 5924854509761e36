use Rattle.std.proofs.Common.{Vec, Global, sym, subst}
use Rattle.cs_instance.specs.Placing.{FieldsWait}
use Rattle.cs_instance.specs.declared.rules.Field.{Field}
use Rattle.cs_instance.proofs.Ready.{struct_waits}
use Rattle.cs_instance.proofs.numbering.expressions.put_struct.Goals as goal

pub returns : goal.returns
returns c =
    let old = c.args.numberer.now in
    let mid = c.wait_fields.new.numberer in
    let parts = c.args.parts.now in
    let wait = subst (λ (v : Vec Field Global). FieldsWait parts old mid v.items) (sym c.in_ok-fields.ensures) c.in_ok-wait_fields.ensures in
    struct_waits c.put.result old mid c.put.new.self parts c.in_ok-fields.fields c.args.opened wait c.put.ensures.number c.put.ensures.pending
