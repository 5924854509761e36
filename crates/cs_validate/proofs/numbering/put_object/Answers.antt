use Rattle.std.proofs.Common.{refl}
use Rattle.cs_validate.specs.Placing.{State}
use Rattle.cs_validate.specs.declared.rules.Conjunction.{Conjunction}
use Rattle.cs_validate.proofs.Joined.{object_placed}
use Rattle.cs_validate.proofs.numbering.put_object.Goals as goal

pub returns : goal.returns
returns c = λ n0 n1 n2 alls anys nots.
    let n3 = c.args.numberer.now in
    let n4 : State = record { rules = n3.rules; pending = c.wait_inside.new.pending } in
    let j : Conjunction = record {
      names = _;
      ordered = _;
      keywords = c.args.keywords;
      required = c.in_ok-required.required;
      one_of = c.in_ok-required.one_of;
      reference = c.number_of.result;
      all_of = c.args.operands.all_of;
      any_of = c.args.operands.any_of;
      negated = c.args.operands.negated;
      first = c.in_ok-first.first;
    } in
    object_placed c.put.result c.args.numbers.now n0 n1 n2 n3 n4 c.put.new.self j c.put.ensures.number c.put.ensures.pending
    alls anys nots refl c.in_ok-first.ensures.waits c.in_ok-first.ensures.first
    c.in_ok-required.ensures.names c.in_ok-required.ensures.values c.number_of.ensures
