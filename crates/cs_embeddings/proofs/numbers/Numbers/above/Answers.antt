use Rattle.std.proofs.Common.{Some, refl}
use Rattle.cs_embeddings.specs.declared.numbers.Numbers.{Numbers}
use Rattle.cs_embeddings.proofs.LabelSteps.{above_numbers, above_keeps}
use Rattle.cs_embeddings.proofs.numbers.Numbers.above.Goals as goal

pub returns : goal.returns
returns c alone are =
    let m = c.args.numbers.now in
    let n : Numbers = record { below = Some (record { ref_ptr = _; now = m.own }); own = c.new.result; count = m.count } in
    (above_numbers m n alone (λ s. refl) c.new.ensures.empty refl are, above_keeps m n alone (λ s. refl) c.new.ensures.empty refl)
