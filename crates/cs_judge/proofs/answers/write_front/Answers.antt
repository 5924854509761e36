use Rattle.std.proofs.Common.{refl, inl, inr, ◌∙◌}
use Rattle.cs_judge.proofs.WrittenTexts.{writes_one}
use Rattle.cs_judge.proofs.answers.write_front.Goals as goal

pub returns-in-Ok : goal.returns-in-Ok
returns-in-Ok g c =
    let w = c.write_part.ensures in
    writes_one c.write_part.result _ _ _ _ (inl (c.deref.ensures.value ∙ c.in-Ok.ensures)) (record { all = w.all; front = w.front; kind = w.kind })

pub returns-in-Err : goal.returns-in-Err
returns-in-Err g c =
    let w = c.write_part-in-Err.ensures in
    writes_one c.write_part-in-Err.result _ _ _ _ (inr refl) (record { all = w.all; front = w.front; kind = w.kind })
