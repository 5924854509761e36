use Rattle.std.proofs.Common.{Result, Ok, Err, OnOk, refl}
use Rattle.cs_tool.proofs.objects.write_fault_json.Goals as goal

on_ok : {T E P Q : Type 0} (r : Result T E) → (P → Q) → OnOk r P → OnOk r Q
on_ok (Ok x) f h = f h
on_ok (Err e) f h = tt

pub returns-clause-all : goal.returns-clause-all
returns-clause-all g c = on_ok c.write_object.result (λ w. (_, (_, refl), w)) c.write_object.ensures.all
