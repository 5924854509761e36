use Rattle.std.proofs.Common.{Result, Ok, Err, OnOk}
use Rattle.cs_resolve.proofs.FoundBases.{hold_bases}
use Rattle.cs_resolve.proofs.refinement.add_bases.Goals as goal

-- what follows from two clauses of a call that gave a value
on_both : {T E P Q R : Type 0} → (r : Result T E) → OnOk r P → OnOk r Q → (P → Q → R) → OnOk r R
on_both (Ok a) p q f = f p q
on_both (Err e) p q f = tt

pub returns : goal.returns
returns c =
    on_both c.find_refinements.result c.find_refinements.ensures.grown c.find_refinements.ensures.sound (λ grown sound ds held none.
    let classified = c.in_ok-classify_bodies.ensures ds held none in
    let found = sound ds held classified.1 classified.0 in
    hold_bases c.args.bodies.now ds held c.classify_bodies.new.refiners c.classify_bodies.new.bases c.find_refinements.new.bases classified.1 grown found.0 found.1)
