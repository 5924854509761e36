use Rattle.cs_resolve.specs.declared.refinement.Bases.{Bases}
use Rattle.cs_resolve.proofs.BaseTables.{sound_none}
use Rattle.cs_resolve.proofs.refinement.bases_among.Goals as goal

pub returns : goal.returns
returns c ds held =
    let empty : Bases = record { sets = c.new.result; numbers = c.new-2.result } in
    c.in_ok-add_bases.ensures ds held (sound_none ds empty c.new-2.ensures.empty)
