use Rattle.cs_plain.proofs.Stays.{nothing_in_places}
use Rattle.cs_plain.proofs.laws.nothing_in_places_stays.Goals as goal

pub returns : goal.returns
returns c fs = nothing_in_places fs
