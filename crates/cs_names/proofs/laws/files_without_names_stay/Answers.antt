use Rattle.cs_names.proofs.Without.{files_stand}
use Rattle.cs_names.proofs.laws.files_without_names_stay.Goals as goal

pub returns : goal.returns
returns c fs h = files_stand c.nothing_in_places_stays.ensures fs h
