use Rattle.cs_plain.proofs.InPlaces.{written_in_places, selecting_in_places}
use Rattle.cs_plain.proofs.laws.what_is_in_places_can_be_written.Goals as goal

pub returns-clause-written : goal.returns-clause-written
returns-clause-written c ss fs h = written_in_places ss fs h

pub returns-clause-selecting : goal.returns-clause-selecting
returns-clause-selecting c ss fs h = selecting_in_places ss fs h
