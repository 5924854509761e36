-- What a list of the faults of sources tells (own rules).
use Rattle.std.specs.Prelude.{◌≡◌, ℕ, List, [], ◌∷◌}
use Rattle.cs_grammar.specs.declared.profile.Profile.{Profile}
use Rattle.cs_package.specs.Environment.{Environment}
use Rattle.cs_tool.specs.Accepted.{IsAccepted}
use Rattle.cs_tool.specs.First.{SourcesFault}
use Rattle.cs_tool.specs.declared.fault.Fault.{Fault}

-- the sources are accepted in the profile, with some environment
abbrev pub AreAccepted : Profile → List (List ℕ) → Type 0
AreAccepted p sources = (E : Environment) × IsAccepted p sources E

-- the first fault of the list is what the sources fail first in the profile
abbrev pub BeginsWithFirst : Profile → List (List ℕ) → List Fault → Type 0
BeginsWithFirst p sources [] = Unit {0}
BeginsWithFirst p sources (first ∷ further) = SourcesFault p sources first

-- the list begins with that fault; for private contracts alone
abbrev pub BeginsWith : Fault → List Fault → Type 0
BeginsWith first faults = (further : List Fault) × (faults ≡ first ∷ further)
