-- The first of the faults counts, whatever comes behind it.
use Rattle.std.proofs.Common.{ℕ, List, [], ◌∷◌, refl}
use Rattle.cs_grammar.specs.declared.profile.Profile.{Profile}
use Rattle.cs_tool.specs.First.{SourcesFault}
use Rattle.cs_tool.specs.declared.fault.Fault.{Fault}
use Rattle.cs_tool.specs.declared.fault.Fault.TheVariants.{SourcesTooLong, TooLarge}
use Rattle.cs_check.specs.Told.{BeginsWithFirst, BeginsWith}

none : (p : Profile) (sources : List (List ℕ)) → BeginsWithFirst p sources []
none p sources = tt

two : (p : Profile) (sources : List (List ℕ)) (f g : Fault) → SourcesFault p sources f → BeginsWithFirst p sources (f ∷ g ∷ [])
two p sources f g h = h

first_of_two : (p : Profile) (sources : List (List ℕ)) (f g : Fault) → BeginsWithFirst p sources (f ∷ g ∷ []) → SourcesFault p sources f
first_of_two p sources f g h = h

too_long : BeginsWith SourcesTooLong (SourcesTooLong ∷ TooLarge 1001 ∷ [])
too_long = (TooLarge 1001 ∷ [], refl)
