-- Which source is what sources stand for in a profile: it spells, as one file, the files that theirs stand for, apart from offsets.
use Rattle.std.specs.Prelude.{ℕ, List}
use Rattle.cs_grammar.specs.declared.profile.Profile.{Profile}
use Rattle.cs_grammar.specs.declared.profile.Profile.TheVariants as profiles
use Rattle.cs_package.specs.Environment.{Environment}
use Rattle.cs_print.specs.Printed.{IsReadAs}
use Rattle.cs_tool.specs.Accepted.{IsAccepted}

-- the sources are accepted in the profile, and the text is read as one file with the definitions that they stand for
pub record IsMeantIn (p : Profile) (sources : List (List ℕ)) (source : List ℕ) : Type 0 where
  pub environment : Environment
  pub accepted : IsAccepted p sources environment
  pub read : IsReadAs source accepted.meant

-- in the default profile the text is read as the files of the sources
pub record IsMeant (sources : List (List ℕ)) (source : List ℕ) : Type 0 where
  pub environment : Environment
  pub accepted : IsAccepted profiles.Default sources environment
  pub read : IsReadAs source accepted.files
