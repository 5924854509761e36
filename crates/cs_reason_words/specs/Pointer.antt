-- The place that a step into a document leads to, as a JSON pointer (RFC 6901, section 3).
use Rattle.std.specs.Prelude.{ℕ, List}
use Rattle.cs_place.specs.declared.values.Step.{Step}
use Rattle.cs_place.specs.declared.values.Step.TheVariants.{Key, Element}
use Rattle.cs_profile.specs.Places.{at_key, at_index}

-- the place a step further
abbrev pub at_step : List ℕ → Step → List ℕ
at_step place (Key k) = at_key place k.now
at_step place (Element i) = at_index place i
