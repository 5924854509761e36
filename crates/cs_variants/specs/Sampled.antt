-- Which documents are sampled.
use Rattle.std.specs.Prelude.{Bool, true, false}
use Rattle.cs_variants.specs.declared.places.Sampled.{Sampled}
use Rattle.cs_variants.specs.declared.places.Sampled.TheVariants.{Valid, Invalid}

-- whether a sample is an instance
abbrev pub is_valid : Sampled → Bool
is_valid Valid = true
is_valid Invalid = false
