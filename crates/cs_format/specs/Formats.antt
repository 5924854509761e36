-- What is asked of the formats of reasons.
use Rattle.std.specs.Prelude.{Bool, true, false}
use Rattle.cs_format.specs.declared.Form.{Form}
use Rattle.cs_format.specs.declared.Form.TheVariants.{Lines, Object}
use Rattle.cs_format.specs.declared.Format.{Format}
use Rattle.cs_format.specs.declared.Format.TheVariants.{Json, Flag, Basic}

-- whether it is an output format of JSON Schema (JSON Schema Core 2020-12, section 12.4)
abbrev pub is_standard : Format → Bool
is_standard Json = false
is_standard Flag = true
is_standard Basic = true

-- whether it tells more than the verdict: `flag` doesn't (section 12.4.1)
abbrev pub has_reasons : Format → Bool
has_reasons Json = true
has_reasons Flag = false
has_reasons Basic = true

-- the same of a form: lines are none of JSON Schema's, and have reasons
abbrev pub asks_standard : Form → Bool
asks_standard Lines = false
asks_standard (Object format) = is_standard format

abbrev pub asks_reasons : Form → Bool
asks_reasons Lines = true
asks_reasons (Object format) = has_reasons format
