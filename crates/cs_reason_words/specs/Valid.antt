-- What is told of a verdict, and by the format `flag` nothing else (JSON Schema Core 2020-12, section 12.4.1).
use Rattle.std.specs.Prelude.{◌≡◌, ◌≢◌, ℕ, Bool, true, false, List, [], ◌∷◌, ◌++◌, codes, if◌then◌else◌}
use Rattle.cs_format.specs.declared.Form.{Form}
use Rattle.cs_format.specs.declared.Form.TheVariants.{Lines, Object}
use Rattle.cs_format.specs.Formats.{has_reasons}

-- an object that says it, and a newline
abbrev pub flag_text : Bool → List ℕ
flag_text true = codes "{\"valid\":true}\n"
flag_text false = codes "{\"valid\":false}\n"

-- nothing for people
abbrev pub valid_text : Form → List ℕ
valid_text Lines = []
valid_text (Object format) = flag_text true

-- an object that says first that a document is invalid, with further members, and a newline
abbrev pub invalid_object : List ℕ → List ℕ
invalid_object members = codes "{\"valid\":false" ++ members ++ codes "}\n"

-- what is told of reasons: to people these alone
abbrev pub invalid_text : Form → List ℕ → List ℕ
invalid_text Lines reasons = reasons
invalid_text (Object format) reasons = if has_reasons format then invalid_object reasons else flag_text false

-- what is told of a verdict, and of the reasons where a document is invalid
abbrev pub report_text : Form → Bool → List ℕ → List ℕ
report_text form true reasons = valid_text form
report_text form false reasons = invalid_text form reasons

-- its last line isn't empty, and a newline ends it
pub record EndsInLine (text : List ℕ) : Type 0 where
  pub front : List ℕ
  pub last : ℕ
  pub full : last ≢ 10
  pub ends : text ≡ front ++ last ∷ codes "\n"

-- what is told of the reasons of an invalid document is a line for people, or more
abbrev pub HasLines : Bool → Form → List ℕ → Type 0
HasLines true form reasons = Unit {0}
HasLines false Lines reasons = EndsInLine reasons
HasLines false (Object format) reasons = Unit {0}

-- the text tells that verdict, with some reasons
abbrev pub Says : Form → Bool → List ℕ → Type 0
Says form truth text = (reasons : List ℕ) × (text ≡ report_text form truth reasons) × HasLines truth form reasons

-- what was added to a text does
abbrev pub Reports : Form → Bool → List ℕ → List ℕ → Type 0
Reports form truth old new = (text : List ℕ) × (new ≡ old ++ text) × Says form truth text
