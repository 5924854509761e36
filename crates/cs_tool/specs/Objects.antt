-- The object of JSON that tells a refusal.
use Rattle.std.specs.Prelude.{◌≡◌, ℕ, List, ◌++◌, codes, decimal}
use Rattle.cs_tool.specs.Refusals.{number_of}
use Rattle.cs_tool.specs.declared.fault.Fault.{Fault}

-- the member that tells the number of a refusal
abbrev pub error_member : Fault → List ℕ
error_member fault = codes "\"error\":" ++ decimal (number_of fault)

-- the object that tells a refusal begins with its number
abbrev pub IsFaultObject : Fault → List ℕ → Type 0
IsFaultObject fault object = (details : List ℕ) × (object ≡ codes "{" ++ error_member fault ++ details ++ codes "}\n")
