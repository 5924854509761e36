-- What is written of schemas.
use Rattle.std.specs.Prelude.{ℕ, List, Option}
use Rattle.std.specs.Io.KnownBytes.{Appends, Keeps}
use Rattle.cs_tool.specs.Runs.{line_of}
use Rattle.cs_tool.specs.Streams.{AppendsFront}
use Rattle.cs_tool.specs.declared.fault.Fault.{Fault}
use Rattle.cs_tool.specs.declared.fault.Fault.TheVariants.{WriteFailed}

-- the writer took a text that answers the call, and a newline
abbrev pub WritesSchema : (List ℕ → Type 0) → Option (List ℕ) → Option (List ℕ) → Type 0
WritesSchema answers old new = (text : List ℕ) × answers text × Appends old new (line_of text)

-- nothing was written where the call is refused, and a front of such a text and its newline where a write failed
abbrev pub LeavesSchema : (List ℕ → Type 0) → (Fault → Type 0) → Fault → Option (List ℕ) → Option (List ℕ) → Type 0
LeavesSchema answers refuses WriteFailed old new = (text : List ℕ) × answers text × AppendsFront old new (line_of text)
LeavesSchema answers refuses fault old new = refuses fault × Keeps old new
