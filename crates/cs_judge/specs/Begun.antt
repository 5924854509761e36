-- What is kept of the front of a line.
use Rattle.std.specs.Prelude.{◌≡◌, ℕ, ◌<◌, ◌≤◌, List, length}
use Rattle.cs_judge.specs.declared.lines.BegunLine.{BegunLine}
use Rattle.cs_judge.specs.declared.lines.Kept.{Kept}
use Rattle.cs_judge.specs.declared.lines.Kept.TheVariants.{All, TooLong, OutOfMemory}
use Rattle.cs_tool.specs.Runs.{most_input_bytes}

abbrev pub IsKept : Kept → List ℕ → List ℕ → Type 0
IsKept All kept front = (kept ≡ front) × (length front ≤ most_input_bytes)
IsKept TooLong kept front = most_input_bytes < length front
IsKept OutOfMemory kept front = 0 < length front

-- the line begins with that front, of which all is kept, or why not
abbrev pub HoldsFront : BegunLine → List ℕ → Type 0
HoldsFront begun front = IsKept begun.kept begun.bytes.items front
