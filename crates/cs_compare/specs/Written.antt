-- What is written of comparisons, and of the texts of documents.
use Rattle.std.specs.Prelude.{ℕ, List, [], ◌∷◌, ◌++◌, flat_map, Bool, true, false, Option, Vec, codes}
use Rattle.std.specs.declared.alloc.Global.{Global}
use Rattle.std.specs.Io.KnownBytes.{Keeps}
use Rattle.cs_tool.specs.Runs.{line_of}
use Rattle.cs_tool.specs.Streams.{AppendsFront}
use Rattle.cs_tool.specs.declared.fault.Fault.{Fault}
use Rattle.cs_tool.specs.declared.fault.Fault.TheVariants.{OutOfMemory, WriteFailed}
use Rattle.cs_compare.specs.declared.comparison.Comparison.{Comparison}
use Rattle.cs_compare.specs.declared.comparison.Comparison.TheVariants.{Compatible, Breaking}
use Rattle.cs_compare.specs.declared.written.Told.{Told}

-- ---- comparisons

abbrev pub is_compatible : Comparison → Bool
is_compatible Compatible = true
is_compatible (Breaking t) = false

-- in lines: the word, and below `breaking` the text of the document and the reasons
abbrev pub lines_of : Comparison → List ℕ → List ℕ
lines_of Compatible reasons = codes "compatible\n"
lines_of (Breaking t) reasons = codes "breaking\n" ++ t.items ++ codes "\n" ++ reasons

-- an object: the truth value, and where it is false the document and the reasons
abbrev pub object_of : Comparison → List ℕ → List ℕ
object_of Compatible reasons = codes "{\"compatible\":true}"
object_of (Breaking t) reasons = codes "{\"compatible\":false,\"document\":" ++ t.items ++ codes ",\"report\":" ++ reasons ++ codes "}"

-- as an object, or in lines
abbrev pub answer_of : Bool → Told → List ℕ
answer_of true t = object_of t.comparison t.reasons.items
answer_of false t = lines_of t.comparison t.reasons.items

-- what is written of one direction
abbrev pub comparison_text : Bool → Told → List ℕ
comparison_text true t = line_of (answer_of true t)
comparison_text false t = answer_of false t

-- what is written of both directions
abbrev pub both_text : Bool → Told → Told → List ℕ
both_text true t u = codes "{\"backward\":" ++ answer_of true t ++ codes ",\"forward\":" ++ answer_of true u ++ codes "}\n"
both_text false t u = codes "backward: " ++ answer_of false t ++ codes "forward: " ++ answer_of false u

-- ---- texts

-- a line for each text
abbrev pub lines_text : List (Vec ℕ Global) → List ℕ
lines_text ts = flat_map (λ t. line_of t.items) ts

-- there is a text
abbrev pub has_some : List (Vec ℕ Global) → Bool
has_some [] = false
has_some (t ∷ ts) = true

-- ---- refusals

-- nothing was written where memory ran out, and a front of the text where a write failed; nothing else comes
abbrev pub LeavesText : List ℕ → Fault → Option (List ℕ) → Option (List ℕ) → Type 0
LeavesText text OutOfMemory old new = Keeps old new
LeavesText text WriteFailed old new = AppendsFront old new text
LeavesText text _ old new = ⊥
