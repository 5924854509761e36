-- When a text isn't read as a document.
use Rattle.std.specs.Prelude.{◌≡◌, ℕ, ◌≤◌, List, length, None, IsSome, option_and_then, IsUtf8}
use Rattle.serde_json.specs.Read.{read}
use Rattle.cs_document.specs.declared.fault.DocFault.{DocFault}
use Rattle.cs_document.specs.declared.fault.DocFault.TheVariants.{OutOfMemory, NotJson, NotInteger}
use Rattle.cs_json.specs.Texts.{document_of}

-- `serde_json` reads a value from the bytes
abbrev pub IsJson : List ℕ → Type 0
IsJson bytes = IsUtf8 bytes × IsSome (read bytes)

-- it reads one with a number that is no signed integer of 64 bits
abbrev pub HasOtherNumber : List ℕ → Type 0
HasOtherNumber bytes = IsJson bytes × (option_and_then document_of (read bytes) ≡ None)

-- memory may run out at any time; an offset is in the text or at its end, and what is there is tested
abbrev pub IsRefusal : DocFault → List ℕ → Type 0
IsRefusal OutOfMemory text = Unit {0}
IsRefusal (NotJson offset is_cut) text = ¬ (IsJson text) × (offset ≤ length text)
IsRefusal (NotInteger offset) text = HasOtherNumber text × (offset ≤ length text)
