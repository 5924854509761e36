-- The table of refusals: the number of each, and what it carries.
use Rattle.std.specs.Prelude.{ℕ, if◌then◌else◌, ◌==◌, ◌||◌, List, ◌++◌, ◌∷◌, [], Option, Some, None, codes, decimal}
use Rattle.cs_tool.specs.declared.fault.Fault.{Fault}
use Rattle.cs_tool.specs.declared.fault.Fault.TheVariants.{SourcesTooLong, NotUtf8, NoToken, Syntax, LeftOut, IntegerRange, TooHigh, PackageName, UnknownName, FieldReference, NotOpened, Cycle, UnknownRoot, TooLarge, OutOfMemory, ChainTooLong, TooManyCases, SchemaNotJson, Keyword, Shape, Reference, Loop, NotJson, NotInteger, TooManyPairs, InputTooLong, ReadFailed, WriteFailed}

abbrev pub number_of : Fault → ℕ
number_of SourcesTooLong = 1
number_of (NotUtf8 file) = 2
number_of (NoToken file offset) = 3
number_of (Syntax file offset) = 4
number_of (LeftOut file offset) = 5
number_of (IntegerRange file offset) = 6
number_of (TooHigh file) = 7
number_of (PackageName file) = 8
number_of (UnknownName file offset) = 9
number_of (FieldReference file offset) = 10
number_of (NotOpened file offset) = 11
number_of (Cycle names) = 12
number_of UnknownRoot = 13
number_of (TooLarge definitions) = 14
number_of OutOfMemory = 15
number_of (ChainTooLong names) = 16
number_of TooManyCases = 17
number_of (SchemaNotJson offset is_cut) = 20
number_of (Keyword place name) = 21
number_of (Shape place name) = 22
number_of (Reference place name) = 23
number_of (Loop names) = 24
number_of (NotJson offset is_cut) = 25
number_of (NotInteger offset in_schema) = 26
number_of (TooManyPairs items rules by_schema) = 27
number_of InputTooLong = 28
number_of ReadFailed = 30
number_of WriteFailed = 31

-- the byte of the file at which the refused text stands
abbrev pub offset_of : Fault → Option ℕ
offset_of (NoToken file offset) = Some offset
offset_of (Syntax file offset) = Some offset
offset_of (LeftOut file offset) = Some offset
offset_of (IntegerRange file offset) = Some offset
offset_of (UnknownName file offset) = Some offset
offset_of (FieldReference file offset) = Some offset
offset_of (NotOpened file offset) = Some offset
offset_of SourcesTooLong = None
offset_of (NotUtf8 file) = None
offset_of (TooHigh file) = None
offset_of (PackageName file) = None
offset_of (Cycle names) = None
offset_of UnknownRoot = None
offset_of (TooLarge definitions) = None
offset_of OutOfMemory = None
offset_of (ChainTooLong names) = None
offset_of TooManyCases = None
offset_of (SchemaNotJson offset is_cut) = None
offset_of (Keyword place name) = None
offset_of (Shape place name) = None
offset_of (Reference place name) = None
offset_of (Loop names) = None
offset_of (NotJson offset is_cut) = None
offset_of (NotInteger offset in_schema) = None
offset_of (TooManyPairs items rules by_schema) = None
offset_of InputTooLong = None
offset_of ReadFailed = None
offset_of WriteFailed = None

-- the place of the refused file in the list of sources
abbrev pub file_of : Fault → Option ℕ
file_of (NotUtf8 file) = Some file
file_of (NoToken file offset) = Some file
file_of (Syntax file offset) = Some file
file_of (LeftOut file offset) = Some file
file_of (IntegerRange file offset) = Some file
file_of (TooHigh file) = Some file
file_of (PackageName file) = Some file
file_of (UnknownName file offset) = Some file
file_of (FieldReference file offset) = Some file
file_of (NotOpened file offset) = Some file
file_of SourcesTooLong = None
file_of (Cycle names) = None
file_of UnknownRoot = None
file_of (TooLarge definitions) = None
file_of OutOfMemory = None
file_of (ChainTooLong names) = None
file_of TooManyCases = None
file_of (SchemaNotJson offset is_cut) = None
file_of (Keyword place name) = None
file_of (Shape place name) = None
file_of (Reference place name) = None
file_of (Loop names) = None
file_of (NotJson offset is_cut) = None
file_of (NotInteger offset in_schema) = None
file_of (TooManyPairs items rules by_schema) = None
file_of InputTooLong = None
file_of ReadFailed = None
file_of WriteFailed = None

-- the exit status for a refusal of that number
abbrev pub status_of : ℕ → ℕ
status_of n = if n == 15 then 5 else (if n == 30 || n == 31 then 4 else 2)

abbrev pub at_text : Option ℕ → List ℕ
at_text None = []
at_text (Some offset) = codes " at " ++ decimal offset

-- the line that reports a refusal
abbrev pub fault_line : Fault → List ℕ
fault_line fault = codes "error " ++ decimal (number_of fault) ++ at_text (offset_of fault) ++ 10 ∷ []
