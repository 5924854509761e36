-- What a packed item is: a list or a map is a range of what all items share.
use Rattle.std.specs.Prelude.{ℕ, ◌+◌, ◌≤◌, List, map, slice_range}
use Rattle.std.specs.Borrow.{Bor}
use Rattle.cs_document.specs.Opened.{Opened, a_null, a_boolean, an_integer, a_text, a_list, an_object}
use Rattle.cs_flat.specs.View.{entry_of}
use Rattle.cs_flat.specs.declared.packed.PackedItem.{PackedItem}
use Rattle.cs_flat.specs.declared.packed.PackedItem.TheVariants.{Null, Bool, Int, Text, List as TheList, Object}

-- the item, with the numbers and the entries that all items share
abbrev pub unpacked : List ℕ → List (Bor (List ℕ) × ℕ) → PackedItem → Opened ℕ
unpacked elements entries Null = a_null
unpacked elements entries (Bool b) = a_boolean b
unpacked elements entries (Int n) = an_integer n
unpacked elements entries (Text s) = a_text s.now
unpacked elements entries (TheList first count) = a_list (slice_range elements first (first + count))
unpacked elements entries (Object first count) = an_object (map entry_of (slice_range entries first (first + count)))

-- its range is within so many numbers, or so many entries
abbrev pub IsWithin : ℕ → ℕ → PackedItem → Type 0
IsWithin elements entries Null = Unit {0}
IsWithin elements entries (Bool b) = Unit {0}
IsWithin elements entries (Int n) = Unit {0}
IsWithin elements entries (Text s) = Unit {0}
IsWithin elements entries (TheList first count) = first + count ≤ elements
IsWithin elements entries (Object first count) = first + count ≤ entries
