-- What the proofs of this crate show: a text has one cut, or is stuck at one place (`cut_once`, `stuck_once`, `cut_not_stuck` in
-- `CutUnique`, by induction on the cut; `cut_or_stuck` in `CutExists`, by induction on the text's length), and the loop of `lex` finds it
-- (`Cutting`).

-- bytes, and the longest front that passes a test
pub mod Runs
pub mod ByteClasses
-- what begins at a place: names, integers, texts, marks, attributes
pub mod Names
pub mod Numbers
pub mod Texts
pub mod Marks
pub mod Fronts
pub mod Attributes
-- the characters of a text and the value of an integer; texts by their parts (`text_parts`)
pub mod CharacterSteps
pub mod Literals
pub mod TextValues
pub mod Numerals
-- the cut: unique, kept by the loop, existing, the same in the wide profile; its tokens as slices
pub mod CutUnique
pub mod Cutting
pub mod CutExists
pub mod CutWide
pub mod Slices
