-- definitions one after another
pub mod Bodies
-- declarations so far
pub mod Likeness
pub mod Clashing
-- what parts find, one after another
pub mod Firsts
-- where nothing is at fault
pub mod Flawless
-- what can be embedded in so many steps can be embedded in more
pub mod Monotone
-- how much alternatives are, how they are found and joined, and what they declare
pub mod Weights
pub mod Left
pub mod Joins
pub mod WellAlternatives
pub mod OwnLiterals
-- declarations of one label that are put together
pub mod Gathering
pub mod GatheredParts
pub mod GatheredSizes
pub mod Listed
pub mod Keeping
pub mod LeftParts
-- what is made of parts one after another, and what expressions stand for
pub mod Parts
pub mod JoinedParts
pub mod Marked
-- what is plain
pub mod Plain
pub mod PlainParts
pub mod JoinedForms
pub mod Literals
pub mod BroughtValues
pub mod FileParts
pub mod FoundFiles
pub mod FileAnswers
-- what is narrowed where it is embedded, and the labels that are declared
pub mod SameSteps
mod ReferredRows
pub mod RowSteps
pub mod LabelSteps
pub mod NarrowedSteps
-- in how many steps definitions can be embedded
pub mod Steps
-- operands as a list of values
pub mod Operands
-- whether each part of a list is well
pub mod Walks
pub mod Some
-- samples
pub mod Samples
-- a law of the definitions
pub mod WrittenFiles
