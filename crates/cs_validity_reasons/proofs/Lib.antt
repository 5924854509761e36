-- What the proofs of this crate show: what is told of an object's rule is each cause of it, once (`ObjectSound`, `ObjectComplete`, `ObjectOnce`), what
-- isn't satisfied has a cause (`Denied`), rules require as many names as schemas (`names_are` in `NamesCounted`), and what is told over a table of
-- verdicts tells why the document isn't valid (`explained` in `Explained`).

-- what is told of the keywords of an object, keyword by keyword
pub mod CauseLists
pub mod Once
pub mod ObjectSome
pub mod ObjectOnce
pub mod ObjectComplete
pub mod ToldCauses
pub mod ObjectSound
-- counts of the names that rules require
pub mod NamesCounted
-- why documents aren't valid
pub mod Contained
pub mod Caused
pub mod Refused
pub mod Denied
pub mod Pointed
pub mod CausesAgree
pub mod CausesBelow
pub mod CausesNumbered
pub mod Chains
pub mod Whys
pub mod Tells
pub mod Settings
pub mod Parts
pub mod PlacedNamed
pub mod KeyedOnce
pub mod RequiredOnce
pub mod PlacedOnce
pub mod Explained
-- samples
mod RequiredSamples
mod WhySamples
