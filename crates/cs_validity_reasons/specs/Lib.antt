-- Why a document isn't valid, and what is told of that. What validity is, is in `cs_profile`.
pub mod Causes
pub mod Why
pub mod NumberedCauses
pub mod Closest
pub mod Required
pub mod WhyTold
-- for contracts of private functions and proofs alone
pub mod Led
pub mod PlacedCauses
pub mod PlacedTold
pub mod CauseLists
pub mod Untold
pub mod EarlierPairs
pub mod Refused
pub mod Renamed
