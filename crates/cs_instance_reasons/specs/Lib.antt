-- Why a document is no instance, and what is told of that.
pub mod Causes
pub mod Why
pub mod NumberedCauses
pub mod SeenCauses
pub mod WhyTold
pub mod Closest
pub mod Meanings
-- for contracts of private functions and proofs alone
pub mod Led
pub mod CauseLists
pub mod Leads
