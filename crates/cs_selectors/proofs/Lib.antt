-- what declarations and fields are one after another, and what tables tell
pub mod Parts
pub mod Tables
pub mod Found
-- laws of the definitions
pub mod Placed
pub mod Without
pub mod Written
-- samples
pub mod Samples
