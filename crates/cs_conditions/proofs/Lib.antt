-- lists, and what their parts are one after another
pub mod Walks
pub mod Parts
pub mod Found
-- conditions one behind the other
pub mod Chains
-- what tables tell of definitions
pub mod Bodies
-- laws of the definitions
pub mod Without
pub mod Written
-- samples
pub mod Samples
