-- what is found in lists, one after another, and sets of texts
pub mod Found
pub mod TextSets
-- where values lead, and what tables tell of definitions
pub mod Leads
pub mod AbsentLabels
pub mod Bodies
-- laws of the definitions
pub mod Copies
pub mod DefaultFiles
pub mod Sizes
-- samples
pub mod Samples
