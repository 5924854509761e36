-- lists, and what their parts are one after another
pub mod Walks
pub mod Folds
pub mod Parts
pub mod Texts
pub mod BodyTables
pub mod Gone
pub mod Values
pub mod Hiding
pub mod Copied
-- laws of values in their places
pub mod Stays
pub mod InPlaces
