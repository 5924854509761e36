-- lists and truth values, and what their parts are one after another
pub mod Truths
pub mod Parts
pub mod Tables
pub mod Found
-- names as texts
pub mod Spelled
pub mod Free
pub mod Operands
-- laws of the definitions
pub mod Without
pub mod Written
pub mod Reading
-- samples
pub mod Samples
