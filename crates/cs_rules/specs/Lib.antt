-- What rules ask, by the verdicts on their parts.
pub mod Steps
pub mod Answers
pub mod Props
pub mod Looks
pub mod Knowns
pub mod Kinds
pub mod Alike
pub mod Lengths
pub mod Classed
pub mod Sharing
pub mod Rows
pub mod Pointers
