-- What the proofs of this crate show: what is marked is reached (`Reached`), each cause that is listed keeps the links and the reasons as stated (`Links`,
-- `Tellings`, `Listings`), all pairs are passed (`Passes`), and what is left of the causes is what is followed (`Follows`).
pub mod Bits
pub mod Marked
pub mod Pairs
pub mod Reached
pub mod Lists
pub mod Searched
pub mod Ups
pub mod Links
pub mod Tellings
pub mod Listings
pub mod Passes
pub mod Filtered
pub mod Follows
pub mod Closest
mod Samples
