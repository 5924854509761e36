-- Lemmas of the kinds that a definition's instances have.
pub mod Foretold
pub mod LeftOpen
pub mod Items
pub mod Sound
