-- Lemmas of packages that are made of copies.
pub mod Sounds
