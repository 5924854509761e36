-- What the proofs of this crate show: how lines and columns go on, and that no character of what is shown is hidden.
pub mod Lines
pub mod ShownTexts
mod Samples
