-- What reports name.
pub mod Pointer
pub mod Valid
