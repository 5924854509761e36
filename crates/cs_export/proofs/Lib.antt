-- What the proofs of this crate show: the components of a schema nest three levels deeper than it at most (`asked_deep` in `Deep`), so
-- that their text is read again; and with their references put back, they are its definitions (`definitions_back` in `Back`).
pub mod Deep
pub mod Back
-- the definitions of a schema document, looked up in the map that it is
pub mod Found
mod Samples
